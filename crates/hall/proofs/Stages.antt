-- A vehicle is between two steps, or runs one: what then is its next step, its place and its clock.
use Rattle.std.proofs.Common.{◌≡◌, ℕ, ◌+◌, ◌-◌, ◌<◌, ◌≤◌, true, false, not, List, length, get_or, sym, refl, ap, ◌∙◌, ⊎_elim, arith}
use Rattle.std.proofs.lemmas.List.{get_or_past}
use Rattle.std.proofs.lemmas.List.Sums.{prefix_len_is}
use Rattle.std.proofs.lemmas.Bool.{cases_lt, cases_eq, cases_Bool, both_ways}
use Rattle.hall.specs.declared.step.Progress.{Progress}
use Rattle.hall.specs.declared.step.Progress.TheVariants.{Running, Done}
use Rattle.hall.specs.declared.step.StepRecord.{StepRecord}
use Rattle.hall.specs.Job.{waits, runs, before, place_of, last_begin}
use Rattle.hall.specs.Log.{Log, vehicle_at, step_at, blank, begun, idle, finished, running, waiting, begin_of, next_step, running_step, steps_with}
use Rattle.hall.specs.Lasting.{Lasting}
use Rattle.hall.proofs.Keeping.{done_begun, done_idle, running_begun}
use Rattle.hall.proofs.Spots.{length-steps_with, step-steps_with, other-steps_with}

-- n steps are finished, and the others wait
pub record Between (rs : List StepRecord) (n : ℕ) : Type 0 where
  pub few : n ≤ length rs
  pub earlier : (a : ℕ) → a < n → finished (get_or rs a blank) ≡ true
  pub later : (b : ℕ) → n ≤ b → begun (get_or rs b blank) ≡ false

-- n steps are finished, the next one runs since minute m, and the others wait
pub record Within (rs : List StepRecord) (n m : ℕ) : Type 0 where
  pub few : n < length rs
  pub earlier : (a : ℕ) → a < n → finished (get_or rs a blank) ≡ true
  pub here : (get_or rs n blank).progress ≡ Running m
  pub later : (b : ℕ) → n < b → begun (get_or rs b blank) ≡ false

waiting_idle : (p : Progress) → not (waiting p) ≡ false → not (running p) ≡ true
waiting_idle p h = grind arith

module _ (rs : List StepRecord) (n : ℕ) (k : Between rs n) where
  pub between_next : next_step rs ≡ n
  between_next = prefix_len_is begun rs n blank k.few (λ a lt. done_begun _ (k.earlier a lt)) (λ lt. k.later n (omega arith))

  -- none of the steps runs
  rests : (i : ℕ) → idle (get_or rs i blank) ≡ true
  rests i =
      ⊎_elim (λ lt. ap not (done_idle _ (k.earlier i lt))) (λ ge. waiting_idle _ (k.later i ge)) (cases_lt i n)

  pub between_running : running_step rs ≡ length rs
  between_running = prefix_len_is idle rs (length rs) blank (omega arith) (λ i lt. rests i) (λ lt. absurd (omega arith))

  pub between_place : place_of rs ≡ before (length rs) n
  between_place = let e = between_running in let f = between_next in grind arith

module _ (rs : List StepRecord) (n m : ℕ) (k : Within rs n m) where
  pub within_next : next_step rs ≡ n + 1
  within_next =
      prefix_len_is begun rs (n + 1) blank (omega (arith, k.few))
      (λ a lt. ⊎_elim (λ e. ap (λ i. begun (get_or rs i blank)) e ∙ ap (λ p. not (waiting p)) k.here)
      (λ ne. done_begun _ (k.earlier a (omega arith))) (cases_eq a n))
      (λ lt. k.later (n + 1) (omega arith))

  pub within_running : running_step rs ≡ n
  within_running =
      prefix_len_is idle rs n blank (omega (arith, k.few)) (λ a lt. ap not (done_idle _ (k.earlier a lt)))
      (λ lt. ap (λ p. not (running p)) k.here)

  pub within_place : place_of rs ≡ runs n
  within_place = let e = within_running in grind arith

  pub within_last : last_begin rs ≡ m
  within_last =
      let e : next_step rs - 1 ≡ n = omega (arith, within_next) in
      ap (λ i. begin_of (get_or rs i blank).progress) e ∙ ap begin_of k.here

-- the last begin stays where the last step's end is recorded
pub between_last : (rs : List StepRecord) (n : ℕ) → Between rs (n + 1) → last_begin rs ≡ begin_of (get_or rs n blank).progress
between_last rs n k =
    let e : next_step rs - 1 ≡ n = omega (arith, between_next rs (n + 1) k) in
    ap (λ i. begin_of (get_or rs i blank).progress) e

-- which place it is tells which step runs or comes next
pub place_runs : (rs : List StepRecord) (i : ℕ) → place_of rs ≡ runs i → (running_step rs ≡ i) × (i < length rs)
place_runs rs i h = (grind arith, grind arith)

pub place_waits : (rs : List StepRecord) (i : ℕ) → place_of rs ≡ waits i → (length rs ≤ running_step rs) × (next_step rs ≡ i) × (i < length rs)
place_waits rs i h = (grind arith, grind arith, grind arith)

-- a vehicle between two steps that begins one runs it
pub begun_within : (rs : List StepRecord) (n m : ℕ) → n < length rs → Between rs n
    → Within (steps_with rs n (Running m)) n m
begun_within rs n m lt k = record {
  few = omega (arith, length-steps_with rs n (Running m));
  earlier = λ a l. ap finished (other-steps_with rs n (Running m) a (λ e. omega arith)) ∙ k.earlier a l;
  here = ap (λ r. r.progress) (step-steps_with rs n (Running m) lt);
  later = λ b l. ap begun (other-steps_with rs n (Running m) b (λ e. omega arith)) ∙ k.later b (omega arith);
}

-- and one that finishes it is between two again
pub finished_between : (rs : List StepRecord) (n m e : ℕ) → Within rs n m
    → Between (steps_with rs n (Done m e)) (n + 1)
finished_between rs n m e k = record {
  few = omega (arith, length-steps_with rs n (Done m e), k.few);
  earlier = λ a l. ⊎_elim
      (λ q. ap (λ i. finished (get_or (steps_with rs n (Done m e)) i blank)) q ∙ ap finished (step-steps_with rs n (Done m e) k.few))
      (λ ne. ap finished (other-steps_with rs n (Done m e) a ne) ∙ k.earlier a (omega arith)) (cases_eq a n);
  later = λ b l. ap begun (other-steps_with rs n (Done m e) b (λ q. omega arith)) ∙ k.later b (omega arith);
}

running_is : (p : Progress) → running p ≡ true → p ≡ Running (begin_of p)
running_is p h = grind arith

-- a vehicle of which a step runs, runs that one
pub running_within : (l : Log) → Lasting l → (u i : ℕ) → running (step_at l u i).progress ≡ true
    → Within (vehicle_at l u) i (begin_of (step_at l u i).progress)
running_within l k u i h = record {
  few = ⊎_elim (λ lt. lt)
      (λ ge. absurd (both_ways false refl (ap (λ r. running r.progress) (sym (get_or_past (vehicle_at l u) i blank ge)) ∙ h)))
      (cases_lt i (length (vehicle_at l u)));
  earlier = λ a lt. k.ordered u a i lt (running_begun _ h);
  here = running_is _ h;
  later = λ b lt. ⊎_elim (λ g. absurd (both_ways _ (done_idle _ (k.ordered u i b lt g)) h)) (λ g. g) (cases_Bool (begun (step_at l u b)));
}
