-- Enter keeps what every board keeps.
use Rattle.std.proofs.Common.{◌≡◌, ℕ, zero, suc, ◌+◌, ◌<◌, ◌≤◌, true, ◌⊎◌, List, [], ◌∷◌, ◌++◌, map, length, get_or, None, sym, refl, ap, ◌∙◌, subst, inl, inr, ⊎_elim, arith}
use Rattle.std.proofs.lemmas.List.{get_or_past, length_push, length-map}
use Rattle.std.proofs.lemmas.Bool.{cases_lt}
use Rattle.hall.specs.declared.step.Progress.TheVariants.{Waiting}
use Rattle.hall.specs.declared.step.Step.{Step}
use Rattle.hall.specs.declared.step.StepRecord.{StepRecord}
use Rattle.hall.specs.Log.{Log, step_at, blank, running, begun, finished, begin_of, end_of, least_time}
use Rattle.hall.specs.Rules.{step_fault, enter_log, booked}
use Rattle.hall.specs.Lasting.{Lasting, clear}
use Rattle.hall.proofs.Keeping.{running_begun, done_begun}

-- a booked step within the limits
record Within (s : StepRecord) : Type 0 where
  placed : s.station ≤ 15
  shortest : 1 ≤ s.length
  longest : s.length ≤ 1440

first_within : (k : ℕ) (s : Step) (ss : List Step) → step_fault k (s ∷ ss) ≡ None → Within (booked s) × (step_fault (k + 1) ss ≡ None)
first_within k s ss h = (record { placed = grind arith; shortest = grind arith; longest = grind arith }, grind arith)

-- the steps of a booking without a fault are within the limits
within : (k : ℕ) (ss : List Step) → step_fault k ss ≡ None → (j : ℕ) → j < length (map booked ss) → Within (get_or (map booked ss) j blank)
within k [] h j lt = absurd (omega arith)
within k (s ∷ ss) h zero lt = (first_within k s ss h).0
within k (s ∷ ss) h (suc j) lt = within (k + 1) ss (first_within k s ss h).1 j (omega arith)

-- what holds of each vehicle and of the new one
each_row : (P : List StepRecord → Type 0) (vs : List (List StepRecord)) (row : List StepRecord) → P row
    → ((u : ℕ) → u < length vs → P (get_or vs u [])) → (u : ℕ) → u < length (vs ++ (row ∷ [])) → P (get_or (vs ++ (row ∷ [])) u [])
each_row P [] row new old zero h = new
each_row P [] row new old (suc u) h = absurd (omega arith)
each_row P (v ∷ vs) row new old zero h = old 0 (omega arith)
each_row P (v ∷ vs) row new old (suc u) h = each_row P vs row new (λ w l. old (suc w) (omega arith)) u (omega arith)

-- and of a vehicle without steps
every_row : (P : List StepRecord → Type 0) (vs : List (List StepRecord)) (row : List StepRecord) → P [] → P row
    → ((u : ℕ) → P (get_or vs u [])) → (u : ℕ) → P (get_or (vs ++ (row ∷ [])) u [])
every_row P vs row none new old u =
    ⊎_elim (each_row P vs row new (λ w l. old w) u) (λ ge. subst P (sym (get_or_past (vs ++ (row ∷ [])) u [] ge)) none)
    (cases_lt u (length (vs ++ (row ∷ []))))

waits_row : (ss : List Step) (i : ℕ) → (get_or (map booked ss) i blank).progress ≡ Waiting
waits_row [] i = refl
waits_row (s ∷ ss) zero = refl
waits_row (s ∷ ss) (suc i) = waits_row ss i

-- the records differ only between waiting ones
abbrev pub Quiet : StepRecord → StepRecord → Type 0
Quiet s s' = (s' ≡ s) ⊎ ((s'.progress ≡ Waiting) × (s.progress ≡ Waiting))

pub quiet_enter : (vs : List (List StepRecord)) (ss : List Step) (u i : ℕ)
    → Quiet (get_or (get_or vs u []) i blank) (get_or (get_or (vs ++ (map booked ss ∷ [])) u []) i blank)
quiet_enter [] ss zero i = inr (waits_row ss i, refl)
quiet_enter [] ss (suc u) i = inl refl
quiet_enter (v ∷ vs) ss zero i = inl refl
quiet_enter (v ∷ vs) ss (suc u) i = quiet_enter vs ss u i

-- a step that is begun, before or after, is the same
same_after : (s s' : StepRecord) → Quiet s s' → begun s' ≡ true → s' ≡ s
same_after s s' q h = grind arith

same_before : (s s' : StepRecord) → Quiet s s' → begun s ≡ true → s' ≡ s
same_before s s' q h = grind arith

-- what holds of minutes that are 0 or recorded
minute_same : (f : StepRecord → ℕ) (s s' : StepRecord) → ((r : StepRecord) → r.progress ≡ Waiting → f r ≡ 0) → Quiet s s' → f s' ≤ f s
minute_same f s s' zero_of (inl e) = omega (arith, ap f e)
minute_same f s s' zero_of (inr w) = omega (arith, zero_of s' w.0)

pub lasts_enter : (l : Log) (ss : List Step) → Lasting l → length l.vehicles < 24 → 1 ≤ length ss → length ss ≤ 8
    → step_fault 0 ss ≡ None → Lasting (enter_log l ss)
lasts_enter l ss k room some few none =
    let vs = l.vehicles in
    let row = map booked ss in
    let len : length (map booked ss) ≡ length ss = length-map ss booked in
    let ok : (j : ℕ) → j < length (map booked ss) → Within (get_or (map booked ss) j blank) = within 0 ss none in
    let q : (u i : ℕ) → Quiet (step_at l u i) (step_at (enter_log l ss) u i) = λ u i. quiet_enter l.vehicles ss u i in
    let now : (u i : ℕ) → begun (step_at (enter_log l ss) u i) ≡ true → step_at (enter_log l ss) u i ≡ step_at l u i
    = λ u i. same_after _ _ (q u i) in
    let was : (u i : ℕ) → begun (step_at l u i) ≡ true → step_at (enter_log l ss) u i ≡ step_at l u i
    = λ u i. same_before _ _ (q u i) in
    let ended : (u i : ℕ) → end_of (step_at (enter_log l ss) u i).progress ≤ end_of (step_at l u i).progress
    = λ u i. minute_same (λ r. end_of r.progress) _ _ (λ r e. ap end_of e) (q u i) in
    let started : (u i : ℕ) → begin_of (step_at (enter_log l ss) u i).progress ≤ begin_of (step_at l u i).progress
    = λ u i. minute_same (λ r. begin_of r.progress) _ _ (λ r e. ap begin_of e) (q u i) in
    record {
      few = omega (arith, length_push vs row);
      some = each_row (λ rs. 1 ≤ length rs) vs row (omega arith) k.some;
      eight = every_row (λ rs. length rs ≤ 8) vs row (omega arith) (omega arith) k.eight;
      placed = every_row (λ rs. (j : ℕ) → (get_or rs j blank).station ≤ 15) vs row (λ j. omega arith)
          (λ j. ⊎_elim (λ lt. (ok j lt).placed) (λ ge. omega (arith, ap (λ r. r.station) (get_or_past row j blank ge))) (cases_lt j (length row)))
          k.placed;
      shortest = every_row (λ rs. (j : ℕ) → j < length rs → 1 ≤ (get_or rs j blank).length) vs row (λ j h. absurd (omega arith))
          (λ j h. (ok j h).shortest) k.shortest;
      longest = every_row (λ rs. (j : ℕ) → (get_or rs j blank).length ≤ 1440) vs row (λ j. omega arith)
          (λ j. ⊎_elim (λ lt. (ok j lt).longest) (λ ge. omega (arith, ap (λ r. r.length) (get_or_past row j blank ge))) (cases_lt j (length row)))
          k.longest;
      ordered = λ v a b lt h.
          let f = k.ordered v a b lt (ap begun (sym (now v b h)) ∙ h) in
          ap finished (was v a (done_begun _ f)) ∙ f;
      follows = λ v a b lt h.
          omega (arith, ended v a, k.follows v a b lt (ap begun (sym (now v b h)) ∙ h), ap (λ r. begin_of r.progress) (now v b h));
      exclusive = λ u v a b ne f g e.
          let x = now u a (running_begun _ f) in
          let y = now v b (running_begun _ g) in
          k.exclusive u v a b ne (ap (λ r. running r.progress) (sym x) ∙ f) (ap (λ r. running r.progress) (sym y) ∙ g)
          (ap (λ r. r.station) (sym x) ∙ (e ∙ ap (λ r. r.station) y));
      apart = λ u v a b ne f g e.
          let x = now u a f in
          let y = now v b g in
          ap (λ r. clear r (step_at (enter_log l ss) v b)) x ∙ (ap (clear (step_at l u a)) y
          ∙ k.apart u v a b ne (ap begun (sym x) ∙ f) (ap begun (sym y) ∙ g) (ap (λ r. r.station) (sym x) ∙ (e ∙ ap (λ r. r.station) y)));
      whole = λ v j h.
          let x = now v j (done_begun _ h) in
          subst (λ r. begin_of r.progress + least_time r.length ≤ end_of r.progress) (sym x) (k.whole v j (ap finished (sym x) ∙ h));
      begins = λ v j. omega (arith, k.begins v j, started v j);
      ends = λ v j. omega (arith, k.ends v j, ended v j);
      day = k.day;
    }
