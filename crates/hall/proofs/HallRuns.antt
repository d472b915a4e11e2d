-- The laws over series of calls.
use Rattle.std.proofs.Common.{◌≡◌, ℕ, not, List, [], ◌∷◌, map, Ok, Err, Result, sym, refl, ap, ◌∙◌, subst, inl, inr, ⊎_elim, arith}
use mathlib.Core.Path.{fun_ext}
use Rattle.std.proofs.lemmas.List.{length-map}
use Rattle.std.specs.List.{AllByRecursion}
use Rattle.hall.specs.declared.board.Board.{Board}
use Rattle.hall.specs.declared.fault.BoardFault.{BoardFault}
use Rattle.hall.specs.declared.step.Progress.{Progress}
use Rattle.hall.specs.declared.step.Progress.TheVariants.{Waiting, Running, Done}
use Rattle.hall.specs.declared.step.Step.{Step}
use Rattle.hall.specs.Automaton.{Discrete, starting, Run}
use Rattle.hall.specs.Automaton as automaton
use Rattle.hall.specs.Hall.{hall_log, Called}
use Rattle.hall.specs.Job.{Place, Config, before, hall_automaton, booking_of, jobs_of, config_of, Begins, Finishes}
use Rattle.hall.specs.Log.{Log, empty_log, vehicle_at, step_at, marked, waiting, begin_of}
use Rattle.hall.specs.Rules.{Call, enter, begin, finish, pass, answer_to, written, after, log_after_all, enter_log}
use Rattle.hall.specs.Series.{Made, Led, left, KeptFromArguments, Accepted, Enters, Works, duration_of, run_step, RunFrom, RunsAsComposed}
use Rattle.hall.proofs.Configurations.{same_jobs}
use Rattle.hall.proofs.Kept.{kept}
use Rattle.hall.proofs.KeptByEnter.{quiet_enter}
use Rattle.hall.proofs.Marks.{Marking, begin_marks, finish_marks}
use Rattle.hall.proofs.PassSteps.{passes}
use Rattle.hall.proofs.Stages.{between_place}

-- each call leaves the log that its arguments make
pub kept_from_arguments : (b : Board) → KeptFromArguments b
kept_from_arguments b [] h = refl
kept_from_arguments b (m ∷ ms) h =
    kept_from_arguments m.board ms h.1 ∙ ap (λ l. log_after_all l (map (λ x. x.call) ms)) h.0.log

-- what holds of the log whether or not the call was accepted
either_way : (P : Log → Type 0) (r : Result ℕ BoardFault) (new old : Log) → P new → P old → P (after r new old)
either_way P (Ok n) new old x y = x
either_way P (Err e) new old x y = y

-- a hall at minute 0 in which nothing is begun
record Fresh (l : Log) : Type 0 where
  at_zero : l.minute ≡ 0
  waits : (v j : ℕ) → (step_at l v j).progress ≡ Waiting

fresh_enter : (l : Log) (ss : List Step) → Fresh l → Fresh (enter_log l ss)
fresh_enter l ss f = record {
  at_zero = f.at_zero;
  waits = λ v j. ⊎_elim (λ e. ap (λ r. r.progress) e ∙ f.waits v j) (λ w. w.0) (quiet_enter l.vehicles ss v j);
}

fresh_call : (b b' : Board) (c : Call) (r : Result ℕ BoardFault) → Called b c r b' → Enters c → Fresh (hall_log b) → Fresh (hall_log b')
fresh_call b b' (enter ss) r h e f =
    subst Fresh (sym h.log) (either_way Fresh (answer_to (hall_log b) (enter ss)) _ _ (fresh_enter (hall_log b) ss f) f)
fresh_call b b' (begin v) r h e f = absurd e
fresh_call b b' (finish v) r h e f = absurd e
fresh_call b b' (pass m) r h e f = absurd e

fresh_left : (b : Board) (es : List Made) → Led b es → AllByRecursion (λ m. Enters m.call) es → Fresh (hall_log b) → Fresh (hall_log (left b es))
fresh_left b [] h e f = f
fresh_left b (m ∷ es) h e f =
    fresh_left m.board es h.1 e.1 (fresh_call b m.board m.call m.answer h.0 e.0 f)

-- its configuration is the composition's start
fresh_start : (l : Log) → Fresh l → config_of l ≡ starting (hall_automaton (jobs_of l))
fresh_start l f =
    let state : (config_of l).state ≡ (hall_automaton (jobs_of l)).start
    = fun_ext (λ v.
    between_place (vehicle_at l v) 0 (record {
      few = omega arith;
      earlier = λ a lt. absurd (omega arith);
      later = λ b ge. ap (λ p. not (waiting p)) (f.waits v b);
    })
    ∙ ap (λ c. before c 0) (sym (length-map (vehicle_at l v) booking_of))) in
    let clocks : (config_of l).clocks ≡ (λ c. 0) = fun_ext (λ d. omega (arith, f.at_zero)) in
    ap (λ q. config q (config_of l).clocks) state ∙ ap (config (hall_automaton (jobs_of l)).start) clocks
  where
    config : (ℕ → Place) → (ℕ × Unit {0} → ℕ) → Config
    config q c = record { state = q; clocks = c }

-- an accepted call leaves the log that it writes
left_log : (b b' : Board) (c : Call) (n : ℕ) → Called b c (Ok n) b' → hall_log b' ≡ written (hall_log b) c
left_log b b' c n h = h.log ∙ ap (λ r. after r (written (hall_log b) c) (hall_log b)) (sym h.answer)

-- where it marks a step, that is a discrete step of the composition, and leaves the jobs
by_mark : (b b' : Board) (c : Call) (Takes : Config → Type 0) (v n : ℕ) (p : Progress) → Marking (hall_log b) c Takes v n p
    → Called b c (Ok n) b' → Discrete (hall_automaton (jobs_of (hall_log b))) (config_of (hall_log b)) (config_of (marked (hall_log b) v n p))
    → automaton.Step (hall_automaton (jobs_of (hall_log b))) 0 (config_of (hall_log b)) (config_of (hall_log b'))
    × (jobs_of (hall_log b') ≡ jobs_of (hall_log b))
by_mark b b' c Takes v n p k h s =
    let e : hall_log b' ≡ marked (hall_log b) v n p = left_log b b' c n h ∙ sym k.log in (
      inl (refl, subst (λ x. Discrete (hall_automaton (jobs_of (hall_log b))) (config_of (hall_log b)) (config_of x)) (sym e) s),
      ap jobs_of e ∙ same_jobs (hall_log b) v n p k.known,
    )

-- an accepted call is a step of the composition, and leaves the jobs
step_of : (b b' : Board) (c : Call) (n : ℕ) → Called b c (Ok n) b' → Works c
    → automaton.Step (hall_automaton (jobs_of (hall_log b))) (duration_of c) (config_of (hall_log b)) (config_of (hall_log b'))
    × (jobs_of (hall_log b') ≡ jobs_of (hall_log b))
step_of b b' (enter ss) n h w = absurd w
step_of b b' (begin v) n h w =
    let k = begin_marks (hall_log b) v n (kept b) h.answer in
    by_mark b b' (begin v) (Begins (hall_log b) v n) v n (Running b.minute) k h k.takes.step
step_of b b' (finish v) n h w =
    let k = finish_marks (hall_log b) v n (kept b) h.answer in
    by_mark b b' (finish v) (Finishes (hall_log b) v n) v n (Done (begin_of (step_at (hall_log b) v n).progress) b.minute) k h k.takes.step
step_of b b' (pass t) n h w =
    let e = left_log b b' (pass t) n h in (
      inr (subst (λ x. automaton.Elapses t (config_of (hall_log b)) (config_of x)) (sym e) (passes (hall_log b) (kept b) t n h.answer).step),
      ap jobs_of e,
    )

-- accepted calls, one after another, are a run
runs_on : (jobs : ℕ → List Step) (b : Board) (ms : List Made) → jobs_of (hall_log b) ≡ jobs → Led b ms
    → AllByRecursion (λ m. Works m.call × Accepted m) ms → Run (hall_automaton jobs) (config_of (hall_log b)) (map run_step ms)
runs_on jobs b [] j h e = tt
runs_on jobs b (m ∷ ms) j h e =
    let n = e.0.1.0 in
    let c : Called b m.call (Ok n) m.board = subst (λ r. Called b m.call r m.board) e.0.1.1 h.0 in
    let s = step_of b m.board m.call n c e.0.0 in (
      subst (λ J. automaton.Step (hall_automaton J) (duration_of m.call) (config_of (hall_log b)) (config_of (hall_log m.board))) j s.0,
      runs_on jobs m.board ms (s.1 ∙ j) h.1 e.1,
    )

pub runs_as_composed : (b : Board) → hall_log b ≡ empty_log → RunsAsComposed b
runs_as_composed b empty es ms enters all-enter works all-work =
    let none : Fresh (hall_log b) = subst Fresh (sym empty) (record { at_zero = refl; waits = λ v j. refl }) in
    let start = fresh_start (hall_log (left b es)) (fresh_left b es enters all-enter none) in (
      start,
      subst (λ x. RunFrom (left b es) x ms) start (runs_on (jobs_of (hall_log (left b es))) (left b es) ms refl works all-work),
    )
