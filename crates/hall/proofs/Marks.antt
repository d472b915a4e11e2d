-- What begin and finish write into the table is what the rules write into the log.
use Rattle.std.proofs.Common.{◌≡◌, ℕ, ◌<◌, [], map, length, get_or, take, set, Ok, sym, ap, ◌∙◌, subst, arith}
use Rattle.std.proofs.Math.Seq.{take-set-lt}
use Rattle.std.proofs.lemmas.List.{get_or-map, get_or-take, length-map, length-take, map-set}
use Rattle.hall.specs.declared.board.Board.{Board}
use Rattle.hall.specs.declared.step.Progress.{Progress}
use Rattle.hall.specs.declared.step.Progress.TheVariants.{Running, Done}
use Rattle.hall.specs.declared.step.StepRecord.{StepRecord}
use Rattle.hall.specs.declared.vehicle.Vehicle.{Vehicle}
use Rattle.hall.specs.Log.{Log, vehicle_at, step_at, blank, marked, begin_of, steps_with}
use Rattle.hall.specs.Rules.{Call, begin, finish, begin_answer, finish_answer, written}
use Rattle.hall.specs.View.{steps_of, log_of}
use Rattle.hall.specs.Hall.{hall_log}
use Rattle.hall.specs.Job.{Config, config_of, Begins, Finishes}
use Rattle.hall.specs.Lasting.{Lasting}
use Rattle.hall.proofs.BeginSteps.{begins}
use Rattle.hall.proofs.Begins.{may_begin}
use Rattle.hall.proofs.Enters.{log}
use Rattle.hall.proofs.Finishes.{may_finish}
use Rattle.hall.proofs.FinishSteps.{finishes}
use Rattle.hall.proofs.Keeping.{lasts_begin, lasts_finish}

-- the log l with progress p at step n of vehicle v: call c writes it, every board keeps it, and the composition's step leads there
pub record Marking (l : Log) (c : Call) (Takes : Config → Type 0) (v n : ℕ) (p : Progress) : Type 0 where
  pub known : v < length l.vehicles
  pub few : n < 8
  pub log : marked l v n p ≡ written l c
  pub lasts : Lasting (marked l v n p)
  pub takes : Takes (config_of (marked l v n p))

-- so it is for a begin and for a finish that are accepted
module _ (l : Log) (v n : ℕ) (k : Lasting l) where
  pub begin_marks : Ok n ≡ begin_answer l v → Marking l (begin v) (Begins l v n) v n (Running l.minute)
  begin_marks ok =
      let m = may_begin l v n ok in
      record {
        known = m.known;
        few = omega (arith, m.left, k.eight v);
        log = ap (λ j. marked l v j (Running l.minute)) m.next;
        lasts = lasts_begin l v n k m;
        takes = begins l v n k m;
      }

  pub finish_marks : Ok n ≡ finish_answer l v → Marking l (finish v) (Finishes l v n) v n (Done (begin_of (step_at l v n).progress) l.minute)
  finish_marks ok =
      let m = may_finish l v n ok in
      record {
        known = m.known;
        few = omega (arith, m.within, k.eight v);
        log = ap (λ j. marked l v j (Done (begin_of (step_at l v j).progress) l.minute)) m.step;
        lasts = lasts_finish l v n k m;
        takes = finishes l v n k m;
      }

-- the board with `new` as the record of vehicle v, where step n was written: its log is what call c writes, is kept, and is where the composition's step leads
pub record Wrote (b : Board) (c : Call) (Takes : Config → Type 0) (v n : ℕ) (new : Vehicle) : Type 0 where
  pub few : n < 8
  pub log : log_of (set b.vehicles v new) b.count b.minute ≡ written (hall_log b) c
  pub lasts : ∥ Lasting (log_of (set b.vehicles v new) b.count b.minute) ∥₁
  pub takes : Takes (config_of (log_of (set b.vehicles v new) b.count b.minute))

-- so it is where the record's step n has got that progress
module _ (b : Board) (c : Call) (Takes : Config → Type 0) (v n : ℕ) (p : StepRecord → Progress) (d new : Vehicle)
    (k : Marking (hall_log b) c Takes v n (p (step_at (hall_log b) v n)))
    (steps : steps_of new
    ≡ steps_with (steps_of (get_or b.vehicles v d)) n (p (get_or (steps_of (get_or b.vehicles v d)) n blank))) where
  in_count : (v < b.count) × (v < length (take b.count b.vehicles))
  in_count = omega (arith, k.known, length-map (take b.count b.vehicles) steps_of, length-take b.count b.vehicles)

  row : vehicle_at (hall_log b) v ≡ steps_of (get_or b.vehicles v d)
  row = get_or-map steps_of (take b.count b.vehicles) v d [] in_count.1 ∙ ap steps_of (get_or-take b.count b.vehicles v d in_count.0)

  marks : log_of (set b.vehicles v new) b.count b.minute ≡ marked (hall_log b) v n (p (step_at (hall_log b) v n))
  marks =
      ap (log b.minute) (ap (map steps_of) (take-set-lt b.count b.vehicles v new in_count.0)
      ∙ (map-set steps_of (take b.count b.vehicles) v new
      ∙ ap (set (hall_log b).vehicles v) (steps
      ∙ ap (λ rs. steps_with rs n (p (get_or rs n blank))) (sym row))))

  pub wrote : Wrote b c Takes v n new
  wrote = record {
    few = k.few;
    log = marks ∙ k.log;
    lasts = subst (λ l. ∥ Lasting l ∥₁) (sym marks) ∣ k.lasts ∣₁;
    takes = subst (λ l. Takes (config_of l)) (sym marks) k.takes;
  }
