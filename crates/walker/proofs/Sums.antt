-- The lengths left of a vehicle, one step at a time.
use Rattle.std.proofs.Common.{◌≡◌, ℕ, ◌+◌, ◌<◌, ◌≤◌, length, drop, sum_by, arith}
use Rattle.std.proofs.lemmas.List.{at_drop_all, get_or_default, length-drop}
use Rattle.std.proofs.lemmas.List.Sums.{sum_by-drop_more, sum_by-le}
use Rattle.std.proofs.lemmas.List.Elements.{All-drop}
use Rattle.std.specs.List.{All}
use Rattle.hall.specs.Log.{blank}
use Rattle.hall.specs.View.{steps_of}
use Rattle.hall.specs.declared.step.StepRecord.{StepRecord}
use Rattle.hall.specs.declared.vehicle.Vehicle.{Vehicle}
use Rattle.walker.specs.Moves.{step_in, RecordOk}
use Rattle.walker.specs.Bounds.{lengths_left}

abbrev len_of : StepRecord → ℕ
len_of s = s.length

pub left_more : (w : Vehicle) (i : ℕ) → i < length (steps_of w) → lengths_left w i ≡ (step_in w i).length + lengths_left w (i + 1)
left_more w i lt = sum_by-drop_more len_of (steps_of w) i blank lt

pub left_none : (w : Vehicle) (i : ℕ) → length (steps_of w) ≤ i → lengths_left w i ≡ 0
left_none w i ge = at_drop_all (sum_by len_of) (steps_of w) i ge

pub left_few : (w : Vehicle) (k : ℕ) → RecordOk w → lengths_left w k ≤ 11520
left_few w k ok =
    let each : All (λ (s : StepRecord). s.length ≤ 1440) (steps_of w) = λ i d h. rw (get_or_default (steps_of w) i d blank h) (ok.lengths i h) in
    let left = sum_by-le len_of 1440 (drop k (steps_of w)) (All-drop (λ (s : StepRecord). s.length ≤ 1440) k (steps_of w) each) in
    omega (arith, left, length-drop k (steps_of w), ok.few)
