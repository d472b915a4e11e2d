-- Why goals are refused: for each case its number and the index that it tells; and which due minutes are refused.
use Rattle.std.specs.Prelude.{ℕ, Bool, if◌then◌else◌, not, List, length, position, Some, Option, ◌==◌, nat_le}
use Rattle.std.specs.Option.{option_map}
use Rattle.goals.specs.declared.fault.GoalFault.{GoalFault}
use Rattle.goals.specs.declared.fault.GoalFault.TheVariants.{DueCount, DueBeyond}

abbrev pub refusal_of : GoalFault → ℕ
refusal_of DueCount = 34
refusal_of (DueBeyond i) = 34

abbrev pub index_of : GoalFault → ℕ
index_of DueCount = 24
index_of (DueBeyond i) = i

-- a minute that may be due
abbrev pub may_be_due : ℕ → Bool
may_be_due d = nat_le d 2000000

-- a wrong count, else the first due minute beyond the last one
abbrev pub due_fault : List ℕ → Option GoalFault
due_fault ds =
    if length ds == 24
    then option_map DueBeyond (position (λ d. not (may_be_due d)) ds)
    else Some DueCount
