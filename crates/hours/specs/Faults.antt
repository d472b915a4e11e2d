-- Why hours are refused: for each case its number and the index that it tells; and which windows and closures are refused.
use Rattle.std.specs.Prelude.{ℕ, if◌then◌else◌, not, List, length, position, Some, None, Option, nat_lt}
use Rattle.std.specs.Option.{option_map}
use Rattle.hours.specs.declared.fault.HoursFault.{HoursFault}
use Rattle.hours.specs.declared.fault.HoursFault.TheVariants.{WindowCount, WindowOutside, ClosureOutside}
use Rattle.hours.specs.declared.window.Window.{Window}
use Rattle.hours.specs.Window.{lawful}

abbrev pub refusal_of : HoursFault → ℕ
refusal_of WindowCount = 32
refusal_of (WindowOutside i) = 32
refusal_of ClosureOutside = 33

abbrev pub index_of : HoursFault → Option ℕ
index_of WindowCount = Some 256
index_of (WindowOutside i) = Some i
index_of ClosureOutside = None

-- too many windows, else the first that is outside its limits
abbrev pub windows_fault : List Window → Option HoursFault
windows_fault ws =
    if nat_lt 256 (length ws)
    then Some WindowCount
    else option_map WindowOutside (position (λ w. not (lawful w)) ws)

-- a closure of station s from minute a up to minute z has the limits of a window
abbrev pub closure_fault : ℕ → ℕ → ℕ → Option HoursFault
closure_fault s a z = if lawful (record { station = s; from = a; to = z }) then None else Some ClosureOutside
