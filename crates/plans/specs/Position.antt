-- Positions of the walk: the root of a log, the move of a vehicle, the bound, and runs of moves that begin each step as
-- soon as the position allows.
use Rattle.std.specs.Prelude.{option_map, ◌≡◌, ℕ, zero, suc, ◌+◌, ◌-◌, ◌<◌, max, Bool, List, [], ◌∷◌, ◌++◌, Some, None, Option, if◌then◌else◌, ◌==◌, nat_lt}
use Rattle.hall.specs.Log.{Log}
use Rattle.hall.specs.declared.step.Progress.{Progress}
use Rattle.hall.specs.declared.step.Progress.TheVariants.{Waiting, Running, Done}
use Rattle.hours.specs.Earliest.{Earliest}
use Rattle.plans.specs.declared.row.Row.{Row}
use Rattle.plans.specs.Steps.{fleet, count, station_of, length_of, progress_of, begun_of}
use Rattle.plans.specs.Meanings.{Hours, Goal, score_of}
use Rattle.plans.specs.Plan.{put, end_by}

-- the greatest of f 0 .. f (n - 1), 0 for none; and their sum
unfoldable pub max_below : ℕ → (ℕ → ℕ) → ℕ
max_below zero f = 0
max_below (suc n) f = max (max_below n f) (f n)

unfoldable pub sum_below : ℕ → (ℕ → ℕ) → ℕ
sum_below zero f = 0
sum_below (suc n) f = sum_below n f + f n

-- for each vehicle its begun steps and the minute from which it is free, for each station the minute from which it is free,
-- the clock, and the rows of the moves that led here, in their order
pub record Position : Type 0 where
  pub begun : ℕ → ℕ
  pub free_vehicle : ℕ → ℕ
  pub free_station : ℕ → ℕ
  pub clock : ℕ
  pub rows : List Row

-- a vehicle of which k steps are begun is free at the end of the last of them, 0 if there is none
unfoldable pub free_after : Log → ℕ → ℕ → ℕ
free_after L v zero = 0
free_after L v (suc k) = end_by L.minute (length_of L v k) (progress_of L v k)

-- a running step takes its station until the later of now and begin plus length
abbrev pub runs_until : ℕ → ℕ → Progress → ℕ
runs_until now length Waiting = 0
runs_until now length (Running b) = max now (b + length)
runs_until now length (Done b e) = 0

unfoldable pub taken_until : Log → ℕ → ℕ → ℕ → ℕ
taken_until L s v k = if station_of L v k == s then runs_until L.minute (length_of L v k) (progress_of L v k) else 0

unfoldable pub station_free : Log → ℕ → ℕ
station_free L s = max_below (fleet L) (λ v. max_below (count L v) (taken_until L s v))

-- the root of a log: the clock is now
unfoldable pub root : Log → Position
root L = record {
  begun = begun_of L;
  free_vehicle = λ v. free_after L v (begun_of L v);
  free_station = station_free L;
  clock = L.minute;
  rows = [];
}

-- the minute from which vehicle v could begin its next step, but for the hours
unfoldable pub ready : Log → Position → ℕ → ℕ
ready L P v = max P.clock (max (P.free_vehicle v) (P.free_station (station_of L v (P.begun v))))

-- the row of vehicle v's next step, begun at b
abbrev pub row_of : Log → Position → ℕ → ℕ → Row
row_of L P v b = record {
  vehicle = v;
  step = P.begun v;
  station = station_of L v (P.begun v);
  begin = b;
  end = b + length_of L v (P.begun v);
}

-- the position after vehicle v begins its next step at b
unfoldable pub moved : Log → Position → ℕ → ℕ → Position
moved L P v b = record {
  begun = put P.begun v (suc (P.begun v));
  free_vehicle = put P.free_vehicle v (b + length_of L v (P.begun v));
  free_station = put P.free_station (station_of L v (P.begun v)) (b + length_of L v (P.begun v));
  clock = b;
  rows = P.rows ++ (row_of L P v b ∷ []);
}

-- the move of vehicle v, if it has a step left and the hours permit a begin
unfoldable pub move : Hours → Log → Position → ℕ → Option Position
move H L P v =
    if nat_lt (P.begun v) (count L v)
    then option_map (moved L P v) (H.earliest (station_of L v (P.begun v)) (ready L P v) (length_of L v (P.begun v)))
    else None

-- how many steps are left to begin, and whether none is
unfoldable pub left : Log → Position → ℕ
left L P = sum_below (fleet L) (λ v. count L v - P.begun v)

unfoldable pub is_leaf : Log → Position → Bool
is_leaf L P = left L P == 0

-- the sum of m lengths from step k on
unfoldable pub lengths : Log → ℕ → ℕ → ℕ → ℕ
lengths L v k zero = 0
lengths L v k (suc m) = length_of L v k + lengths L v (suc k) m

-- a vehicle with steps left finishes no sooner than its lengths left after the later of clock and free minute, any other
-- finishes at its free minute
unfoldable pub bound_finish : Log → Position → ℕ → ℕ
bound_finish L P v =
    if nat_lt (P.begun v) (count L v)
    then max P.clock (P.free_vehicle v) + lengths L v (P.begun v) (count L v - P.begun v)
    else P.free_vehicle v

-- the bound of a position: the goal's score of these finishes. With no step left it is the score of the plan itself
unfoldable pub bound : {S : Type 0} → Goal S → Log → Position → S
bound G L P = score_of G (fleet L) (bound_finish L P)

-- row r begins the next step of its vehicle at the least permitted minute from which position P allows it
pub record Soonest (H : Hours) (L : Log) (P : Position) (r : Row) : Type 0 where
  pub known : r.vehicle < fleet L
  pub left : P.begun r.vehicle < count L r.vehicle
  pub is : r ≡ row_of L P r.vehicle r.begin
  pub least : Earliest (λ b. H.permits r.station b (length_of L r.vehicle r.step)) (ready L P r.vehicle) (Some r.begin)

-- an immediate run: each row begins its step as soon as the position that the rows before it left allows
abbrev pub Immediate : Hours → Log → Position → List Row → Type 0
Immediate H L P [] = Unit {0}
Immediate H L P (r ∷ rs) = Soonest H L P r × Immediate H L (moved L P r.vehicle r.begin) rs
