-- What every board keeps, said of its log. A step outside the log reads as `blank`, which waits.
use Rattle.std.specs.Prelude.{◌≡◌, ℕ, ◌+◌, ◌<◌, ◌≤◌, Bool, true, ◌&&◌, ◌||◌, length, ◌≢◌, nat_le}
use Rattle.hall.specs.Log.{Log, vehicle_at, step_at, begun, finished, running, begin_of, end_of, least_time}
use Rattle.hall.specs.declared.step.StepRecord.{StepRecord}

-- one of two begun steps was over when the other began
abbrev pub clear : StepRecord → StepRecord → Bool
clear a b =
    (finished a && nat_le (end_of a.progress) (begin_of b.progress))
    || (finished b && nat_le (end_of b.progress) (begin_of a.progress))

pub record Lasting (l : Log) : Type 0 where
  -- at most 24 vehicles, each with 1 to 8 steps
  pub few : length l.vehicles ≤ 24
  pub some : (v : ℕ) → v < length l.vehicles → 1 ≤ length (vehicle_at l v)
  pub eight : (v : ℕ) → length (vehicle_at l v) ≤ 8
  -- stations are 0 to 15, lengths 1 to 1,440 minutes
  pub placed : (v j : ℕ) → (step_at l v j).station ≤ 15
  pub shortest : (v j : ℕ) → j < length (vehicle_at l v) → 1 ≤ (step_at l v j).length
  pub longest : (v j : ℕ) → (step_at l v j).length ≤ 1440
  -- steps are begun in order, each after the ones before it are finished: so at most one step of a vehicle runs
  pub ordered : (v i j : ℕ) → i < j → begun (step_at l v j) ≡ true → finished (step_at l v i) ≡ true
  -- a step begins no earlier than the steps before it ended
  pub follows : (v i j : ℕ) → i < j → begun (step_at l v j) ≡ true
      → end_of (step_at l v i).progress ≤ begin_of (step_at l v j).progress
  -- no station has two running steps
  pub exclusive : (u v i j : ℕ) → (u ≡ v → i ≢ j)
      → running (step_at l u i).progress ≡ true → running (step_at l v j).progress ≡ true
      → (step_at l u i).station ≢ (step_at l v j).station
  -- two begun steps on one station do not overlap
  pub apart : (u v i j : ℕ) → (u ≡ v → i ≢ j) → begun (step_at l u i) ≡ true → begun (step_at l v j) ≡ true
      → (step_at l u i).station ≡ (step_at l v j).station → clear (step_at l u i) (step_at l v j) ≡ true
  -- a finished step took at least its least time
  pub whole : (v j : ℕ) → finished (step_at l v j) ≡ true
      → begin_of (step_at l v j).progress + least_time (step_at l v j).length ≤ end_of (step_at l v j).progress
  -- no recorded minute is after now
  pub begins : (v j : ℕ) → begin_of (step_at l v j).progress ≤ l.minute
  pub ends : (v j : ℕ) → end_of (step_at l v j).progress ≤ l.minute
  -- the last minute is 1,000,000
  pub day : l.minute ≤ 1000000
