-- Positions due, children, and what the trail of a search holds due.
use Rattle.std.specs.Prelude.{◌≡◌, ℕ, zero, suc, ◌+◌, ◌-◌, ◌<◌, ◌≤◌, List, [], ◌∷◌, ◌++◌, length, take, Some, None, Option, slice_index_or, slice_set}
use Rattle.hall.specs.declared.vehicle.Vehicle.{Vehicle}
use Rattle.plans.specs.declared.row.Row.{Row}
use Rattle.walker.specs.declared.position.Position.{Position}
use Rattle.walker.specs.declared.position.Move.{Move}
use Rattle.walker.specs.declared.trail.Frame.{Frame}
use Rattle.walker.specs.declared.trail.Trail.{Trail}
use Rattle.walker.specs.Moves.{Query, advanced, row_in, begin_in, CanMove, Sane, steps_left}

-- a position that is due, with the rows that led to it
pub record Due : Type 0 where
  pub at : Position
  pub rows : List Row

abbrev pub child : List Vehicle → Position → List Row → ℕ → ℕ → Due
child J p rs v b = record { at = advanced J p v b; rows = rs ++ (row_in J p v b ∷ []) }

abbrev pub child_by : List Vehicle → Position → List Row → ℕ → Option ℕ → List Due
child_by J p rs v None = []
child_by J p rs v (Some b) = child J p rs v b ∷ []

-- the children by the k vehicles from v on
abbrev pub children : Query → List Vehicle → Position → List Row → ℕ → ℕ → List Due
children E J p rs v zero = []
children E J p rs v (suc k) = child_by J p rs v (begin_in E J p v) ++ children E J p rs (v + 1) k

abbrev pub children_from : Query → List Vehicle → Position → List Row → ℕ → List Due
children_from E J p rs v = children E J p rs v (length J - v)

-- the first move from a frame: with none no child is left, else its child is the first of those left
abbrev pub Found : Query → List Vehicle → Frame → Option Move → Type 0
Found E J f None = (rs : List Row) → children_from E J f.at rs f.next ≡ []
Found E J f (Some m) = CanMove J f.at m.vehicle m.begin ×
    ((rs : List Row) → children_from E J f.at rs f.next ≡ child J f.at rs m.vehicle m.begin ∷ children_from E J f.at rs (m.vehicle + 1))

abbrev pub no_position : Position
no_position = record { vehicles = []; stations = []; clock = 0 }

abbrev pub no_frame : Frame
no_frame = record { at = no_position; next = 0 }

abbrev pub frame_in : List Frame → ℕ → Frame
frame_in fs i = slice_index_or fs i no_frame

abbrev pub top_of : Trail → Frame
top_of s = frame_in s.frames.items (length s.frames.items - 1)

-- what the first d frames still hold due
abbrev pub below : Query → List Vehicle → List Frame → List Row → ℕ → List Due
below E J fs path zero = []
below E J fs path (suc d) = children_from E J (frame_in fs d).at (take d path) (frame_in fs d).next ++ below E J fs path d

-- the same with the top frame itself due
abbrev pub due_upto : Query → List Vehicle → List Frame → List Row → ℕ → List Due
due_upto E J fs path zero = []
due_upto E J fs path (suc d) = record { at = (frame_in fs d).at; rows = take d path } ∷ below E J fs path d

abbrev pub due_of : Query → List Vehicle → Trail → List Due
due_of E J s = due_upto E J s.frames.items s.path.items (length s.frames.items)

-- the same once the top frame is visited
abbrev pub due_left : Query → List Vehicle → Trail → List Due
due_left E J s = below E J s.frames.items s.path.items (length s.frames.items)

-- t is the trail s after a move from its top frame
pub record Pushed (J : List Vehicle) (m : Move) (s t : Trail) : Type 0 where
  pub frames : t.frames.items ≡ slice_set s.frames.items (length s.frames.items - 1) (record { at = (top_of s).at; next = m.vehicle + 1 })
      ++ record { at = advanced J (top_of s).at m.vehicle m.begin; next = 0 } ∷ []
  pub path : t.path.items ≡ s.path.items ++ row_in J (top_of s).at m.vehicle m.begin ∷ []
  pub steps : t.steps ≡ s.steps

-- t is the trail s with v as the next vehicle to move from its top frame
pub record Turned (v : ℕ) (s t : Trail) : Type 0 where
  pub frames : t.frames.items ≡ slice_set s.frames.items (length s.frames.items - 1) (record { at = (top_of s).at; next = v })
  pub path : t.path.items ≡ s.path.items
  pub steps : t.steps ≡ s.steps

-- t is the trail s with the children of its top frame due
abbrev pub Opened : Trail → Trail → Type 0
Opened s t = Turned 0 s t

-- t is the trail s without its top frame and the row that led to it
pub record Popped (s t : Trail) : Type 0 where
  pub frames : t.frames.items ≡ take (length s.frames.items - 1) s.frames.items
  pub path : t.path.items ≡ take (length s.path.items - 1) s.path.items
  pub steps : t.steps ≡ s.steps

-- a position i moves below a root with R steps to begin
pub record FrameOk (J : List Vehicle) (R i : ℕ) (p : Position) : Type 0 where
  pub sane : Sane p
  pub few : steps_left J p (length J) + i ≡ R

-- the path has a row for each move
pub record TrailOk (J : List Vehicle) (s : Trail) : Type 0 where
  pub rows : length s.path.items ≡ length s.frames.items - 1
  pub few : s.steps ≤ 192
  pub each : (i : ℕ) → i < length s.frames.items → FrameOk J s.steps i (frame_in s.frames.items i).at
