-- Timed automata, with time in whole minutes.
use Rattle.std.specs.Prelude.{◌≡◌, ℕ, ◌+◌, Bool, true, if◌then◌else◌, ◌⊎◌, List, [], ◌∷◌}

-- a transition leads from a state to a state; its guard says at which clock values it may be taken, and it resets
-- some of the clocks
pub record Transition (Q C : Type 0) : Type 0 where
  pub from : Q
  pub guard : (C → ℕ) → Bool
  pub resets : C → Bool
  pub to : Q

-- a timed automaton over the states Q and the clocks C: a start, a final state, and the transitions that it has
pub record Automaton (Q C : Type 0) : Type 1 where
  pub start : Q
  pub final : Q
  pub Has : Transition Q C → Type 0

-- a state and a value of each clock
pub record Configuration (Q C : Type 0) : Type 0 where
  pub state : Q
  pub clocks : C → ℕ

-- the automaton as it starts: all clocks at 0
abbrev pub starting : {Q C : Type 0} → Automaton Q C → Configuration Q C
starting A = record { state = A.start; clocks = λ c. 0 }

-- the clocks after a reset of some of them
abbrev pub reset : {C : Type 0} → (C → Bool) → (C → ℕ) → C → ℕ
reset some clocks c = if some c then 0 else clocks c

-- a discrete step: a transition whose guard holds is taken
pub record Discrete {Q C : Type 0} (A : Automaton Q C) (x y : Configuration Q C) : Type 0 where
  pub move : Transition Q C
  pub has : A.Has move
  pub leaves : x.state ≡ move.from
  pub allowed : move.guard x.clocks ≡ true
  pub enters : y.state ≡ move.to
  pub clocks : y.clocks ≡ reset move.resets x.clocks

-- a time step: n minutes pass, on every clock
pub record Elapses {Q C : Type 0} (n : ℕ) (x y : Configuration Q C) : Type 0 where
  pub state : y.state ≡ x.state
  pub clocks : y.clocks ≡ (λ c. x.clocks c + n)

-- a step of n minutes; a discrete step takes none
abbrev pub Step : {Q C : Type 0} → Automaton Q C → ℕ → Configuration Q C → Configuration Q C → Type 0
Step A n x y = ((n ≡ 0) × Discrete A x y) ⊎ Elapses n x y

-- a run: steps one after another, each with its minutes and the configuration that it leads to
abbrev pub Run : {Q C : Type 0} → Automaton Q C → Configuration Q C → List (ℕ × Configuration Q C) → Type 0
Run A x [] = Unit {0}
Run A x (s ∷ ss) = Step A s.0 x s.1 × Run A s.1 ss
