-- The mutual exclusion composition of timed automata that share stations.
use Rattle.std.specs.Prelude.{◌≡◌, ℕ, false, if◌then◌else◌, Some, Option, ◌==◌}
use Rattle.hall.specs.Automaton.{Transition, Automaton}

-- the family f with x at place a
abbrev pub put : {X : Type 0} → (ℕ → X) → ℕ → X → ℕ → X
put f a x b = if b == a then x else f b

-- a state of the composition, one of each automaton, is free of conflict: no two automata use one station.
-- `uses a q` is the station that automaton a uses in its state q, if any
abbrev pub Free : {Q : Type 0} → (ℕ → Q → Option ℕ) → (ℕ → Q) → Type 0
Free uses q = (a b s : ℕ) → uses a (q a) ≡ Some s → uses b (q b) ≡ Some s → a ≡ b

-- automaton a makes its own transition m, and the others stay; clock (b, c) is the clock c of automaton b
abbrev pub alone : {Q C : Type 0} → (ℕ → Q) → ℕ → Transition Q C → Transition (ℕ → Q) (ℕ × C)
alone q a m = record {
  from = q;
  guard = λ clocks. m.guard (λ c. clocks (a, c));
  resets = λ d. if d.0 == a then m.resets d.1 else false;
  to = put q a m.to;
}

-- the composition's transitions: one automaton makes one of its own, from and to a state without conflict
pub record Composed {Q C : Type 0} (A : ℕ → Automaton Q C) (uses : ℕ → Q → Option ℕ) (t : Transition (ℕ → Q) (ℕ × C)) : Type 0 where
  pub who : ℕ
  pub move : Transition Q C
  pub has : (A who).Has move
  pub from : t.from who ≡ move.from
  pub is : t ≡ alone t.from who move
  pub free_from : Free uses t.from
  pub free_to : Free uses t.to

-- the product of the automata, without the states in conflict
abbrev pub composition : {Q C : Type 0} → (ℕ → Automaton Q C) → (ℕ → Q → Option ℕ) → Automaton (ℕ → Q) (ℕ × C)
composition A uses = record { start = λ a. (A a).start; final = λ a. (A a).final; Has = Composed A uses }
