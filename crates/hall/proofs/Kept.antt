-- The invariant has at most one proof, so a board gives it.
use mathlib.Core.Logic.{∥∥₁_elim}
use mathlib.Core.HLevel.{Π_prop}
use mathlib.Core.Bool.{Bool-set}
use native.Mathlib.Bridge.{le_prop}
use Rattle.hall.specs.Log.{Log}
use Rattle.hall.specs.Lasting.{Lasting}
use Rattle.hall.specs.Hall.{hall_log}
use Rattle.hall.specs.declared.board.Board.{Board}

lasting_prop : (l : Log) → Prim.IsProp (Lasting l)
lasting_prop l p q = λ i. record {
  few = le_prop p.few q.few i;
  some = Π_prop (λ v. Π_prop (λ h. le_prop)) p.some q.some i;
  eight = Π_prop (λ v. le_prop) p.eight q.eight i;
  placed = Π_prop (λ v. Π_prop (λ a. le_prop)) p.placed q.placed i;
  shortest = Π_prop (λ v. Π_prop (λ a. Π_prop (λ h. le_prop))) p.shortest q.shortest i;
  longest = Π_prop (λ v. Π_prop (λ a. le_prop)) p.longest q.longest i;
  ordered = Π_prop (λ v. Π_prop (λ a. Π_prop (λ b. Π_prop (λ lt. Π_prop (λ h. Bool-set _ _))))) p.ordered q.ordered i;
  follows = Π_prop (λ v. Π_prop (λ a. Π_prop (λ b. Π_prop (λ lt. Π_prop (λ h. le_prop))))) p.follows q.follows i;
  exclusive = Π_prop (λ u. Π_prop (λ v. Π_prop (λ a. Π_prop (λ b. Π_prop (λ n. Π_prop (λ f. Π_prop (λ g. Π_prop (λ s. λ x y. absurd x)))))))) p.exclusive q.exclusive i;
  apart = Π_prop (λ u. Π_prop (λ v. Π_prop (λ a. Π_prop (λ b. Π_prop (λ n. Π_prop (λ f. Π_prop (λ g. Π_prop (λ s. Bool-set _ _)))))))) p.apart q.apart i;
  whole = Π_prop (λ v. Π_prop (λ a. Π_prop (λ h. le_prop))) p.whole q.whole i;
  begins = Π_prop (λ v. Π_prop (λ a. le_prop)) p.begins q.begins i;
  ends = Π_prop (λ v. Π_prop (λ a. le_prop)) p.ends q.ends i;
  day = le_prop p.day q.day i;
}

-- what every board keeps
pub kept : (b : Board) → Lasting (hall_log b)
kept b = ∥∥₁_elim b.lasting (lasting_prop (hall_log b)) (λ k. k)
