-- Positions that moves reach, and leaves.
use Rattle.std.proofs.Common.{◌≡◌, ℕ, ◌<◌, [], Some, refl}
use Rattle.hall.specs.Log.{Log}
use Rattle.plans.specs.Steps.{fleet}
use Rattle.plans.specs.Meanings.{Hours}
use Rattle.plans.specs.Position.{Position, root, move, left}

-- Q is a child of P
pub record Child (H : Hours) (L : Log) (P Q : Position) : Type 0 where
  pub vehicle : ℕ
  pub known : vehicle < fleet L
  pub is : move H L P vehicle ≡ Some Q

-- moves lead from a position to R
pub data Reach (H : Hours) (L : Log) (R : Position) : Position → Type 0 where
  here : Reach H L R R
  go : {P Q : Position} → Child H L P Q → Reach H L R Q → Reach H L R P

-- R is reached from the root, and no step is left
pub record Leaf (H : Hours) (L : Log) (R : Position) : Type 0 where
  pub reached : Reach H L R (root L)
  pub none_left : left L R ≡ 0

pub reach_child : (H : Hours) (L : Log) (P Q A : Position) → Reach H L P A → Child H L P Q → Reach H L Q A
reach_child H L P Q A here c = go c here
reach_child H L P Q A (go d r) c = go d (reach_child H L P Q _ r c)

-- what each move keeps is kept on the way
pub reach_keeps : (H : Hours) (L : Log) (F : Position → Type 0) → ((P Q : Position) → Child H L P Q → F P → F Q)
    → (R P : Position) → Reach H L R P → F P → F R
reach_keeps H L F step R P here f = f
reach_keeps H L F step R P (go {Q = Q} c r) f = reach_keeps H L F step R Q r (step P Q c f)

pub root_rows : (L : Log) → (root L).rows ≡ []
unfolding root
root_rows L = refl
