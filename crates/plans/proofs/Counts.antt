-- The rows of a leaf are as many as the steps to begin.
use Rattle.std.proofs.Common.{◌≡◌, ℕ, suc, ◌+◌, length, refl, ap, arith}
use Rattle.std.proofs.lemmas.List.{length_push}
use Rattle.hall.specs.Log.{Log}
use Rattle.plans.specs.Meanings.{Hours}
use Rattle.plans.specs.Position.{Position, root, row_of, moved, left}
use Rattle.plans.proofs.Reaching.{Reach, here, go, Leaf, root_rows}
use Rattle.plans.proofs.Moves.{moving, left_less}

one_row : (L : Log) (P : Position) (v b : ℕ) → length (moved L P v b).rows ≡ suc (length P.rows)
unfolding moved
one_row L P v b = let e = length_push P.rows (row_of L P v b) in omega arith

row_count : (H : Hours) (L : Log) (R P : Position) → Reach H L R P → length R.rows + left L R ≡ length P.rows + left L P
row_count H L R P here = refl
row_count H L R P (go {Q = Q} c r) =
    let ih = row_count H L R Q r in
    let m = moving H L P c.vehicle Q c.is in
    let x = left_less L P c.vehicle m.at c.known m.steps_left_is in
    let y = ap (left L) m.gives in
    let z = ap (λ (X : Position). length X.rows) m.gives in
    let o = one_row L P c.vehicle m.at in
    omega arith

pub leaf_rows : (H : Hours) (L : Log) (R : Position) → Leaf H L R → length R.rows ≡ left L (root L)
leaf_rows H L R l =
    let e = row_count H L R (root L) l.reached in
    let z = l.none_left in
    let n = ap length (root_rows L) in
    omega arith
