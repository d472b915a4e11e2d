-- The rows on the way from one position to another are an immediate run.
use Rattle.std.proofs.Common.{◌≡◌, ℕ, ◌<◌, List, [], ◌∷◌, ◌++◌, Some, sym, refl, ap, ◌∙◌, subst}
use Rattle.std.proofs.lemmas.List.{append_assoc, append-nil}
use Rattle.hall.specs.Log.{Log}
use Rattle.hours.specs.Earliest.{Earliest}
use Rattle.plans.specs.declared.row.Row.{Row}
use Rattle.plans.specs.Steps.{fleet, count, station_of, length_of}
use Rattle.plans.specs.Meanings.{Hours}
use Rattle.plans.specs.Position.{Position, root, ready, row_of, moved, Soonest, Immediate}
use Rattle.plans.proofs.Opening.{HoursOk}
use Rattle.plans.proofs.Reaching.{Reach, here, go, Leaf, root_rows}
use Rattle.plans.proofs.Moves.{asked, moving}

module _ (H : Hours) (ho : HoursOk H) (L : Log) where
  soonest : (P : Position) (v b : ℕ) → v < fleet L → P.begun v < count L v → asked H L P v ≡ Some b
      → Soonest H L P (row_of L P v b)
  soonest P v b known has e = record {
    known = known;
    left = has;
    is = refl;
    least =
        let s = station_of L v (P.begun v) in
        let l = length_of L v (P.begun v) in
        subst (Earliest (λ c. H.permits s c l) (ready L P v)) e (ho.least s (ready L P v) l);
  }

  moved_rows : (P : Position) (v b : ℕ) (rs : List Row) → (moved L P v b).rows ++ rs ≡ P.rows ++ (row_of L P v b ∷ rs)
  unfolding moved
  moved_rows P v b rs = append_assoc P.rows (row_of L P v b ∷ []) rs

  pub immediate : (R P : Position) → Reach H L R P → (rs : List Row) × (R.rows ≡ P.rows ++ rs) × Immediate H L P rs
  immediate R P here = ([], sym (append-nil P.rows), tt)
  immediate R P (go {Q = Q} c r) =
      let v = c.vehicle in
      let m = moving H L P v Q c.is in
      let ih = immediate R Q r in
      let e = ap (λ (X : Position). X.rows ++ ih.0) (sym m.gives) ∙ moved_rows P v m.at ih.0 in (
        row_of L P v m.at ∷ ih.0,
        ih.1 ∙ e,
        (
          soonest P v m.at c.known m.steps_left_is m.answer,
          subst (λ X. Immediate H L X ih.0) (sym m.gives) ih.2,
        ),
      )

  pub leaf_immediate : (R : Position) → Leaf H L R → Immediate H L (root L) R.rows
  leaf_immediate R l =
      let i = immediate R (root L) l.reached in
      subst (Immediate H L (root L)) (sym (i.1 ∙ ap (λ (rs : List Row). rs ++ i.0) (root_rows L))) i.2
