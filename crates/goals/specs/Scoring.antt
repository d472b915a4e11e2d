-- The score of a list of finishes: one finish more, and that scores grow with the finishes where adding one keeps the order.
use Rattle.std.specs.Prelude.{◌≡◌, ℕ, suc, ◌+◌, ◌<◌, ◌≤◌, List, [], ◌∷◌, length, drop, slice_index}
use Rattle.std.proofs.Common.{sym, ap, ◌∙◌, arith}
use Rattle.std.proofs.lemmas.List.{at_drop_more}
use Rattle.goals.specs.Finishes.{scored_from, scored, NoLater}

module _ {S : Type 0} (add : S → ℕ → ℕ → S) (R : S → S → Type 0)
    (keeps : (s t : S) (v x y : ℕ) → v < 24 → x ≤ y → y ≤ 2020000 → R s t → R (add s v x) (add t v y)) where
  from_vehicle : (xs ys : List ℕ) (s t : S) (v : ℕ) → R s t → length xs ≡ length ys → v + length xs ≤ 24
      → ((k : ℕ) → k < length ys → slice_index ys k ≤ 2020000) → ((k : ℕ) → k < length xs → slice_index xs k ≤ slice_index ys k)
      → R (scored_from add s v xs) (scored_from add t v ys)
  from_vehicle [] [] s t v r same few small below = r
  from_vehicle [] (y ∷ ys) s t v r same few small below = absurd (omega arith)
  from_vehicle (x ∷ xs) [] s t v r same few small below = absurd (omega arith)
  from_vehicle (x ∷ xs) (y ∷ ys) s t v r same few small below =
      from_vehicle xs ys (add s v x) (add t v y) (v + 1)
      (keeps s t v x y (omega arith) (below 0 (omega arith)) (small 0 (omega arith)) r)
      (omega arith) (omega arith) (λ k h. small (suc k) (omega arith)) (λ k h. below (suc k) (omega arith))

  pub monotone_by_step : (s : S) → R s s → (xs ys : List ℕ) → NoLater xs ys → R (scored add s xs) (scored add s ys)
  monotone_by_step s r xs ys n =
      from_vehicle xs ys s s 0 r n.same (omega (arith, n.same, n.taken.few)) n.taken.small n.below

-- one finish more is added to the score
pub scored_more : {S : Type 0} (add : S → ℕ → ℕ → S) (s t : S) (v : ℕ) (xs : List ℕ) → v < length xs → t ≡ add s v (slice_index xs v)
    → scored_from add t (v + 1) (drop (v + 1) xs) ≡ scored_from add s v (drop v xs)
scored_more add s t v xs lt e =
    ap (λ u. scored_from add u (v + 1) (drop (v + 1) xs)) e ∙ sym (at_drop_more (scored_from add s v) xs v 0 lt)
