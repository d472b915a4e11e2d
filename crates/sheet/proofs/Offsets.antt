-- The fields of a line stand at their offsets.
use Rattle.std.proofs.Common.{◌≡◌, ℕ, zero, suc, ◌+◌, ◌<◌, List, [], ◌∷◌, ◌++◌, length, get_or, take, drop, sym, refl, ap, ◌∙◌, subst, arith}
use Rattle.std.proofs.lemmas.List.{take_all, take_at, drop_at, drop-drop}
use Rattle.std.specs.List.{join_with_byte}
use Rattle.text.proofs.Pieces.{parts}
use Rattle.text.specs.Split.{parted}
use Rattle.sheet.specs.Reading.{offset_of, FieldsStand}

-- past one piece and the byte behind it
past : (b : ℕ) (p rest : List ℕ) (o : ℕ) → drop (length p + 1 + o) (p ++ (b ∷ rest)) ≡ drop o rest
past b p rest o =
    let s : length p + 1 + o ≡ length p + suc o = omega arith in
    ap (λ n. drop n (p ++ (b ∷ rest))) s
    ∙ (sym (drop-drop (suc o) (length p) (p ++ (b ∷ rest))) ∙ ap (drop (suc o)) (drop_at p (b ∷ rest) (length p) refl))

stands : (b : ℕ) (ps : List (List ℕ)) (k : ℕ) → k < length ps
    → take (length (get_or ps k [])) (drop (offset_of ps k) (join_with_byte b ps)) ≡ get_or ps k []
stands b [] k h = absurd (omega arith)
stands b (p ∷ []) zero h = take_all (length p) p (omega arith)
stands b (p ∷ []) (suc k) h = absurd (omega arith)
stands b (p ∷ q ∷ ps) zero h = take_at p _ (length p) refl
stands b (p ∷ q ∷ ps) (suc k) h =
    ap (take (length (get_or (q ∷ ps) k []))) (past b p (join_with_byte b (q ∷ ps)) (offset_of (q ∷ ps) k)) ∙ stands b (q ∷ ps) k (omega arith)

pub fields_stand : (bs : List ℕ) → FieldsStand bs
fields_stand bs k h =
    subst (λ xs. take (length (get_or (parted 9 bs) k [])) (drop (offset_of (parted 9 bs) k) xs) ≡ get_or (parted 9 bs) k [])
    (parts 9 bs).whole (stands 9 (parted 9 bs) k h)
