-- Laws of `before`, `tally`, `parted` and `ended`.
use Rattle.std.proofs.Common.{◌≡◌, ℕ, Option, None, Some, unwrap_or, not, suc, ◌+◌, ◌-◌, ◌<◌, ◌≤◌, true, false, cond, eqb, List, [], ◌∷◌, length, take, drop, sym, refl, ap, ◌∙◌, ⊎_elim, add-one, arith}
use Rattle.std.proofs.lemmas.List.{length-drop, drop-drop, take_all}
use Rattle.std.proofs.lemmas.List.Folds.{length-prefix_len}
use Rattle.std.proofs.lemmas.List.Splits.{slice_split_none, slice_split_first, length-slice_split}
use Rattle.std.proofs.lemmas.List.Sums.{prefix_len-le-length, fails_before_first, take_while-cons}
use Rattle.std.proofs.lemmas.Bool.{cases_lt, cond-true, cond-false, lt-ltb, le-ltb}
use Rattle.std.specs.List.{position, position_or_len, onto_first}
use Rattle.text.specs.Split.{before, tally, parted, ended}

-- how long `before` is
pub length-before : (b : ℕ) (xs : List ℕ) → length (before b xs) ≡ position_or_len (λ x. eqb x b) xs
length-before b xs = length-prefix_len (λ x. not (eqb x b)) xs

-- the first place, or the length where there is none
pub first_place : (b : ℕ) (xs : List ℕ) (r : Option ℕ) → r ≡ position (λ x. eqb x b) xs → unwrap_or r (length xs) ≡ length (before b xs)
first_place b xs r e =
    let n = position_or_len (λ x. eqb x b) xs in
    ap (λ o. unwrap_or o (length xs)) e
    ∙ ⊎_elim
    (λ l. ap (λ o. unwrap_or o (length xs)) (cond-true _ (Some n) None (lt-ltb n (length xs) l)))
    (λ l. ap (λ o. unwrap_or o (length xs)) (cond-false _ (Some n) None (le-ltb n (length xs) l)) ∙ omega (arith, prefix_len-le-length (λ x. not (eqb x b)) xs))
    (cases_lt n (length xs))
    ∙ sym (length-before b xs)

-- `before` is no longer than the list
pub before_short : (b : ℕ) (xs : List ℕ) → length (before b xs) ≤ length xs
before_short b xs = omega (arith, length-before b xs, prefix_len-le-length (λ x. not (eqb x b)) xs)

-- `before` is a front of the list
pub before_take : (b : ℕ) (xs : List ℕ) → take (length (before b xs)) xs ≡ before b xs
before_take b xs = ap (λ n. take n xs) (length-before b xs)

-- where no b is left, all is one piece
pub parted_last : (b : ℕ) (xs : List ℕ) → length (before b xs) ≡ length xs → parted b xs ≡ xs ∷ []
parted_last b xs h = slice_split_none (λ x. eqb x b) xs (λ k d l. fails_before_first (λ x. eqb x b) xs k d (omega (arith, length-before b xs)))

-- where a b is left, the first piece ends there and the others are those behind it
pub parted_more : (b : ℕ) (xs : List ℕ) → length (before b xs) < length xs → parted b xs ≡ before b xs ∷ parted b (drop (suc (length (before b xs))) xs)
parted_more b xs h =
    let n = length-before b xs in
    slice_split_first (λ x. eqb x b) xs 0 (omega arith)
    ∙ ap (λ k. before b xs ∷ parted b (drop k xs)) (let s : position_or_len (λ x. eqb x b) xs + 1 ≡ suc (length (before b xs)) = omega arith in s)

-- the first piece and the others
pub parted_first : (b : ℕ) (xs : List ℕ) → parted b xs ≡ before b xs ∷ drop 1 (parted b xs)
parted_first b xs =
    ⊎_elim
    (λ l. let e = parted_more b xs l in e ∙ ap (λ ps. before b xs ∷ drop 1 ps) (sym e))
    (λ l.
    let e = parted_last b xs (omega (arith, before_short b xs)) in
    let all : before b xs ≡ xs = sym (before_take b xs) ∙ take_all (length (before b xs)) xs l in
    e ∙ ap (λ p. p ∷ []) (sym all) ∙ ap (λ ps. before b xs ∷ drop 1 ps) (sym e))
    (cases_lt (length (before b xs)) (length xs))

-- there is one piece more than there are bytes b
pub length-parted : (b : ℕ) (xs : List ℕ) → length (parted b xs) ≡ suc (tally b xs)
length-parted b xs = length-slice_split (λ x. eqb x b) xs ∙ add-one (tally b xs)

-- there is a piece
pub parted_some : (b : ℕ) (xs : List ℕ) → 0 < length (parted b xs)
parted_some b xs = omega (arith, length-parted b xs)

pub before_cons : (b x : ℕ) (xs : List ℕ) → before b (x ∷ xs) ≡ cond (eqb x b) [] (x ∷ before b xs)
before_cons b x xs =
    take_while-cons (λ y. not (eqb y b)) x xs ∙ elim (eqb x b) as (λ t. cond (not t) (x ∷ before b xs) [] ≡ cond t [] (x ∷ before b xs)) [ true ↦ refl | false ↦ refl ]

-- the first piece that b ends, and those behind the b
pub ended_more : (b : ℕ) (xs : List ℕ) → 0 < length xs → ended b xs ≡ before b xs ∷ ended b (drop (suc (length (before b xs))) xs)
ended_more b [] h = absurd (omega arith)
ended_more b (x ∷ []) h =
    rw (before_cons b x [])
    (elim (eqb x b) as (λ t. cond t ([] ∷ []) (onto_first x []) ≡ cond t [] (x ∷ []) ∷ ended b (drop (length (cond t [] (x ∷ []))) [])) [ true ↦ refl | false ↦ refl ])
ended_more b (x ∷ (y ∷ xs)) h =
    rw (before_cons b x (y ∷ xs))
    (elim (eqb x b) as (λ t. cond t ([] ∷ ended b (y ∷ xs)) (onto_first x (ended b (y ∷ xs))) ≡ cond t [] (x ∷ before b (y ∷ xs)) ∷ ended b (drop (length (cond t [] (x ∷ before b (y ∷ xs)))) (y ∷ xs))) [
      | true ↦ refl
      | false ↦ ap (onto_first x) (ended_more b (y ∷ xs) (omega arith))
    ])

-- the piece of xs that begins at `at`, with the index `end` where it ends, as `find` gives it
module _ (b : ℕ) (xs : List ℕ) (at end : ℕ) where
  -- what stands behind the b that ends it
  behind : end ≡ at + length (before b (drop at xs)) → drop (suc (length (before b (drop at xs)))) (drop at xs) ≡ drop (end + 1) xs
  behind e =
      let n = length (before b (drop at xs)) in
      drop-drop (suc n) at xs ∙ ap (λ k. drop k xs) (let s : at + suc n ≡ end + 1 = omega arith in s)

  -- its bytes are a part of the whole
  pub piece_bytes : end ≡ at + length (before b (drop at xs)) → take (end - at) (drop at xs) ≡ before b (drop at xs)
  piece_bytes e = ap (λ n. take n (drop at xs)) (let s : end - at ≡ length (before b (drop at xs)) = omega arith in s) ∙ before_take b (drop at xs)

  -- a line, and the lines behind it
  pub line_at : at < length xs → end ≡ at + length (before b (drop at xs)) → ended b (drop at xs) ≡ take (end - at) (drop at xs) ∷ ended b (drop (end + 1) xs)
  line_at h e =
      ended_more b (drop at xs) (omega (arith, length-drop at xs))
      ∙ ap (λ p. before b (drop at xs) ∷ ended b p) (behind e)
      ∙ ap (λ l. l ∷ ended b (drop (end + 1) xs)) (sym (piece_bytes e))
