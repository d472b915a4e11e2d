-- Bytes cut at a byte b.
use Rattle.std.specs.Prelude.{◌≡◌, ℕ, ◌⊎◌, List, [], ◌∷◌, ◌++◌, ◌==◌, if◌then◌else◌, count_by}
use Rattle.std.specs.List.{flat_map, join_with_byte, before_first, slice_split, onto_first, AllByRecursion}
use Rattle.std.specs.Str.Iter.{LacksByte}

-- the bytes before the first b: all where there is none
abbrev pub before : ℕ → List ℕ → List ℕ
before b xs = before_first (λ x. x == b) xs

-- how many bytes are b
abbrev pub tally : ℕ → List ℕ → ℕ
tally b xs = count_by (λ x. x == b) xs

-- the pieces that b parts, as a tab parts fields: one more than there are bytes b
abbrev pub parted : ℕ → List ℕ → List (List ℕ)
parted b xs = slice_split (λ x. x == b) xs

-- the pieces that b ends, as a line feed ends lines: bytes after the last b are a piece too
abbrev pub ended : ℕ → List ℕ → List (List ℕ)
ended b [] = []
ended b (x ∷ xs) = if x == b then [] ∷ ended b xs else onto_first x (ended b xs)

-- what parting means: put together again with b between them, the pieces are the bytes, and none of them has a b
pub record Parts (b : ℕ) (xs : List ℕ) : Type 0 where
  pub whole : join_with_byte b (parted b xs) ≡ xs
  pub clean : AllByRecursion (LacksByte b) (parted b xs)

-- a piece with its b
abbrev pub closed : ℕ → List ℕ → List ℕ
closed b p = p ++ (b ∷ [])

-- what ending means: each with its b, the pieces are the bytes, or would be with one more b at their end, and none of
-- them has a b
pub record Ends (b : ℕ) (xs : List ℕ) : Type 0 where
  pub whole : (flat_map (closed b) (ended b xs) ≡ xs) ⊎ (flat_map (closed b) (ended b xs) ≡ xs ++ (b ∷ []))
  pub clean : AllByRecursion (LacksByte b) (ended b xs)
