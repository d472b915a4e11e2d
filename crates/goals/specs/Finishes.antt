-- Lists of finishes, one for each vehicle in the order of their numbers, and their score.
use Rattle.std.specs.Prelude.{◌≡◌, ℕ, ◌+◌, ◌<◌, ◌≤◌, List, [], ◌∷◌, length, slice_index}

-- a score with the finishes of the vehicles v, v + 1, .. added in order
abbrev pub scored_from : {S : Type 0} → (S → ℕ → ℕ → S) → S → ℕ → List ℕ → S
scored_from add s v [] = s
scored_from add s v (x ∷ xs) = scored_from add (add s v x) (v + 1) xs

-- the score of all finishes, where s is that of none
abbrev pub scored : {S : Type 0} → (S → ℕ → ℕ → S) → S → List ℕ → S
scored add s xs = scored_from add s 0 xs

-- the lists that a goal takes
pub record Taken (xs : List ℕ) : Type 0 where
  pub few : length xs ≤ 24
  pub small : (v : ℕ) → v < length xs → slice_index xs v ≤ 2020000

-- of two lists of the same vehicles that a goal takes, no vehicle of the first is later than the same of the second; that
-- the first is taken follows
pub record NoLater (xs ys : List ℕ) : Type 0 where
  pub same : length xs ≡ length ys
  pub taken : Taken ys
  pub below : (v : ℕ) → v < length xs → slice_index xs v ≤ slice_index ys v
