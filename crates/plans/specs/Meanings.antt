-- What hours and goals mean to a plan, and their laws.
use Rattle.std.specs.Prelude.{◌≡◌, ℕ, Bool, true, ◌⊎◌, List, map, Option}
use Rattle.std.specs.List.{range_with_len}
use Rattle.goals.specs.Finishes.{scored, NoLater}
use Rattle.hours.specs.Limits.{Within}
use Rattle.hours.specs.Earliest.{earliest_of}

-- hours: the permitted steps, each a station, a begin and a length, and the answer to the question for the least
-- permitted begin on a station, from a minute on, for a length
pub record Hours : Type 0 where
  pub permits : ℕ → ℕ → ℕ → Bool
  pub earliest : ℕ → ℕ → ℕ → Option ℕ

-- the hours of a permitted set, which alone fixes the answers
abbrev pub hours_of : (ℕ → ℕ → ℕ → Bool) → Hours
hours_of p = record { permits = p; earliest = λ station from length. earliest_of (λ b. p station b length) from }

-- the law of hours: nothing is permitted outside the limits
abbrev pub Limited : (ℕ → ℕ → ℕ → Bool) → Type 0
Limited p = (s b n : ℕ) → p s b n ≡ true → Within s b n

-- a goal: the score of no finish, a score with the finish of one vehicle more, and whether a score is no worse than another
pub record Goal (Score : Type 0) : Type 0 where
  pub start : Score
  pub add : Score → ℕ → ℕ → Score
  pub no_worse : Score → Score → Bool

abbrev pub goal_of : {S : Type 0} → S → (S → ℕ → ℕ → S) → (S → S → Bool) → Goal S
goal_of start add no_worse = record { start = start; add = add; no_worse = no_worse }

-- the laws of a goal
pub record Lawful {S : Type 0} (G : Goal S) : Type 0 where
  pub total : (a b : S) → (G.no_worse a b ≡ true) ⊎ (G.no_worse b a ≡ true)
  pub transitive : (a b c : S) → G.no_worse a b ≡ true → G.no_worse b c ≡ true → G.no_worse a c ≡ true
  pub monotone : (xs ys : List ℕ) → NoLater xs ys
      → G.no_worse (scored G.add G.start xs) (scored G.add G.start ys) ≡ true

-- the score of n vehicles that finish at f 0, f 1, ..
unfoldable pub score_of : {S : Type 0} → Goal S → ℕ → (ℕ → ℕ) → S
score_of G n f = scored G.add G.start (map f (range_with_len 0 n))
