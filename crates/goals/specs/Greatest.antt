-- What the scores of the two goals are: the greatest finish, and the greatest lateness.
use Rattle.std.specs.Prelude.{◌≡◌, ℕ, ◌<◌, ◌≤◌, true, List, [], ◌∷◌, length, ℤ, Some, None, int_le, slice_index}
use Rattle.goals.specs.Finishes.{scored}
use Rattle.goals.specs.Scores.{with_finish, lateness_of, with_lateness}

-- m is the greatest of what each vehicle with its finish is worth: none is worth more, and one is worth m
pub record Greatest {X : Type 0} (up_to : X → X → Type 0) (worth : ℕ → ℕ → X) (xs : List ℕ) (m : X) : Type 0 where
  pub above : (v : ℕ) → v < length xs → up_to (worth v (slice_index xs v)) m
  pub met : (v : ℕ) × (v < length xs) × (m ≡ worth v (slice_index xs v))

-- the score of the latest finish: 0 where there is no vehicle, else the greatest finish
pub record LatestFinishIsGreatest : Type 0 where
  pub none : scored with_finish 0 [] ≡ 0
  pub greatest : (x : ℕ) (xs : List ℕ) → Greatest ◌≤◌ (λ _ y. y) (x ∷ xs) (scored with_finish 0 (x ∷ xs))

-- the score of the greatest lateness by these due minutes: absent where there is no vehicle, else the greatest lateness
pub record LatenessIsGreatest (due : List ℕ) : Type 0 where
  pub none : scored (with_lateness due) None [] ≡ None
  pub greatest : (x : ℕ) (xs : List ℕ)
      → (m : ℤ) × (scored (with_lateness due) None (x ∷ xs) ≡ Some m) × Greatest (λ y z. int_le y z ≡ true) (lateness_of due) (x ∷ xs) m
