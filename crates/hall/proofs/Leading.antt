-- The longest front of a list that passes a test.
use Rattle.std.proofs.Common.{◌≡◌, ℕ, ◌<◌, ◌≤◌, Bool, true, false, List, length, get_or, ap, ◌∙◌, ⊎_elim, arith}
use Rattle.std.specs.List.{prefix_len}
use Rattle.std.proofs.lemmas.List.{get_or_past}
use Rattle.std.proofs.lemmas.Bool.{cases_lt}
use Rattle.std.proofs.lemmas.List.Sums.{prefix_len_passes, prefix_len_stops}

-- below the front's length all pass
pub leading_below : {X : Type 0} (p : X → Bool) (xs : List X) (i : ℕ) (d : X) → i < prefix_len p xs → p (get_or xs i d) ≡ true
leading_below p xs i d h = prefix_len_passes p xs i d h

-- what stands behind the front fails
pub leading_at : {X : Type 0} (p : X → Bool) (xs : List X) (d : X) → prefix_len p xs < length xs → p (get_or xs (prefix_len p xs) d) ≡ false
leading_at p xs d h = prefix_len_stops p xs d h

-- where the front is the whole list all pass
pub leading_all : {X : Type 0} (p : X → Bool) (xs : List X) (i : ℕ) (d : X) → p d ≡ true → length xs ≤ prefix_len p xs → p (get_or xs i d) ≡ true
leading_all p xs i d e h =
    ⊎_elim (λ l. prefix_len_passes p xs i d (omega arith)) (λ l. ap p (get_or_past xs i d l) ∙ e) (cases_lt i (length xs))
