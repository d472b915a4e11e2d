-- The least permitted begin, as a relation and as a function of the permitted begins alone.
use Rattle.std.specs.Prelude.{◌≡◌, ℕ, zero, suc, ◌+◌, ◌-◌, ◌<◌, ◌≤◌, Bool, true, false, if◌then◌else◌, Some, None, Option}

-- r is the least begin at `from` or later that p permits, or there is none and p permits no such begin
abbrev pub Earliest : (ℕ → Bool) → ℕ → Option ℕ → Type 0
Earliest p from None = (b : ℕ) → from ≤ b → p b ≡ false
Earliest p from (Some r) = (from ≤ r) × (p r ≡ true) × ((b : ℕ) → from ≤ b → b < r → p b ≡ false)

-- the first of the k minutes from `from` on that p permits
abbrev pub first_of : (ℕ → Bool) → ℕ → ℕ → Option ℕ
first_of p zero from = None
first_of p (suc k) from = if p from then Some from else first_of p k (from + 1)

-- the least permitted begin at `from` or later, where nothing begins after minute 2,000,000; shut, so that no proof
-- walks through the minutes
unfoldable pub earliest_of : (ℕ → Bool) → ℕ → Option ℕ
earliest_of p from = first_of p (2000001 - from) from
