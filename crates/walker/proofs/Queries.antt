-- What the hours answer ends within the limits.
use Rattle.std.proofs.Common.{◌≡◌, ℕ, ◌+◌, ◌≤◌, Bool, Some, subst, arith}
use Rattle.hours.specs.Earliest.{Earliest, earliest_of}
use Rattle.hours.proofs.Unique.{earliest_of-earliest}
use Rattle.plans.specs.Meanings.{Limited, hours_of}

pub answer_ends : (p : ℕ → ℕ → ℕ → Bool) → Limited p → (s m n b : ℕ) → (hours_of p).earliest s m n ≡ Some b → b + n ≤ 2000000
answer_ends p lim s m n b e =
    let is : Earliest (λ c. p s c n) m (earliest_of (λ c. p s c n) m) =
    earliest_of-earliest (λ c. p s c n) (λ c t. let x = (lim s c n t).last in omega arith) m in
    let found : Earliest (λ c. p s c n) m (Some b) = subst (Earliest (λ c. p s c n) m) e is in
    (lim s b n found.1).last
