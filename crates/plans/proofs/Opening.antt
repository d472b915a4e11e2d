-- The hours of a permitted set answer with the least permitted begin, and what they permit ends in time.
use Rattle.std.proofs.Common.{◌≡◌, ℕ, ◌+◌, ◌≤◌, Bool, true, Some, None, subst, inl, inr, arith}
use Rattle.std.proofs.lemmas.Bool.{both_ways, cases_lt}
use Rattle.hours.specs.Earliest.{Earliest, earliest_of}
use Rattle.hours.proofs.Unique.{earliest_of-earliest}
use Rattle.plans.specs.Meanings.{Hours, hours_of, Limited}

pub record HoursOk (H : Hours) : Type 0 where
  pub least : (s f l : ℕ) → Earliest (λ b. H.permits s b l) f (H.earliest s f l)
  pub found : (s f l b : ℕ) → H.earliest s f l ≡ Some b
      → (f ≤ b) × (H.permits s b l ≡ true) × ((c : ℕ) → f ≤ c → H.permits s c l ≡ true → b ≤ c)
  pub absent : (s f l : ℕ) → H.earliest s f l ≡ None → (c : ℕ) → f ≤ c → H.permits s c l ≡ true → ⊥
  pub ends : (s b l : ℕ) → H.permits s b l ≡ true → b + l ≤ 2000000

pub hours_ok : (p : ℕ → ℕ → ℕ → Bool) → Limited p → HoursOk (hours_of p)
hours_ok p lim = record {
  least = is;
  found = λ s f l b e.
      let h : Earliest (λ c. p s c l) f (Some b) = subst (Earliest (λ c. p s c l) f) e (is s f l) in
      (h.0, h.1, λ c g t. elim (cases_lt c b) [ inl x ↦ absurd (both_ways (p s c l) (h.2 c g x) t) | inr x ↦ x ]);
  absent = λ s f l e c g t.
      let h : Earliest (λ c. p s c l) f None = subst (Earliest (λ c. p s c l) f) e (is s f l) in
      both_ways (p s c l) (h c g) t;
  ends = λ s b l t. (lim s b l t).last;
}
  where
    is : (s f l : ℕ) → Earliest (λ c. p s c l) f (earliest_of (λ c. p s c l) f)
    is s f l = earliest_of-earliest (λ c. p s c l) (λ b t. let x = (lim s b l t).last in omega arith) f
