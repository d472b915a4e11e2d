-- A query has one answer, the value of earliest_of.
use Rattle.std.proofs.Common.{◌≡◌, ℕ, zero, suc, ◌+◌, ◌-◌, ◌≤◌, Bool, true, false, Some, None, Option, refl, ap, arith}
use Rattle.std.proofs.lemmas.Bool.{cond_both}
use Rattle.hours.specs.Earliest.{Earliest, first_of, earliest_of}

pub earliest_unique : (p : ℕ → Bool) (from : ℕ) (x y : Option ℕ) → Earliest p from x → Earliest p from y → x ≡ y
earliest_unique p from None None h k = refl
earliest_unique p from None (Some y) h k = grind arith
earliest_unique p from (Some x) None h k = grind arith
earliest_unique p from (Some x) (Some y) h k =
    let same : x ≡ y = grind arith in
    ap Some same

-- where a begin is not permitted, the answer is that from the next minute on
module _ (p : ℕ → Bool) (from : ℕ) (e : p from ≡ false) where
  later : (r : Option ℕ) → Earliest p (from + 1) r → Earliest p from r
  later None h = grind arith
  later (Some x) h = grind arith

first_earliest : (p : ℕ → Bool) (k from : ℕ) → ((b : ℕ) → from + k ≤ b → p b ≡ false) → Earliest p from (first_of p k from)
first_earliest p zero from h = λ b l. h b (omega arith)
first_earliest p (suc k) from h =
    cond_both (p from) (Some from) (first_of p k (from + 1)) (Earliest p from)
    (λ e. (omega arith, e, λ b l m. absurd (omega arith)))
    (λ e. later p from e (first_of p k (from + 1)) (first_earliest p k (from + 1) (λ b l. h b (omega arith))))

module _ (p : ℕ → Bool) (low : (b : ℕ) → p b ≡ true → b ≤ 2000000) (from : ℕ) where
  pub earliest_of-earliest : Earliest p from (earliest_of p from)
  unfolding earliest_of
  earliest_of-earliest =
      first_earliest p (2000001 - from) from
      (λ b l. grind arith)

  pub earliest_is : (r : Option ℕ) → Earliest p from r → r ≡ earliest_of p from
  earliest_is r h = earliest_unique p from r (earliest_of p from) h earliest_of-earliest
