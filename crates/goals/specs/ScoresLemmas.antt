-- Scores keep their order as finishes grow; the scores of the two goals are the greatest finish and lateness.
use Rattle.std.specs.Prelude.{◌≡◌, ℕ, nat_le, ◌+◌, ◌≤◌, max, true, List, [], ◌∷◌, ℤ, Some, None, Option, int_le, refl}
use Rattle.std.proofs.Common.{ap, subst, arith}
use Rattle.std.specs.Int.{int_max}
use Rattle.std.proofs.lemmas.Int.{ints}
use Rattle.std.proofs.lemmas.Bool.Decides.{nat_tests}
use Rattle.goals.specs.Finishes.{scored_from, scored, NoLater}
use Rattle.goals.specs.Greatest.{Greatest, LatestFinishIsGreatest, LatenessIsGreatest}
use Rattle.goals.specs.Scores.{with_finish, lateness_of, with_lateness, no_later}
use Rattle.goals.specs.Scoring.{monotone_by_step}
use Rattle.goals.specs.GreatestLemmas.{most, most_greatest}

module _ (due : List ℕ) where
  pub lateness_keeps : (s t : Option ℤ) (v x y : ℕ) → x ≤ y → no_later s t ≡ true → no_later (with_lateness due s v x) (with_lateness due t v y) ≡ true
  lateness_keeps None None v x y le r = grind (arith, ints)
  lateness_keeps None (Some b) v x y le r = grind (arith, ints)
  lateness_keeps (Some a) None v x y le r = grind (arith, ints)
  lateness_keeps (Some a) (Some b) v x y le r = grind (arith, ints)

  pub lateness_monotone : (xs ys : List ℕ) → NoLater xs ys → no_later (scored (with_lateness due) None xs) (scored (with_lateness due) None ys) ≡ true
  lateness_monotone = monotone_by_step (with_lateness due) (λ a b. no_later a b ≡ true) (λ s t v x y few le small r. lateness_keeps s t v x y le r) None refl

  scored_most : (y : ℤ) (v : ℕ) (xs : List ℕ) → scored_from (with_lateness due) (Some y) v xs ≡ Some (most int_max (lateness_of due) y v xs)
  scored_most y v [] = refl
  scored_most y v (x ∷ xs) = scored_most (int_max y (lateness_of due v x)) (v + 1) xs

  pub greatest_lateness : LatenessIsGreatest due
  greatest_lateness = record {
    none = refl;
    greatest = λ x xs. (
      most int_max (lateness_of due) (lateness_of due 0 x) 1 xs,
      scored_most (lateness_of due 0 x) 1 xs,
      most_greatest (λ y z. int_le y z ≡ true) int_max (lateness_of due) (λ y. grind (arith, ints)) (λ y z m h. grind (arith, ints)) (λ y z m h. grind (arith, ints))
          (λ y z. grind (arith, ints)) x xs,
    );
  }

pub latest_monotone : (xs ys : List ℕ) → NoLater xs ys → nat_le (scored with_finish 0 xs) (scored with_finish 0 ys) ≡ true
latest_monotone = monotone_by_step with_finish (λ a b. nat_le a b ≡ true) (λ s t v x y few le small r. grind (arith, nat_tests)) 0 refl

pub latest_finish : LatestFinishIsGreatest
latest_finish = record {
  none = refl;
  greatest = λ x xs.
      let one : x ≡ max 0 x = omega arith in
      subst (Greatest ◌≤◌ (λ _ y. y) (x ∷ xs)) (ap (λ s. most max (λ _ y. y) s 1 xs) one)
      (most_greatest ◌≤◌ max (λ _ y. y) (λ y. omega arith) (λ y z m h. omega arith) (λ y z m h. omega arith)
      (λ y z. grind arith) x xs);
}
