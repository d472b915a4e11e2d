-- The least begin of a step that fits inside one of some windows.
use Rattle.std.proofs.Common.{◌≡◌, ℕ, ◌+◌, ◌≤◌, min, max, Bool, true, ◌&&◌, ◌||◌, List, [], ◌∷◌, ◌==◌, nat_le, refl, Some, None, Option, sym, ap, subst, arith}
use Rattle.std.specs.List.{fold, reduce, filter_map, cons_option}
use Rattle.std.proofs.lemmas.Bool.{cond_both}
use Rattle.std.proofs.lemmas.Bool.Decides.{nat_tests}
use Rattle.hours.specs.declared.window.Window.{Window}
use Rattle.hours.specs.Earliest.{Earliest}
use Rattle.hours.specs.Limits.{within}
use Rattle.hours.specs.Window.{fits, fits_one, begin_from}

-- the lesser of two begins
abbrev sooner : Option ℕ → Option ℕ → Option ℕ
sooner None b = b
sooner (Some x) None = Some x
sooner (Some x) (Some y) = Some (min x y)

-- the sooner of two answers is the answer to what either permits
earliest_or : (p q : ℕ → Bool) (from : ℕ) (x y : Option ℕ) → Earliest p from x → Earliest q from y → Earliest (λ b. p b || q b) from (sooner x y)
earliest_or p q from None None h k = grind (arith, nat_tests)
earliest_or p q from None (Some y) h k = grind (arith, nat_tests)
earliest_or p q from (Some x) None h k = grind (arith, nat_tests)
earliest_or p q from (Some x) (Some y) h k = grind (arith, nat_tests)

-- the least of some begins, with one more in front
least_more : (x y : ℕ) (zs : List ℕ) → fold min (min x y) zs ≡ min x (fold min y zs)
least_more x y [] = refl
least_more x y (z ∷ zs) = let e : min (min x y) z ≡ min x (min y z) = omega arith in rw e (least_more x (min y z) zs)

least_sooner : (r : Option ℕ) (ys : List ℕ) → reduce min (cons_option r ys) ≡ sooner r (reduce min ys)
least_sooner None ys = refl
least_sooner (Some x) [] = refl
least_sooner (Some x) (y ∷ ys) = ap Some (least_more x y ys)

module _ (s from n : ℕ) where
  fits_least : (w : Window) → Earliest (λ b. fits w s b n) from (begin_from w s from n)
  fits_least w =
      let begin = max from w.from in
      cond_both (s == w.station && nat_le (begin + n) w.to) (Some begin) None (Earliest (λ b. fits w s b n) from)
      (λ e. (omega arith, grind (arith, nat_tests), λ b l m. grind (arith, nat_tests))) (λ e b l. grind (arith, nat_tests))

  -- the least of the windows' begins is the least that fits inside one of them
  pub fits_one_least : (ws : List Window) → Earliest (λ b. fits_one ws s b n) from (reduce min (filter_map (λ w. begin_from w s from n) ws))
  fits_one_least [] = λ b l. refl
  fits_one_least (w ∷ ws) =
      let ys = filter_map (λ v. begin_from v s from n) ws in
      subst (Earliest (λ b. fits w s b n || fits_one ws s b n) from) (sym (least_sooner (begin_from w s from n) ys))
      (earliest_or (λ b. fits w s b n) (λ b. fits_one ws s b n) from (begin_from w s from n) (reduce min ys) (fits_least w) (fits_one_least ws))

-- what fits and keeps the limits: nothing fits before x, and the limits hold at x or at no minute after it
module _ (s n from : ℕ) (ws : List Window) where
  sooner_within : (b c : ℕ) → b ≤ c → within s c n ≡ true → within s b n ≡ true
  sooner_within b c l e = grind (arith, nat_tests)

  least_is : (o : Option ℕ) → reduce min (filter_map (λ w. begin_from w s from n) ws) ≡ o → Earliest (λ b. fits_one ws s b n) from o
  least_is o e = subst (Earliest (λ b. fits_one ws s b n) from) e (fits_one_least s from n ws)

  pub limited_none : reduce min (filter_map (λ w. begin_from w s from n) ws) ≡ None → Earliest (λ b. within s b n && fits_one ws s b n) from None
  limited_none e = let h = least_is None e in grind (arith, nat_tests)

  pub limited : (x : ℕ) (r : Option ℕ) → reduce min (filter_map (λ w. begin_from w s from n) ws) ≡ Some x → Earliest (λ b. within s b n) x r
      → Earliest (λ b. within s b n && fits_one ws s b n) from r
  limited x None e k = let h = least_is (Some x) e in grind (arith, nat_tests)
  limited x (Some y) e k =
      let h = least_is (Some x) e in
      let here : within s x n ≡ true = sooner_within x y k.0 k.1 in
      let same : y ≡ x = grind (arith, nat_tests) in
      rw same (grind (arith, nat_tests))
