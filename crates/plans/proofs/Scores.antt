-- The goal's law over lists, read over finishes by number.
use Rattle.std.proofs.Common.{◌≡◌, ℕ, zero, suc, ◌+◌, ◌<◌, ◌≤◌, true, ◌∷◌, map, length, get_or, sym, refl, ap, ◌∙◌, ap₂, arith}
use Rattle.std.specs.List.{range_with_len}
use Rattle.std.proofs.lemmas.List.FromFn.{length-map-range_with_len, get_or-map-range_with_len}
use Rattle.goals.specs.Finishes.{scored}
use Rattle.plans.specs.Meanings.{Goal, Lawful, score_of}

pub earlier_score : {S : Type 0} (G : Goal S) → Lawful G → (n : ℕ) (f g : ℕ → ℕ) → n ≤ 24
    → ((v : ℕ) → v < n → f v ≤ g v) → ((v : ℕ) → v < n → g v ≤ 2020000)
    → G.no_worse (score_of G n f) (score_of G n g) ≡ true
unfolding score_of
earlier_score G gk n f g few le small = gk.monotone (map f (range_with_len 0 n)) (map g (range_with_len 0 n)) (record {
  same = long f ∙ sym (long g);
  taken = record {
    few = let l = long g in omega arith;
    small = λ v h. let l = long g in let e = at g v (omega arith) in let s = small v (omega arith) in omega arith;
  };
  below = λ v h.
      let l = long f in
      let e = at g v (omega arith) in
      let o = at f v (omega arith) in
      let s = le v (omega arith) in
      omega arith;
})
  where
    long : (x : ℕ → ℕ) → length (map x (range_with_len 0 n)) ≡ n
    long x = length-map-range_with_len x 0 n

    at : (x : ℕ → ℕ) (v : ℕ) → v < n → get_or (map x (range_with_len 0 n)) v 0 ≡ x v
    at x v h = get_or-map-range_with_len x 0 n v v 0 h (omega arith)

same_map : (f g : ℕ → ℕ) (n a : ℕ) → ((v : ℕ) → v < a + n → f v ≡ g v)
    → map f (range_with_len a n) ≡ map g (range_with_len a n)
same_map f g zero a h = refl
same_map f g (suc n) a h = ap₂ ◌∷◌ (h a (omega arith)) (same_map f g n (a + 1) (λ v l. h v (omega arith)))

pub same_score : {S : Type 0} (G : Goal S) (n : ℕ) (f g : ℕ → ℕ) → ((v : ℕ) → v < n → f v ≡ g v)
    → score_of G n f ≡ score_of G n g
unfolding score_of
same_score G n f g h = ap (scored G.add G.start) (same_map f g n 0 (λ v l. h v (omega arith)))
