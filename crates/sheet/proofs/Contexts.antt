-- An answer whose fault is put beside a context x, as `map_err` puts it there.
use Rattle.std.proofs.Common.{◌≡◌, IsErrAnd, MatchResult, Ok, Err, Result, sym, ap, ◌∙◌}

module _ {X T E : Type 0} (x : X) {P : E → X × E → Type 0} (puts : (f : E) (d : X × E) → P f d → d ≡ (x, f)) where
  pub beside_ok : (a : Result T E) (m : Result T (X × E)) (v : T) → MatchResult a (λ w. m ≡ Ok w) (λ f. IsErrAnd m (P f)) → m ≡ Ok v → a ≡ Ok v
  beside_ok (Ok w) m v h e = cc
  beside_ok (Err f) (Ok w) v h e = absurd h
  beside_ok (Err f) (Err d) v h e = cc

  pub beside_err : (a : Result T E) (m : Result T (X × E)) (d : X × E) → MatchResult a (λ w. m ≡ Ok w) (λ f. IsErrAnd m (P f)) → m ≡ Err d → (a ≡ Err d.1) × (d.0 ≡ x)
  beside_err (Ok w) m d h e = cc
  beside_err (Err f) (Ok w) d h e = absurd h
  beside_err (Err f) (Err p) d h e =
      let q : d ≡ (x, f) = (let s : d ≡ p = cc in s ∙ puts f p h) in
      (ap (λ y. Err y.1) (sym q), ap (λ y. y.0) q)
