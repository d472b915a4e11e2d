-- Bytes that were cut at a byte are the pieces with that byte between or behind them.
use Rattle.std.proofs.Common.{◌≡◌, ℕ, zero, suc, Bool, true, false, cond, eqb, ◌⊎◌, List, [], ◌∷◌, ◌++◌, length, sym, refl, ap, ◌∙◌, inl, inr, arith}
use Rattle.std.proofs.lemmas.List.{length_push}
use Rattle.std.proofs.lemmas.List.Splits.{join_with_byte-slice_split}
use Rattle.std.proofs.lemmas.Bool.{eqb-true, eqb-false}
use Rattle.std.specs.List.{flat_map, onto_first, AllByRecursion}
use Rattle.std.specs.Str.Iter.{LacksByte}
use Rattle.text.specs.Split.{parted, ended, closed, Parts, Ends}

none_lacks : (b : ℕ) → LacksByte b []
none_lacks b k h e = omega arith

more_lacks : (b x : ℕ) (p : List ℕ) → (x ≡ b → ⊥) → LacksByte b p → LacksByte b (x ∷ p)
more_lacks b x p ne l zero h e = ne e
more_lacks b x p ne l (suc k) h e = l k (omega arith) e

-- a byte other than b goes in front of the first piece
first_lacks : (b x : ℕ) (ps : List (List ℕ)) → (x ≡ b → ⊥) → AllByRecursion (LacksByte b) ps → AllByRecursion (LacksByte b) (onto_first x ps)
first_lacks b x [] ne a = (more_lacks b x [] ne (none_lacks b), tt)
first_lacks b x (p ∷ ps) ne a = (more_lacks b x p ne a.0, a.1)

clean_cut : (b x : ℕ) (ps : List (List ℕ)) (t : Bool) → eqb x b ≡ t → AllByRecursion (LacksByte b) ps → AllByRecursion (LacksByte b) (cond t ([] ∷ ps) (onto_first x ps))
clean_cut b x ps true e a = (none_lacks b, a)
clean_cut b x ps false e a = first_lacks b x ps (eqb-false x b e) a

clean_parts : (b : ℕ) (xs : List ℕ) → AllByRecursion (LacksByte b) (parted b xs)
clean_parts b [] = (none_lacks b, tt)
clean_parts b (x ∷ xs) = clean_cut b x (parted b xs) (eqb x b) refl (clean_parts b xs)

pub parts : (b : ℕ) (xs : List ℕ) → Parts b xs
parts b xs = record { whole = join_with_byte-slice_split b xs; clean = clean_parts b xs }

-- the pieces with their ends are the bytes, or would be with one more end
abbrev Closing : ℕ → List (List ℕ) → List ℕ → Type 0
Closing b ps xs = (flat_map (closed b) ps ≡ xs) ⊎ (flat_map (closed b) ps ≡ xs ++ (b ∷ []))

closing_first : (b x : ℕ) (ps : List (List ℕ)) (xs : List ℕ) → Closing b ps xs → Closing b (onto_first x ps) (x ∷ xs)
closing_first b x [] xs (inl h) = inr (ap (λ ys. (x ∷ ys) ++ (b ∷ [])) h)
closing_first b x [] xs (inr h) = absurd (omega (arith, ap length h, length_push xs b))
closing_first b x (p ∷ ps) xs (inl h) = inl (ap (λ l. x ∷ l) h)
closing_first b x (p ∷ ps) xs (inr h) = inr (ap (λ l. x ∷ l) h)

closing_cut : (b x : ℕ) (ps : List (List ℕ)) (xs : List ℕ) (t : Bool) → eqb x b ≡ t → Closing b ps xs
    → Closing b (cond t ([] ∷ ps) (onto_first x ps)) (x ∷ xs)
closing_cut b x ps xs true e (inl h) = inl (ap (λ l. b ∷ l) h ∙ ap (λ y. y ∷ xs) (sym (eqb-true x b e)))
closing_cut b x ps xs true e (inr h) = inr (ap (λ l. b ∷ l) h ∙ ap (λ y. y ∷ (xs ++ (b ∷ []))) (sym (eqb-true x b e)))
closing_cut b x ps xs false e h = closing_first b x ps xs h

pub ends : (b : ℕ) (xs : List ℕ) → Ends b xs
ends b [] = record { whole = inl refl; clean = tt }
ends b (x ∷ xs) =
    let r = ends b xs in
    record {
      whole = closing_cut b x (ended b xs) xs (eqb x b) refl r.whole;
      clean = clean_cut b x (ended b xs) (eqb x b) refl r.clean;
    }
