-- Laws of the fields of a line: how the library's `split` gives them, their offsets and values.
use Rattle.std.proofs.Common.{◌≡◌, ℕ, zero, suc, ◌+◌, ◌-◌, ◌<◌, ◌≤◌, min, Bool, true, false, cond, eqb, List, [], ◌∷◌, ◌++◌, length, get_or, take, drop, Some, None, Ok, Err, Option, Result, sym, refl, ap, subst, ◌∙◌, ⊎_elim, append_assoc, append-nil, add-one, arith, map}
use Rattle.std.proofs.lemmas.Iterator.{YieldsList, YieldsList-from_take, YieldsList-from_map, maps}
use Rattle.std.proofs.lemmas.Bool.{cases_lt}
use Rattle.std.proofs.lemmas.Iterator.Consumers.{YieldsList-at, YieldsList-from_enumerate, YieldsList-turn, YieldsList-end}
use Rattle.std.proofs.lemmas.Iterator.Splits.{YieldsList-from_slice_split}
use Rattle.std.proofs.lemmas.List.{drop_more, drop_all, take_all, length-drop, get_or-drop}
use Rattle.std.proofs.lemmas.List.FromFn.{length-enumerate_from, get_or-enumerate_from}
use Rattle.std.proofs.lemmas.List.Sums.{sum_by-cons, sum_by-take-le}
use Rattle.std.specs.Fn.{Called, CalledAt}
use Rattle.std.specs.Iterator.{Yields}
use Rattle.std.specs.Iterator.Adapters.{map_source, map_callee, take_source, take_count, take_steps, enumerate_source, enumerate_count, enumerate_steps}
use Rattle.std.specs.List.{sum_by, enumerate_from, onto_first}
use Rattle.std.specs.Slice.Iter as slice
use denote.Param.Members.{Mut}
use denote.Ref.{Bor}
use Rattle.text.specs.Split.{before, parted, tally}
use Rattle.text.proofs.Splits.{before_short, parted_first, parted_last, parted_more, parted_some, length-parted}
use Rattle.sheet.specs.declared.fault.LineFault.{LineFault}
use Rattle.sheet.specs.declared.kind.Kind.{Kind}
use Rattle.sheet.specs.Reading.{offset_of, on_ok, spotted, value_of, value_next, values_of}

-- a slice that is cut at each tab gives the fields of its line
pub fields_given : {F : Type 0} {s : _} (g : Mut F (Bor ℕ × Unit {0}) Bool) {f : F} (xs : List ℕ) → slice.split_rest s ≡ xs → slice.split_done s ≡ false → slice.split_callee s ≡ f
    → ((x : ℕ) (b : Bool) (q : F) → CalledAt g f x b q → (q ≡ f) × (b ≡ eqb x 9)) → YieldsList (slice.split_steps g) (λ x. x.now) s (parted 9 xs)
fields_given g xs rest done callee calls =
    YieldsList-from_slice_split g (λ x. eqb x 9) xs rest done callee calls

-- a line whose kind is one byte with a tab behind it: the fields behind the kind are those of what stands behind that tab
module _ (xs : List ℕ) (one : length (before 9 xs) ≡ 1) (some : 1 ≤ tally 9 xs) where
  tab_behind : length (before 9 xs) < length xs
  tab_behind =
      ⊎_elim (λ l. l) (λ l. absurd (omega (arith, before_short 9 xs, length-parted 9 xs, ap length (parted_last 9 xs (omega (arith, before_short 9 xs))))))
      (cases_lt (length (before 9 xs)) (length xs))

  fields_behind : parted 9 (take (length xs - 2) (drop 2 xs)) ≡ drop 1 (parted 9 xs)
  fields_behind =
      let two : suc (length (before 9 xs)) ≡ 2 = omega arith in
      ap (parted 9) (take_all (length xs - 2) (drop 2 xs) (omega (arith, length-drop 2 xs)))
      ∙ sym (ap (drop 1) (parted_more 9 xs tab_behind) ∙ ap (λ k. parted 9 (drop k xs)) two)

  -- as the loop over them is given them, counted from 0
  pub fields_counted : {F : Type 0} {s : _} (g : Mut F (Bor ℕ × Unit {0}) Bool) {f : F} → slice.split_rest s ≡ take (length xs - 2) (drop 2 xs) → slice.split_done s ≡ false → slice.split_callee s ≡ f
      → {e : _} → enumerate_source e ≡ s → enumerate_count e ≡ 0 → {i : _} → i ≡ e
      → ((x : ℕ) (b : Bool) (q : F) → CalledAt g f x b q → (q ≡ f) × (b ≡ eqb x 9))
      → YieldsList {B = ℕ × List ℕ} (enumerate_steps (slice.split_steps g)) (λ p. (p.0, p.1.now)) i (enumerate_from 0 (drop 1 (parted 9 xs)))
  fields_counted g rest done callee source none same calls =
      subst (YieldsList (enumerate_steps (slice.split_steps g)) (λ p. (p.0, p.1.now)) _) (ap (enumerate_from 0) fields_behind)
      (YieldsList-at same (YieldsList-from_enumerate (YieldsList-at source (fields_given g _ rest done callee calls)) none))

-- how far it is from a field to the one behind it
abbrev pub wide : List ℕ → ℕ
wide f = length f + 1

-- the distances of the first k fields, as the chain of `offset` gives them
pub wides_given : {F G : Type 0} {s : _} (g : Mut F (Bor ℕ × Unit {0}) Bool) {f : F} (xs : List ℕ) → slice.split_rest s ≡ xs → slice.split_done s ≡ false → slice.split_callee s ≡ f
    → {t : _} (k : ℕ) → take_source t ≡ s → take_count t ≡ k → (h : Mut G (Bor (List ℕ) × Unit {0}) ℕ) {m : _} {w : G} → map_source m ≡ t → map_callee m ≡ w
    → ((x : ℕ) (b : Bool) (q : F) → CalledAt g f x b q → (q ≡ f) × (b ≡ eqb x 9)) → ((x : Bor (List ℕ)) (n : ℕ) (q : G) → Called h w (x, tt) n q → (q ≡ w) × (n ≡ wide x.now))
    → YieldsList (maps (take_steps (slice.split_steps g)) h) (λ n. n) m (map wide (take k (parted 9 xs)))
wides_given g xs rest done callee k source count h mapped with calls widths =
    YieldsList-from_map h wide (YieldsList-at mapped (YieldsList-from_take k (YieldsList-at source (fields_given g xs rest done callee calls)) count)) with widths

wide-onto_first : (x : ℕ) (ps : List (List ℕ)) → 0 < length ps → sum_by wide (onto_first x ps) ≡ sum_by wide ps + 1
wide-onto_first x [] h = absurd (omega arith)
wide-onto_first x (p ∷ ps) h = omega (arith, sum_by-cons wide (x ∷ p) ps, sum_by-cons wide p ps)

-- over all fields it is one more than the bytes of the line
pub wide_all : (b : ℕ) (xs : List ℕ) → sum_by wide (parted b xs) ≡ length xs + 1
wide_all b [] = refl
wide_all b (x ∷ xs) =
    elim (eqb x b) as (λ t. sum_by wide (cond t ([] ∷ parted b xs) (onto_first x (parted b xs))) ≡ suc (length xs) + 1) [
      | true ↦ omega (arith, sum_by-cons wide [] (parted b xs), wide_all b xs)
      | false ↦ omega (arith, wide-onto_first x (parted b xs) (parted_some b xs), wide_all b xs)
    ]

-- so an offset is the sum over the fields before it, and past the last field that of the line's end
offset_sum : (fs : List (List ℕ)) (k : ℕ) → 0 < length fs → min (sum_by wide (take k fs)) (sum_by wide fs - 1) ≡ offset_of fs k
offset_sum [] k h = absurd (omega arith)
offset_sum (f ∷ []) zero h = omega arith
offset_sum (f ∷ []) (suc k) h = omega (arith, sum_by-cons wide f (take k []))
offset_sum (f ∷ g ∷ fs) zero h = omega arith
offset_sum (f ∷ g ∷ fs) (suc k) h =
    omega (
      arith,
      sum_by-cons wide f (take k (g ∷ fs)),
      sum_by-cons wide f (g ∷ fs),
      sum_by-cons wide g fs,
      offset_sum (g ∷ fs) k (omega arith),
    )

pub offset_is : (xs : List ℕ) (k : ℕ) → min (sum_by wide (take k (parted 9 xs))) (length xs) ≡ offset_of (parted 9 xs) k
offset_is xs k = omega (arith, offset_sum (parted 9 xs) k (parted_some 9 xs), wide_all 9 xs)

-- and the sum is in range
pub offset_fits : (xs : List ℕ) (k : ℕ) → sum_by wide (take k (parted 9 xs)) ≤ length xs + 1
offset_fits xs k = omega (arith, sum_by-take-le wide (parted 9 xs) k, wide_all 9 xs)

-- the first field begins its line
pub offset_of_none : (fs : List (List ℕ)) → offset_of fs 0 ≡ 0
offset_of_none [] = refl
offset_of_none (f ∷ []) = refl
offset_of_none (f ∷ g ∷ fs) = refl

-- a field behind the first, counted from the one behind it
pub offset_of_more : (f : List ℕ) (fs : List (List ℕ)) (k : ℕ) → 0 < length fs → offset_of (f ∷ fs) (suc k) ≡ length f + 1 + offset_of fs k
offset_of_more f [] k h = absurd (omega arith)
offset_of_more f (g ∷ fs) k h = refl

-- a field with one behind it
offset_of_next : (fs : List (List ℕ)) (k : ℕ) (g : List ℕ) (gs : List (List ℕ)) → drop k fs ≡ g ∷ gs → 0 < length gs → offset_of fs (suc k) ≡ offset_of fs k + length g + 1
offset_of_next [] k g gs e h = absurd (omega (arith, ap length e, length-drop {A = List ℕ} k []))
offset_of_next (f ∷ fs) zero g gs e h =
    let head : f ≡ g = cc in
    let tail : fs ≡ gs = cc in
    omega (arith, offset_of_more f fs 0 (omega (arith, ap length tail)), offset_of_none fs, offset_of_none (f ∷ fs), ap length head)
offset_of_next (f ∷ fs) (suc k) g gs e h =
    omega (
      arith,
      ap length e,
      length-drop k fs,
      offset_of_more f fs (suc k) (omega (arith, ap length e, length-drop k fs)),
      offset_of_more f fs k (omega (arith, ap length e, length-drop k fs)),
      offset_of_next fs k g gs e h,
    )

-- the values behind field k
values_behind : (kind : Kind) (fs : List (List ℕ)) (k : ℕ) (g : List ℕ) (gs : List (List ℕ)) → drop k fs ≡ g ∷ gs
    → values_of kind (k + 1) (offset_of fs k + length g + 1) gs ≡ values_of kind (k + 1) (offset_of fs (k + 1)) gs
values_behind kind fs k g [] e = refl
values_behind kind fs k g (h ∷ gs) e =
    ap (λ at. values_of kind (k + 1) at (h ∷ gs)) (sym (ap (offset_of fs) (add-one k) ∙ offset_of_next fs k g (h ∷ gs) e (omega arith)))

-- those behind the kind, which is one byte
pub values_first : (kind : Kind) (xs : List ℕ) → length (before 9 xs) ≡ 1 → values_of kind 1 (offset_of (parted 9 xs) 1) (drop 1 (parted 9 xs)) ≡ values_of kind 1 2 (drop 1 (parted 9 xs))
values_first kind xs one =
    let fs = parted 9 xs in
    let two : offset_of fs 0 + length (before 9 xs) + 1 ≡ 2 = omega (arith, offset_of_none fs) in
    sym (values_behind kind fs 0 (before 9 xs) (drop 1 fs) (parted_first 9 xs)) ∙ ap (λ at. values_of kind 1 at (drop 1 fs)) two

on_ok_cons : (ns : List ℕ) (n : ℕ) (r : Result (List ℕ) LineFault) → on_ok (λ ms. ns ++ ms) (on_ok (λ ms. n ∷ ms) r) ≡ on_ok (λ ms. (ns ++ n ∷ []) ++ ms) r
on_ok_cons ns n (Ok ms) = ap Ok (sym (append_assoc ns (n ∷ []) ms))
on_ok_cons ns n (Err e) = refl

-- nothing put in front
pub on_ok_id : (r : Result (List ℕ) LineFault) → on_ok (λ ms. [] ++ ms) r ≡ r
on_ok_id (Ok ms) = refl
on_ok_id (Err e) = refl

-- the item of a turn of the loop over the counted fields behind the kind
abbrev pub IsTurn : List (List ℕ) → ℕ → ℕ × List ℕ → Type 0
IsTurn fs n p = (n < length (enumerate_from 0 (drop 1 fs))) × (p ≡ get_or (enumerate_from 0 (drop 1 fs)) n p)

-- what is left of the values, where ns are those before the turn
abbrev pub values_left : Kind → List (List ℕ) → List ℕ → ℕ → Result (List ℕ) LineFault
values_left kind fs ns n = on_ok (λ ms. ns ++ ms) (values_of kind (n + 1) (offset_of fs (n + 1)) (drop (n + 1) fs))

-- a loop over them, by the chain that it goes over
module _ {S A : Type 0} {steps : S → Option A → S → Type 0} {s : S} {v : A → ℕ × List ℕ} (xs : List ℕ) (seen : List A) (t : S) (by : Yields steps s seen t) (r : Option A) (u : S) (step : steps t r u) where
  pub turn_is : (x : A) → r ≡ Some x → YieldsList steps v s (enumerate_from 0 (drop 1 (parted 9 xs))) → IsTurn (parted 9 xs) (length seen) (v x)
  turn_is x is given = YieldsList-turn given seen t by r u x is step

  pub end_is : r ≡ None → YieldsList steps v s (enumerate_from 0 (drop 1 (parted 9 xs))) → length seen ≡ tally 9 xs
  end_is is given =
      omega (
        arith,
        (YieldsList-end given seen t by r u is step).1,
        length-enumerate_from 0 (drop 1 (parted 9 xs)),
        length-drop 1 (parted 9 xs),
        length-parted 9 xs,
      )

-- at the end no value is left
pub values_end : (kind : Kind) (xs ns : List ℕ) (n : ℕ) → n ≡ tally 9 xs → Ok ns ≡ values_left kind (parted 9 xs) ns n
values_end kind xs ns n e =
    let fs = parted 9 xs in
    let none : drop (n + 1) fs ≡ [] = drop_all (n + 1) fs (omega (arith, length-parted 9 xs)) in
    ap Ok (sym (append-nil ns)) ∙ ap (λ gs. on_ok (λ ms. ns ++ ms) (values_of kind (n + 1) (offset_of fs (n + 1)) gs)) (sym none)

module _ (fs : List (List ℕ)) (n : ℕ) (p : ℕ × List ℕ) (turn : IsTurn fs n p) where
  pub turn_within : n + 1 < length fs
  turn_within = omega (arith, turn.0, length-enumerate_from 0 (drop 1 fs), length-drop 1 fs)

  counted : p ≡ (n, get_or fs (1 + n) p.1)
  counted =
      turn.1 ∙ get_or-enumerate_from 0 (drop 1 fs) n p (omega (arith, turn_within, length-drop 1 fs))
      ∙ ap (λ b. (0 + n, b)) (get_or-drop 1 fs n p.1) ∙ ap (λ i. (i, get_or fs (1 + n) p.1)) (let s : 0 + n ≡ n = omega arith in s)

  field : p.0 + 1 ≡ n + 1
  field = omega (arith, ap (λ q. q.0) counted)

  bytes : p.1 ≡ get_or fs (n + 1) p.1
  bytes = ap (λ q. q.1) counted ∙ ap (λ i. get_or fs i p.1) (let s : 1 + n ≡ n + 1 = omega arith in s)

  parts : drop (n + 1) fs ≡ p.1 ∷ drop (n + 1 + 1) fs
  parts = drop_more fs (n + 1) p.1 turn_within ∙ ap (λ f. f ∷ drop (n + 1 + 1) fs) (sym bytes)

  module _ (kind : Kind) (ns : List ℕ) where
    -- by what the field reads as
    here : (r : Result ℕ LineFault) → r ≡ spotted (p.0 + 1) (offset_of fs (p.0 + 1)) (value_of kind (p.0 + 1) p.1)
        → values_of kind (n + 1) (offset_of fs (n + 1)) (drop (n + 1) fs) ≡ value_next r (values_of kind (n + 1 + 1) (offset_of fs (n + 1 + 1)) (drop (n + 1 + 1) fs))
    here r e =
        let k = n + 1 in
        ap (values_of kind k (offset_of fs k)) parts
        ∙ ap (λ a. value_next a (values_of kind (k + 1) (offset_of fs k + length p.1 + 1) (drop (k + 1) fs)))
        (ap (λ i. spotted i (offset_of fs i) (value_of kind i p.1)) (sym field) ∙ sym e)
        ∙ ap (value_next r) (values_behind kind fs k p.1 (drop (k + 1) fs) parts)

    -- a field that is malformed
    pub turn_stop : (x : LineFault) → Err x ≡ spotted (p.0 + 1) (offset_of fs (p.0 + 1)) (value_of kind (p.0 + 1) p.1) → Err x ≡ values_left kind fs ns n
    turn_stop x e = sym (ap (on_ok (λ ms. ns ++ ms)) (here (Err x) e))

    -- a field that is a number
    pub turn_more : (m : ℕ) → Ok m ≡ spotted (p.0 + 1) (offset_of fs (p.0 + 1)) (value_of kind (p.0 + 1) p.1) → values_left kind fs (ns ++ m ∷ []) (n + 1) ≡ values_left kind fs ns n
    turn_more m e = sym (ap (on_ok (λ ms. ns ++ ms)) (here (Ok m) e) ∙ on_ok_cons ns m (values_of kind (n + 1 + 1) (offset_of fs (n + 1 + 1)) (drop (n + 1 + 1) fs)))
