-- A malformed number is told at the offset of its field.
use Rattle.std.proofs.Common.{◌≡◌, ℕ, suc, ◌+◌, ◌<◌, Bool, true, false, cond, List, [], ◌∷◌, length, get_or, drop, Some, None, Ok, Err, Option, Result, sym, refl, ap, ◌∙◌, arith}
use Rattle.text.specs.declared.number.NumberFault.{NumberFault}
use Rattle.text.specs.Split.{parted}
use Rattle.sheet.specs.declared.fault.LineFault.{LineFault}
use Rattle.sheet.specs.declared.fault.LineFault.TheVariants.{Number, FieldCount}
use Rattle.sheet.specs.declared.fault.Spot.{Spot}
use Rattle.sheet.specs.declared.kind.Kind.{Kind}
use Rattle.sheet.specs.Reading.{kind_of, count_fits, offset_of, value_of, spotted, on_ok, value_next, values_of, call_for, fields_read, NumbersSpotted}
use Rattle.sheet.proofs.Fields.{offset_of_none, offset_of_more}
use Rattle.sheet.proofs.Readings.{one_byte}

-- what is done with an answer leaves its fault
fault_of : {X Y : Type 0} (f : X → Y) (r : Result X LineFault) (x : LineFault) → on_ok f r ≡ Err x → r ≡ Err x
fault_of f (Ok v) x h = cc
fault_of f (Err e) x h = cc

-- a spot is field i of the fields gs, of which the first is field k at offset at
record At (gs : List (List ℕ)) (k at : ℕ) (s : Spot) : Type 0 where
  i : ℕ
  within : i < length gs
  field : s.field ≡ k + i
  offset : s.offset ≡ at + offset_of gs i

-- it is the first, or one behind it
here : (f : List ℕ) (gs : List (List ℕ)) (k at : ℕ) (s : Spot) → s ≡ record { field = k; offset = at } → At (f ∷ gs) k at s
here f gs k at s e = record {
  i = 0;
  within = omega arith;
  field = omega (arith, ap (λ p. p.field) e);
  offset = omega (arith, ap (λ p. p.offset) e, offset_of_none (f ∷ gs));
}

behind : (f : List ℕ) (gs : List (List ℕ)) (k at : ℕ) (s : Spot) → At gs (k + 1) (at + length f + 1) s → At (f ∷ gs) k at s
behind f gs k at s a = record {
  i = suc a.i;
  within = omega (arith, a.within);
  field = omega (arith, a.field);
  offset = omega (arith, a.offset, offset_of_more f gs a.i (omega (arith, a.within)));
}

by_value : (f : List ℕ) (gs : List (List ℕ)) (k at : ℕ) (r : Result ℕ NumberFault) (rest : Result (List ℕ) LineFault) (e : NumberFault) (s : Spot)
    → value_next (spotted k at r) rest ≡ Err (Number e s) → (rest ≡ Err (Number e s) → At gs (k + 1) (at + length f + 1) s) → At (f ∷ gs) k at s
by_value f gs k at (Ok n) rest e s h more = behind f gs k at s (more (fault_of (λ ns. n ∷ ns) rest (Number e s) h))
by_value f gs k at (Err x) rest e s h more = here f gs k at s (cc)

values_at : (kind : Kind) (k at : ℕ) (gs : List (List ℕ)) (e : NumberFault) (s : Spot) → values_of kind k at gs ≡ Err (Number e s) → At gs k at s
values_at kind k at [] e s h = cc
values_at kind k at (f ∷ gs) e s h =
    by_value f gs k at (value_of kind k f) (values_of kind (k + 1) (at + length f + 1) gs) e s h (values_at kind (k + 1) (at + length f + 1) gs e s)

-- the fields of a line, the first of which is the kind
spotted_in : (fs : List (List ℕ)) (k : Kind) → kind_of (get_or fs 0 []) ≡ Some k → (e : NumberFault) (s : Spot)
    → values_of k 1 2 (drop 1 fs) ≡ Err (Number e s) → (s.field < length fs) × (s.offset ≡ offset_of fs s.field)
spotted_in [] k some e s h = cc
spotted_in (f ∷ gs) k some e s h =
    let a = values_at k 1 2 gs e s h in
    let n : s.field ≡ suc a.i = omega (arith, a.field) in (
      omega (arith, a.within),
      a.offset ∙ (let q : 2 + offset_of gs a.i ≡ offset_of (f ∷ gs) (suc a.i)
          = omega (arith, one_byte f k some, offset_of_more f gs a.i (omega (arith, a.within))) in q)
          ∙ ap (offset_of (f ∷ gs)) (sym n),
    )

by_count : (fs : List (List ℕ)) (k : Kind) (t : Bool) (e : NumberFault) (s : Spot)
    → cond t (on_ok (call_for k) (values_of k 1 2 (drop 1 fs))) (Err FieldCount) ≡ Err (Number e s) → values_of k 1 2 (drop 1 fs) ≡ Err (Number e s)
by_count fs k true e s h = fault_of (call_for k) (values_of k 1 2 (drop 1 fs)) (Number e s) h
by_count fs k false e s h = cc

by_kind : (fs : List (List ℕ)) (o : Option Kind) → kind_of (get_or fs 0 []) ≡ o → (e : NumberFault) (s : Spot)
    → fields_read fs o ≡ Err (Number e s) → (s.field < length fs) × (s.offset ≡ offset_of fs s.field)
by_kind fs None some e s h = cc
by_kind fs (Some k) some e s h = spotted_in fs k some e s (by_count fs k (count_fits k (length fs)) e s h)

pub numbers_spotted : (bs : List ℕ) → NumbersSpotted bs
numbers_spotted bs e s h = by_kind (parted 9 bs) (kind_of (get_or (parted 9 bs) 0 [])) refl e s h
