-- The ways through the reading of a line.
use Rattle.std.proofs.Common.{◌≡◌, ℕ, ◌+◌, ◌-◌, ◌≤◌, true, false, cond, eqb, List, [], ◌∷◌, length, get_or, take, drop, Some, None, Ok, Err, Option, Result, sym, refl, ap, ◌∙◌, arith}
use Rattle.std.proofs.lemmas.Bool.Decides.{nat_tests}
use Rattle.std.specs.Option.{ok_or}
use Rattle.text.specs.Split.{before, parted, tally}
use Rattle.text.proofs.Splits.{parted_first, piece_bytes, before_cons, length-parted}
use Rattle.sheet.specs.declared.fault.LineFault.{LineFault}
use Rattle.sheet.specs.declared.fault.LineFault.TheVariants.{KindUnknown, FieldCount}
use Rattle.sheet.specs.declared.kind.Kind.{Kind}
use Rattle.sheet.specs.declared.kind.Kind.TheVariants.{Vehicle, Begin, Finish, Pass}
use Rattle.sheet.specs.Reading.{letter, kind_of, count_fits, on_ok, values_of, call_for, fields_read, reading_of}

-- a field that names a kind has one byte
pub one_byte : (f : List ℕ) (k : Kind) → kind_of f ≡ Some k → length f ≡ 1
one_byte [] k h = cc
one_byte (b ∷ []) k h = refl
one_byte (b ∷ c ∷ bs) k h = cc

-- which is its letter
letter_first : (b : ℕ) (f : List ℕ) (k : Kind) → kind_of (b ∷ f) ≡ Some k → letter b ≡ Some k
letter_first b [] k h = h
letter_first b (c ∷ f) k h = cc

-- the letter is the first byte of the line
pub line_letter : (bs : List ℕ) (k : Kind) → kind_of (before 9 bs) ≡ Some k → letter (get_or bs 0 0) ≡ Some k
line_letter [] k = λ h. cc
line_letter (b ∷ bs) k =
    rw (before_cons 9 b bs)
    (elim (eqb b 9) as (λ t. kind_of (cond t [] (b ∷ before 9 bs)) ≡ Some k → letter b ≡ Some k) [ true ↦ λ h. cc | false ↦ λ h. letter_first b (before 9 bs) k h ])

-- a line that may be read has 2 to 17 fields
pub fields_few : (k : Kind) (n : ℕ) → true ≡ count_fits k n → (2 ≤ n) × (n ≤ 17)
fields_few Vehicle n h = grind (arith, nat_tests)
fields_few Begin n h = grind (arith, nat_tests)
fields_few Finish n h = grind (arith, nat_tests)
fields_few Pass n h = grind (arith, nat_tests)

named : (o : Option Kind) (k : Kind) → ok_or o KindUnknown ≡ Ok k → o ≡ Some k
named None k h = cc
named (Some j) k h = cc

unnamed : (fs : List (List ℕ)) (o : Option Kind) (e : LineFault) → ok_or o KindUnknown ≡ Err e → Err e ≡ fields_read fs o
unnamed fs None e h = cc
unnamed fs (Some k) e h = cc

-- the kind of bs ends at end
module _ (bs : List ℕ) (end : ℕ) (is : end ≡ 0 + length (before 9 (drop 0 bs))) where
  first : take end bs ≡ before 9 bs
  first = ap (λ n. take n bs) (let s : end ≡ end - 0 = omega arith in s) ∙ piece_bytes 9 bs 0 end is

  kind_is : kind_of (take end bs) ≡ kind_of (get_or (parted 9 bs) 0 [])
  kind_is = ap kind_of (first ∙ ap (λ ps. get_or ps 0 []) (sym (parted_first 9 bs)))

  -- its kind is unknown
  pub read_unknown : (e : LineFault) → ok_or (kind_of (take end bs)) KindUnknown ≡ Err e → Err e ≡ reading_of bs
  read_unknown e h = unnamed (parted 9 bs) (kind_of (take end bs)) e h ∙ ap (fields_read (parted 9 bs)) kind_is

  -- its kind is k, and it has this many tabs
  module _ (k : Kind) (some : ok_or (kind_of (take end bs)) KindUnknown ≡ Ok k) (tabs : ℕ) (many : tabs ≡ tally 9 bs) where
    kind : kind_of (take end bs) ≡ Some k
    kind = named (kind_of (take end bs)) k some

    pub read_letter : letter (get_or bs 0 0) ≡ Some k
    read_letter = line_letter bs k (ap kind_of (sym first) ∙ kind)

    -- what reading its numbers asks
    pub read_numbers_may : true ≡ count_fits k (tabs + 1) → (1 ≤ tabs) × ((tally 9 bs ≤ 16) × (length (before 9 bs) ≡ 1))
    read_numbers_may h =
        let few = fields_few k (tabs + 1) h in
        (omega arith, (omega arith, ap length (sym first) ∙ one_byte (take end bs) k kind))

    counted : count_fits k (tabs + 1) ≡ count_fits k (length (parted 9 bs))
    counted = ap (count_fits k) (let s : tabs + 1 ≡ length (parted 9 bs) = omega (arith, length-parted 9 bs) in s)

    known : cond (count_fits k (tabs + 1)) (on_ok (call_for k) (values_of k 1 2 (drop 1 (parted 9 bs)))) (Err FieldCount) ≡ reading_of bs
    known =
        ap (λ t. cond t (on_ok (call_for k) (values_of k 1 2 (drop 1 (parted 9 bs)))) (Err FieldCount)) counted
        ∙ ap (fields_read (parted 9 bs)) (sym kind ∙ kind_is)

    -- it has too few fields or too many
    pub read_count : false ≡ count_fits k (tabs + 1) → Err FieldCount ≡ reading_of bs
    read_count e = ap (λ t. cond t (on_ok (call_for k) (values_of k 1 2 (drop 1 (parted 9 bs)))) (Err FieldCount)) e ∙ known

    -- its numbers are read
    pub read_values : (r : Result (List ℕ) LineFault) → true ≡ count_fits k (tabs + 1) → r ≡ values_of k 1 2 (drop 1 (parted 9 bs)) → on_ok (call_for k) r ≡ reading_of bs
    read_values r e q = ap (on_ok (call_for k)) q ∙ ap (λ t. cond t (on_ok (call_for k) (values_of k 1 2 (drop 1 (parted 9 bs)))) (Err FieldCount)) e ∙ known
