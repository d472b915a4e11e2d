-- The numbers of a sheet: how large they are, and what is read of a printed one.
use Rattle.std.proofs.Common.{◌≡◌, ℕ, ◌+◌, ◌*◌, ◌^◌, ◌<◌, ◌≤◌, true, ◌⊎◌, List, length, slice_index_or, Ok, decimal, ap, ◌∙◌, inl, inr, ⊎_elim, pow-suc, add-one, arith}
use native.Mathlib.Nat.{pow-le-pow_right}
use Rattle.std.proofs.lemmas.Bool.{cond-true, cases_lt, and_from}
use Rattle.std.proofs.lemmas.Fmt.{decimal_nonempty, length-decimal-le, first_decimal, decimal_digit, digits_decimal, digits_value-decimal}
use Rattle.std.proofs.lemmas.Str.Parse.{IsNumeralModel, numerals_by_value, tells_all_ascii_digits}
use Rattle.std.proofs.lemmas.Bool.Decides.{nat_tests}
use Rattle.std.specs.Str.Parse.{digits_value}
use Rattle.std.specs.Str.{all_ascii_digits}
use Rattle.text.specs.Number.{digit_of, number_shape, is_number, ReadsBack}

-- a digit is below ten
pub digit_below : (b d : ℕ) → digit_of b ≡ Ok d → d < 10
digit_below b d h = grind (arith, nat_tests)

-- a digit more is a power of ten more
pub pow_more : (i n d : ℕ) → n < 10 ^ i → d < 10 → n * 10 + d < 10 ^ (i + 1)
pow_more i n d h l = rw (add-one i, pow-suc 10 i) (omega arith)

-- at most seven digits give a number below ten million, and one more digit fits
pub pow_top : (i n : ℕ) → i ≤ 7 → n < 10 ^ i → n < 10 ^ 7
pow_top i n s h = let top : 10 ^ i ≤ 10 ^ 7 = pow-le-pow_right (omega arith) s in omega arith

pub fits : (i n d : ℕ) → i < 7 → n < 10 ^ i → d < 10 → n * 10 + d < 2 ^ 32
fits i n d s h l = omega (arith, pow_top (i + 1) (n * 10 + d) (omega arith) (pow_more i n d h l))

-- what has the shape of a number is short
pub shape_short : (bs : List ℕ) → number_shape bs ≡ true → length bs ≤ 7
shape_short bs h = grind (arith, nat_tests)

shape : (bs : List ℕ) → (length bs ≡ 0 → ⊥) → length bs ≤ 7 → ((slice_index_or bs 0 0 ≡ 48) × (length bs ≤ 1)) ⊎ (slice_index_or bs 0 0 ≡ 48 → ⊥) → number_shape bs ≡ true
shape bs a b h = grind (arith, nat_tests)

-- `digits_value 10` reads digits
own : IsNumeralModel (λ ds. all_ascii_digits ds ≡ true) (digits_value 10)
own = numerals_by_value _ tells_all_ascii_digits

-- what is printed of a number below ten million has the shape
shape_decimal : (n : ℕ) → n < 10 ^ 7 → number_shape (decimal n) ≡ true
shape_decimal n h =
    let some = decimal_nonempty n (omega arith) in
    let few = length-decimal-le 7 n (omega arith) h (omega arith) in
    ⊎_elim
    (λ l. shape (decimal n) (λ e. omega arith) few (inr (λ e. omega (arith, first_decimal n l (omega arith)))))
    (λ l. let d = decimal_digit n (omega arith) in shape (decimal n) (λ e. omega arith) few (inl (omega (arith, ap (λ ds. slice_index_or ds 0 0) d), omega (arith, ap length d))))
    (cases_lt 0 n)

-- what is printed reads back
pub reads_back : ReadsBack
reads_back n h =
    cond-true (is_number (decimal n)) _ _ (and_from (number_shape (decimal n)) (all_ascii_digits (decimal n)) (shape_decimal n h) (digits_decimal own n (omega arith)))
    ∙ ap Ok (digits_value-decimal own n (omega arith))
