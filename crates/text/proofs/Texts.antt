-- The bytes of a line, how many they are, and how they are printed.
use Rattle.std.proofs.Common.{◌≡◌, ℕ, ◌+◌, ◌*◌, ◌%◌, ◌^◌, ◌<◌, ◌≤◌, List, [], ◌∷◌, ◌++◌, length, get_or, take, drop, decimal, sym, ap, ◌∙◌, ⊎_elim, add-one, pow-suc, arith}
use native.Mathlib.Nat.{pow-le-pow_right}
use Rattle.std.proofs.lemmas.Fmt.{length-decimal-le, decimal_by_steps}
use Rattle.std.proofs.lemmas.Bool.{cases_lt}
use Rattle.std.proofs.lemmas.List.{length-append, length_push, take_more, flat_map_more, at_drop_more}
use Rattle.std.proofs.lemmas.List.Concat.{length-flat_map}
use Rattle.std.specs.List.{flat_map, sum_by}
use Rattle.text.specs.declared.cells.Cell.{Cell}
use Rattle.text.specs.declared.cells.Cell.TheVariants.{Number}
use Rattle.text.specs.Cells.{cell_text, cell_field, line_text}

-- a number has at most 20 digits
pub cell_short : (n : ℕ) → n < 2 ^ 64 → length (cell_text (Number n)) ≤ 20
cell_short n h = length-decimal-le 20 n (omega arith) (omega arith) h

-- and just as many as tell it from larger ones
below : (n : ℕ) → n < 2 ^ 64 → n < 10 ^ length (decimal n)
below = decimal_by_steps (λ n ds. n < 10 ^ length ds)
    (λ n h. h)
    (λ n ds h l. rw (length_push ds (48 + n % 10), add-one (length ds), pow-suc 10 (length ds)) (omega arith))

pub length_by_log : (n k : ℕ) → n < 2 ^ 64 → 10 ^ k ≤ n → n < 10 * 10 ^ k → length (decimal n) ≡ k + 1
length_by_log n k f l h =
    let up : n < 10 ^ (k + 1) = rw (add-one k, pow-suc 10 k) (omega arith) in
    let few = length-decimal-le (k + 1) n (omega arith) up f in
    ⊎_elim
    (λ (m : k < length (decimal n)). omega arith)
    (λ (m : length (decimal n) ≤ k). let p : 10 ^ length (decimal n) ≤ 10 ^ k = pow-le-pow_right (omega arith) m in absurd (omega (arith, below n f)))
    (cases_lt k (length (decimal n)))

-- how many bytes a line has
pub length-line_text : (c : Cell) (cs : List Cell) → length (line_text c cs) ≡ length (cell_text c) + (length (flat_map cell_field cs) + 1)
unfolding line_text
length-line_text c cs = length-append (cell_text c) (flat_map cell_field cs ++ (10 ∷ [])) ∙ ap (λ n. length (cell_text c) + n) (length-append (flat_map cell_field cs) (10 ∷ []))

-- the same as a sum: each cell has a tab or the line feed behind it
pub line_text_sum : (c : Cell) (cs : List Cell) → length (line_text c cs) ≡ sum_by (λ x. length (cell_field x)) (c ∷ cs)
line_text_sum c cs =
    omega (arith, length-line_text c cs, length-flat_map cell_field (c ∷ cs), length-append (cell_field c) (flat_map cell_field cs))

-- a step of a loop over what is joined: what it has passed, and what is left
pub joined_take : {X : Type 0} (f : X → List ℕ) (xs : List X) (i : ℕ) (d : X) → i < length xs → flat_map f (take (i + 1) xs) ≡ flat_map f (take i xs) ++ f (get_or xs i d)
joined_take f xs i d h = ap (flat_map f) (take_more xs i d h) ∙ sym (flat_map_more f [] (take i xs) (get_or xs i d))

pub joined_left : {X : Type 0} (f : X → List ℕ) (xs : List X) (i : ℕ) (d : X) → i < length xs → length (flat_map f (drop i xs)) ≡ length (f (get_or xs i d)) + length (flat_map f (drop (i + 1) xs))
joined_left f xs i d h = ap length (at_drop_more (flat_map f) xs i d h) ∙ length-append (f (get_or xs i d)) (flat_map f (drop (i + 1) xs))
