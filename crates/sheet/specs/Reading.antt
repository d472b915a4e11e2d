-- What a line of a sheet asks for.
use Rattle.std.specs.Prelude.{◌≡◌, ℕ, zero, suc, ◌+◌, ◌%◌, ◌<◌, Bool, if◌then◌else◌, ◌&&◌, List, [], ◌∷◌, length, take, drop, Some, None, Ok, Err, Option, Result, ◌==◌, nat_le, slice_index, slice_index_or}
use Rattle.std.specs.Result.{result_map_both}
use Rattle.hall.specs.declared.step.Step.{Step}
use Rattle.hall.specs.Rules.{Call, enter, begin, finish, pass}
use Rattle.text.specs.declared.number.NumberFault.{NumberFault}
use Rattle.text.specs.Number.{number_of, minutes_of}
use Rattle.text.specs.Split.{parted}
use Rattle.sheet.specs.declared.fault.LineFault.{LineFault}
use Rattle.sheet.specs.declared.fault.LineFault.TheVariants.{Number, KindUnknown, FieldCount}
use Rattle.sheet.specs.declared.fault.Spot.{Spot}
use Rattle.sheet.specs.declared.kind.Kind.{Kind}
use Rattle.sheet.specs.declared.kind.Kind.TheVariants.{Vehicle, Begin, Finish, Pass}
use Rattle.sheet.specs.declared.reading.Request.{Request}
use Rattle.sheet.specs.declared.reading.Request.TheVariants as request

-- the letters V, B, F and T
abbrev pub letter : ℕ → Option Kind
letter b = if b == 86 then Some Vehicle else if b == 66 then Some Begin else if b == 70 then Some Finish else if b == 84 then Some Pass else None

-- the letter that names a kind
abbrev pub letter_of : Kind → ℕ
letter_of Vehicle = 86
letter_of Begin = 66
letter_of Finish = 70
letter_of Pass = 84

-- the kind that a field names: it is exactly one letter
abbrev pub kind_of : List ℕ → Option Kind
kind_of [] = None
kind_of (b ∷ []) = letter b
kind_of (b ∷ c ∷ bs) = None

-- how many fields a line has: a vehicle's has its kind and 1 to 8 pairs, the others their kind and one number
abbrev pub count_fits : Kind → ℕ → Bool
count_fits Vehicle n = nat_le 3 n && (nat_le n 17 && n % 2 == 1)
count_fits Begin n = n == 2
count_fits Finish n = n == 2
count_fits Pass n = n == 2

-- where field k of the fields begins in their line; past the last, where the line ends
abbrev pub offset_of : List (List ℕ) → ℕ → ℕ
offset_of [] k = 0
offset_of (f ∷ []) zero = 0
offset_of (f ∷ []) (suc k) = length f
offset_of (f ∷ g ∷ fs) zero = 0
offset_of (f ∷ g ∷ fs) (suc k) = length f + 1 + offset_of (g ∷ fs) k

-- what an offset means: the bytes of each field of a line stand there
abbrev pub FieldsStand : List ℕ → Type 0
FieldsStand bs =
    (k : ℕ) → k < length (parted 9 bs) → take (length (slice_index_or (parted 9 bs) k [])) (drop (offset_of (parted 9 bs) k) bs) ≡ slice_index_or (parted 9 bs) k []

-- what field k of a line of this kind writes: lengths and minutes, or the number of a station or a vehicle
abbrev pub value_of : Kind → ℕ → List ℕ → Result ℕ NumberFault
value_of Vehicle k f = if k % 2 == 0 then minutes_of f else number_of f
value_of Begin k f = number_of f
value_of Finish k f = number_of f
value_of Pass k f = minutes_of f

-- a value, with its field and offset where it is malformed
abbrev pub spotted : ℕ → ℕ → Result ℕ NumberFault → Result ℕ LineFault
spotted k at r = result_map_both (λ n. n) (λ e. Number e (record { field = k; offset = at })) r

-- f of what an answer holds
abbrev pub on_ok : {X Y E : Type 0} → (X → Y) → Result X E → Result Y E
on_ok f r = result_map_both f (λ e. e) r

-- a value in front of those of the fields behind it
abbrev pub value_next : Result ℕ LineFault → Result (List ℕ) LineFault → Result (List ℕ) LineFault
value_next (Ok n) rest = on_ok (λ ns. n ∷ ns) rest
value_next (Err e) rest = Err e

-- the values of fields that begin with field k at offset at, or the first of them that is malformed
abbrev pub values_of : Kind → ℕ → ℕ → List (List ℕ) → Result (List ℕ) LineFault
values_of kind k at [] = Ok []
values_of kind k at (f ∷ fs) = value_next (spotted k at (value_of kind k f)) (values_of kind (k + 1) (at + length f + 1) fs)

-- numbers as pairs of station and length
abbrev pub steps_of : List ℕ → List Step
steps_of [] = []
steps_of (s ∷ []) = []
steps_of (s ∷ l ∷ ns) = record { station = s; length = l } ∷ steps_of ns

-- the call of a line of this kind with these numbers
abbrev pub call_for : Kind → List ℕ → Call
call_for Vehicle ns = enter (steps_of ns)
call_for Begin ns = begin (slice_index ns 0)
call_for Finish ns = finish (slice_index ns 0)
call_for Pass ns = pass (slice_index ns 0)

-- the call that a line with these fields asks for; the first number is field 1 and stands behind the letter and its tab
abbrev pub fields_read : List (List ℕ) → Option Kind → Result Call LineFault
fields_read fs None = Err KindUnknown
fields_read fs (Some k) = if count_fits k (length fs) then on_ok (call_for k) (values_of k 1 2 (drop 1 fs)) else Err FieldCount

-- the call that a line asks for, or why it cannot be read
abbrev pub reading_of : List ℕ → Result Call LineFault
reading_of bs = fields_read (parted 9 bs) (kind_of (slice_index_or (parted 9 bs) 0 []))

-- the offset that a malformed number is told at is that of its field
abbrev pub NumbersSpotted : List ℕ → Type 0
NumbersSpotted bs =
    (e : NumberFault) (spot : Spot) → reading_of bs ≡ Err (Number e spot) → (spot.field < length (parted 9 bs)) × (spot.offset ≡ offset_of (parted 9 bs) spot.field)

-- the call that a request stands for
abbrev pub call_of : Request → Call
call_of (request.Enter ss) = enter ss.items
call_of (request.Begin v) = begin v
call_of (request.Finish v) = finish v
call_of (request.Pass m) = pass m

-- the kind of the lines that ask for a request
abbrev pub asking : Request → Kind
asking (request.Enter ss) = Vehicle
asking (request.Begin v) = Begin
asking (request.Finish v) = Finish
asking (request.Pass m) = Pass
