-- The lines of a sheet, one after another.
use Rattle.std.proofs.Common.{◌≡◌, ℕ, ◌+◌, ◌-◌, ◌<◌, min, List, [], ◌∷◌, length, get_or, take, drop, Some, None, Ok, Err, Option, Result, sym, refl, ap, ◌∙◌, ⊎_elim, arith}
use Rattle.std.proofs.lemmas.List.{drop_all}
use Rattle.std.proofs.lemmas.Bool.{cases_lt}
use Rattle.std.proofs.lemmas.Bool.Decides.{nat_tests}
use Rattle.hall.specs.Log.{Log}
use Rattle.hall.specs.Rules.{Call}
use Rattle.text.specs.Split.{before, ended, parted}
use Rattle.text.proofs.Splits.{line_at, parted_first}
use Rattle.sheet.specs.declared.fault.LineFault.{LineFault}
use Rattle.sheet.specs.declared.fault.SheetFault.TheVariants.{AtLine}
use Rattle.sheet.specs.declared.kind.Kind.{Kind}
use Rattle.sheet.specs.declared.kind.Kind.TheVariants.{Vehicle, Begin, Finish, Pass}
use Rattle.sheet.proofs.Readings.{line_letter}
use Rattle.sheet.specs.Line.{answer_read, line_answer, line_log}
use Rattle.sheet.specs.Reading.{letter, letter_of, kind_of, fields_read, reading_of}
use Rattle.sheet.specs.Run.{entry_for, entry_of, next_of, log_next, Lettered}

-- past the text nothing is left, wherever that is
pub past_same : (xs : List ℕ) (n : ℕ) → drop (min n (length xs)) xs ≡ drop n xs
past_same xs n =
    ⊎_elim
    (λ l. ap (λ i. drop i xs) (let s : min n (length xs) ≡ n = omega arith in s))
    (λ l. drop_all (min n (length xs)) xs (omega arith) ∙ sym (drop_all n xs l))
    (cases_lt n (length xs))

-- line k of xs begins at `at` and ends at `end`
module _ (xs : List ℕ) (at end k : ℕ) (log : Log) (h : at < length xs) (is : end ≡ at + length (before 10 (drop at xs))) where
  lines : ended 10 (drop at xs) ≡ take (end - at) (drop at xs) ∷ ended 10 (drop (end + 1) xs)
  lines = line_at 10 xs at end h is

  pub next_log : line_log log (take (end - at) (drop at xs)) ≡ log_next (ended 10 (drop at xs)) log
  next_log = sym (ap (λ ls. log_next ls log) lines)

  pub next_rest : (behind : ℕ) → behind ≡ min (end + 1) (length xs) → ended 10 (drop behind xs) ≡ drop 1 (ended 10 (drop at xs))
  next_rest behind e = ap (λ i. ended 10 (drop i xs)) e ∙ ap (ended 10) (past_same xs (end + 1)) ∙ sym (ap (drop 1) lines)

  -- the line answered a
  module _ (a : Result ℕ LineFault) (called : a ≡ line_answer log (take (end - at) (drop at xs))) where
    answered : entry_of k (get_or (take (end - at) (drop at xs)) 0 0) a ≡ next_of k (ended 10 (drop at xs)) log
    answered = ap (entry_of k (get_or (take (end - at) (drop at xs)) 0 0)) called ∙ sym (ap (λ ls. next_of k ls log) lines)

    pub next_refused : (f : LineFault) → a ≡ Err f → Err (AtLine k f) ≡ next_of k (ended 10 (drop at xs)) log
    next_refused f e = ap (entry_of k (get_or (take (end - at) (drop at xs)) 0 0)) (sym e) ∙ answered

    pub next_accepted : (n : ℕ) (kind : Kind) → a ≡ Ok n → letter (get_or (take (end - at) (drop at xs)) 0 0) ≡ Some kind
        → Ok (Some (record { line = k; kind = kind; answer = n })) ≡ next_of k (ended 10 (drop at xs)) log
    next_accepted n kind e l = ap (entry_for k n) (sym l) ∙ ap (entry_of k (get_or (take (end - at) (drop at xs)) 0 0)) (sym e) ∙ answered

-- a letter is that of its kind
letter_back : (b : ℕ) (kind : Kind) → letter b ≡ Some kind → letter_of kind ≡ b
letter_back b Vehicle h = grind (arith, nat_tests)
letter_back b Begin h = grind (arith, nat_tests)
letter_back b Finish h = grind (arith, nat_tests)
letter_back b Pass h = grind (arith, nat_tests)

-- an accepted line was read, and so it has a kind
was_read : (log : Log) (fs : List (List ℕ)) (r : Result Call LineFault) (n : ℕ) → answer_read log fs r ≡ Ok n → (c : Call) × (r ≡ Ok c)
was_read log fs (Ok c) n h = (c, refl)
was_read log fs (Err f) n h = cc

was_named : (fs : List (List ℕ)) (o : Option Kind) (c : Call) → fields_read fs o ≡ Ok c → (kind : Kind) × (o ≡ Some kind)
was_named fs None c h = cc
was_named fs (Some kind) c h = (kind, refl)

pub lettered : Lettered
unfolding Lettered
lettered k l ls log n h =
    let read = was_read log (parted 9 l) (reading_of l) n h in
    let named = was_named (parted 9 l) (kind_of (get_or (parted 9 l) 0 [])) read.0 read.1 in
    let is : letter (get_or l 0 0) ≡ Some named.0 = line_letter l named.0 (ap (λ ps. kind_of (get_or ps 0 [])) (sym (parted_first 9 l)) ∙ named.1) in
    (named.0, letter_back (get_or l 0 0) named.0 is, ap (entry_of k (get_or l 0 0)) h ∙ ap (entry_for k n) is)
