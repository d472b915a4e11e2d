-- A sheet being run, one line at a time.
use Rattle.std.specs.Prelude.{◌≡◌, ℕ, ◌+◌, if◌then◌else◌, List, [], ◌∷◌, length, drop, Some, None, Ok, Err, Option, Result, nat_lt, slice_index}
use Rattle.hall.specs.Log.{Log}
use Rattle.text.specs.Split.{ended}
use Rattle.sheet.specs.declared.fault.LineFault.{LineFault}
use Rattle.sheet.specs.declared.fault.LineFault.TheVariants.{KindUnknown}
use Rattle.sheet.specs.declared.fault.SheetFault.{SheetFault}
use Rattle.sheet.specs.declared.fault.SheetFault.TheVariants.{TooLong, AtLine}
use Rattle.sheet.specs.declared.kind.Kind.{Kind}
use Rattle.sheet.specs.declared.run.Entry.{Entry}
use Rattle.sheet.specs.declared.run.Cursor.{Cursor}
use Rattle.sheet.specs.Line.{line_answer, line_log}
use Rattle.sheet.specs.Reading.{letter, letter_of}

-- the lines of the text that are left
abbrev pub left : List ℕ → Cursor → List (List ℕ)
left bs cursor = ended 10 (drop cursor.at bs)

-- the number of the next line
abbrev pub number : Cursor → ℕ
number cursor = cursor.behind + 1

-- the lines that are left, and the number of the first of them
abbrev pub standing : List ℕ → Cursor → List (List ℕ) × ℕ
standing bs cursor = (left bs cursor, number cursor)

-- where a run of these bytes begins: the text of a sheet has at most 60,000 bytes, and its first line is line 1
abbrev pub opened_of : List ℕ → Result (List (List ℕ) × ℕ) SheetFault
opened_of bs = if nat_lt 60000 (length bs) then Err TooLong else Ok (ended 10 bs, 1)

-- line k, which is of this kind, answered n; a line of no kind is refused
abbrev pub entry_for : ℕ → ℕ → Option Kind → Result (Option Entry) SheetFault
entry_for k n (Some kind) = Ok (Some (record { line = k; kind = kind; answer = n }))
entry_for k n None = Err (AtLine k KindUnknown)

-- line k, whose first byte is b, answered this
abbrev pub entry_of : ℕ → ℕ → Result ℕ LineFault → Result (Option Entry) SheetFault
entry_of k b (Ok n) = entry_for k n (letter b)
entry_of k b (Err f) = Err (AtLine k f)

-- what the next of these lines gives on a hall with this log; it is line k
abbrev pub next_of : ℕ → List (List ℕ) → Log → Result (Option Entry) SheetFault
next_of k [] log = Ok None
next_of k (l ∷ ls) log = entry_of k (slice_index l 0) (line_answer log l)

-- the log after it
abbrev pub log_next : List (List ℕ) → Log → Log
log_next [] log = log
log_next (l ∷ ls) log = line_log log l

-- the number of the line behind it
abbrev pub number_next : ℕ → List (List ℕ) → ℕ
number_next k [] = k
number_next k (l ∷ ls) = k + 1

-- an accepted line gives an entry, and the letter of its kind is the first byte of the line
unfoldable pub Lettered : Type 0
Lettered =
    (k : ℕ) (l : List ℕ) (ls : List (List ℕ)) (log : Log) (n : ℕ) → line_answer log l ≡ Ok n
    → (kind : Kind) × (letter_of kind ≡ slice_index l 0) × (next_of k (l ∷ ls) log ≡ Ok (Some (record { line = k; kind = kind; answer = n })))
