-- What a replayed sheet prints.
use Rattle.std.specs.Prelude.{◌≡◌, ℕ, ◌+◌, ◌<◌, ◌≤◌, ◌⊎◌, List, [], ◌∷◌, ◌++◌, length, take, drop, Some, None, Ok, Err, fold, Option, Result, slice_index_or}
use Rattle.std.specs.List.{flat_map}
use Rattle.hall.specs.Log.{Log, empty_log}
use Rattle.sheet.specs.declared.fault.SheetFault.{SheetFault}
use Rattle.sheet.specs.declared.kind.Kind.TheVariants.{Vehicle}
use Rattle.sheet.specs.declared.run.Entry.{Entry}
use Rattle.replay.specs.declared.replaying.Stop.{Stop}
use Rattle.replay.specs.declared.replaying.Stop.TheVariants.{Memory, Fault}
use Rattle.text.specs.Split.{ended}
use Rattle.sheet.specs.Line.{line_log}
use Rattle.sheet.specs.Run.{opened_of, next_of}
use Rattle.sheet.specs.Texts.{entry_text, fault_text}

-- an accepted line prints its entry, and the lines behind it follow; a refused one prints its fault, which ends the text
abbrev pub shown_before : Result (Option Entry) SheetFault → List ℕ → List ℕ
shown_before (Ok None) rest = rest
shown_before (Ok (Some e)) rest = entry_text e ++ rest
shown_before (Err f) rest = fault_text f

-- the text of these lines, of which the first is line k, on a hall with this log
abbrev pub lines_text : ℕ → List (List ℕ) → Log → List ℕ
lines_text k [] log = []
lines_text k (l ∷ ls) log = shown_before (next_of k (l ∷ ls) log) (lines_text (k + 1) ls (line_log log l))

-- the text of a sheet: its lines are run from line 1 on, on a hall that opens; a sheet that is too long prints that fault
abbrev pub opened_text : Result (List (List ℕ) × ℕ) SheetFault → List ℕ
opened_text (Ok o) = lines_text o.1 o.0 empty_log
opened_text (Err f) = fault_text f

abbrev pub replay_text : List ℕ → List ℕ
replay_text bs = opened_text (opened_of bs)

-- what line i of these lines gives, counted from 0, on the hall that the lines before it leave; the first is line k
abbrev pub line_gives : ℕ → List (List ℕ) → Log → ℕ → Result (Option Entry) SheetFault
line_gives k ls log i = next_of (k + i) (drop i ls) (fold line_log log (take i ls))

-- what is read past the last entry
abbrev pub blank_entry : Entry
blank_entry = record { line = 0; kind = Vehicle; answer = 0 }

-- what a text says of these lines, of which the first is line k, on a hall with this log: the first lines were accepted,
-- each on the hall that the lines before it left, and the text has their entries in order; they are all lines, or the
-- line behind them is refused, and the text ends with its fault
pub record Tells (k : ℕ) (ls : List (List ℕ)) (log : Log) (text : List ℕ) : Type 0 where
  pub entries : List Entry
  pub accepted : (i : ℕ) → i < length entries → line_gives k ls log i ≡ Ok (Some (slice_index_or entries i blank_entry))
  pub ends :
      ((length entries ≡ length ls) × (text ≡ flat_map entry_text entries))
      ⊎ ((f : SheetFault) × (line_gives k ls log (length entries) ≡ Err f) × (text ≡ flat_map entry_text entries ++ fault_text f))

-- a sheet that is not too long is told by its lines, from line 1 on, on a hall that opens
abbrev pub Told : List ℕ → List ℕ → Type 0
Told bs text = length bs ≤ 60000 → Tells 1 (ended 10 bs) empty_log text

-- a run of the sheet bs that added to the text `old`: the text `new` is then whole, or lacks the fault at its end;
-- nothing is said where memory was wanting
abbrev pub Ran : List ℕ → List ℕ → List ℕ → Result (Unit {0}) Stop → Type 0
Ran old new bs (Ok u) = new ≡ old ++ replay_text bs
Ran old new bs (Err (Fault f)) = new ++ fault_text f ≡ old ++ replay_text bs
Ran old new bs (Err (Memory e)) = Unit {0}
