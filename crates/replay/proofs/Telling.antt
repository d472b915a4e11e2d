-- The text of a replayed sheet tells its lines.
use Rattle.std.proofs.Common.{◌≡◌, ℕ, zero, suc, ◌+◌, ◌<◌, ltb, List, [], ◌∷◌, ◌++◌, length, get_or, take, drop, Some, None, Ok, Err, fold, Option, Result, sym, refl, ap, ◌∙◌, subst, inl, inr, ⊎_elim, append_assoc, add-zero, arith}
use Rattle.std.proofs.lemmas.Bool.{cond-false, le-ltb}
use Rattle.std.specs.List.{flat_map}
use Rattle.hall.specs.Log.{Log, empty_log}
use Rattle.sheet.specs.declared.fault.LineFault.{LineFault}
use Rattle.sheet.specs.declared.fault.LineFault.TheVariants.{KindUnknown}
use Rattle.sheet.specs.declared.fault.SheetFault.{SheetFault}
use Rattle.sheet.specs.declared.fault.SheetFault.TheVariants.{AtLine}
use Rattle.sheet.specs.declared.kind.Kind.{Kind}
use Rattle.sheet.specs.declared.run.Entry.{Entry}
use Rattle.sheet.specs.Line.{line_answer, line_log}
use Rattle.sheet.specs.Run.{entry_for, entry_of, next_of}
use Rattle.sheet.specs.Reading.{letter}
use Rattle.sheet.specs.Texts.{entry_text, fault_text}
use Rattle.text.specs.Split.{ended}
use Rattle.replay.specs.Replay.{lines_text, opened_text, shown_before, replay_text, line_gives, blank_entry, Tells, Told}

-- line i behind the first is line i + 1
next_gives : (k : ℕ) (l : List ℕ) (ls : List (List ℕ)) (log : Log) (i : ℕ) → line_gives k (l ∷ ls) log (suc i) ≡ line_gives (k + 1) ls (line_log log l) i
next_gives k l ls log i =
    let e : k + suc i ≡ k + 1 + i = omega arith in
    ap (λ n. next_of n (drop i ls) (fold line_log (line_log log l) (take i ls))) e

first_gives : (k : ℕ) (ls : List (List ℕ)) (log : Log) → line_gives k ls log 0 ≡ next_of k ls log
first_gives k ls log = ap (λ n. next_of n ls log) (add-zero k)

-- the first line is accepted, and the others are told
module _ (k : ℕ) (l : List ℕ) (ls : List (List ℕ)) (log : Log) (e : Entry) (first : next_of k (l ∷ ls) log ≡ Ok (Some e))
    (t : Tells (k + 1) ls (line_log log l) (lines_text (k + 1) ls (line_log log l))) where
  accepted : (i : ℕ) → i < length (e ∷ t.entries) → line_gives k (l ∷ ls) log i ≡ Ok (Some (get_or (e ∷ t.entries) i blank_entry))
  accepted zero h = first_gives k (l ∷ ls) log ∙ first
  accepted (suc i) h = next_gives k l ls log i ∙ t.accepted i (omega arith)

  shown : lines_text k (l ∷ ls) log ≡ entry_text e ++ lines_text (k + 1) ls (line_log log l)
  shown = ap (λ r. shown_before r (lines_text (k + 1) ls (line_log log l))) first

  more : Tells k (l ∷ ls) log (lines_text k (l ∷ ls) log)
  more = record {
    entries = e ∷ t.entries;
    accepted = accepted;
    ends = ⊎_elim
        (λ w. inl (ap suc w.0, shown ∙ ap (λ x. entry_text e ++ x) w.1))
        (λ w. inr (
          w.0,
          next_gives k l ls log (length t.entries) ∙ w.1,
          shown ∙ (ap (λ x. entry_text e ++ x) w.2 ∙ sym (append_assoc (entry_text e) (flat_map entry_text t.entries) (fault_text w.0))),
        ))
        t.ends;
  }

-- the first line is refused
stops : (k : ℕ) (l : List ℕ) (ls : List (List ℕ)) (log : Log) (f : SheetFault) → next_of k (l ∷ ls) log ≡ Err f
    → Tells k (l ∷ ls) log (lines_text k (l ∷ ls) log)
stops k l ls log f h = record {
  entries = [];
  accepted = λ i lt. absurd (omega arith);
  ends = inr (f, first_gives k (l ∷ ls) log ∙ h, ap (λ r. shown_before r (lines_text (k + 1) ls (line_log log l))) h);
}

by_letter : (k : ℕ) (l : List ℕ) (ls : List (List ℕ)) (log : Log) (n : ℕ) (o : Option Kind) → next_of k (l ∷ ls) log ≡ entry_for k n o
    → Tells (k + 1) ls (line_log log l) (lines_text (k + 1) ls (line_log log l)) → Tells k (l ∷ ls) log (lines_text k (l ∷ ls) log)
by_letter k l ls log n (Some kind) h t = more k l ls log (record { line = k; kind = kind; answer = n }) h t
by_letter k l ls log n None h t = stops k l ls log (AtLine k KindUnknown) h

by_answer : (k : ℕ) (l : List ℕ) (ls : List (List ℕ)) (log : Log) (a : Result ℕ LineFault) → line_answer log l ≡ a
    → Tells (k + 1) ls (line_log log l) (lines_text (k + 1) ls (line_log log l)) → Tells k (l ∷ ls) log (lines_text k (l ∷ ls) log)
by_answer k l ls log (Ok n) h t = by_letter k l ls log n (letter (get_or l 0 0)) (ap (entry_of k (get_or l 0 0)) h) t
by_answer k l ls log (Err f) h t = stops k l ls log (AtLine k f) (ap (entry_of k (get_or l 0 0)) h)

tells : (k : ℕ) (ls : List (List ℕ)) (log : Log) → Tells k ls log (lines_text k ls log)
tells k [] log = record { entries = []; accepted = λ i lt. absurd (omega arith); ends = inl (refl, refl) }
tells k (l ∷ ls) log = by_answer k l ls log (line_answer log l) refl (tells (k + 1) ls (line_log log l))

pub told : (bs : List ℕ) → Told bs (replay_text bs)
told bs h =
    subst (Tells 1 (ended 10 bs) empty_log) (sym (ap opened_text (cond-false (ltb 60000 (length bs)) _ _ (le-ltb 60000 (length bs) h))))
    (tells 1 (ended 10 bs) empty_log)
