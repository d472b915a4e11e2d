-- The text of the lines that are left, line by line.
use Rattle.std.proofs.Common.{◌≡◌, ℕ, ◌+◌, ◌<◌, List, [], ◌∷◌, ◌++◌, length, drop, Some, Ok, sym, ap, ◌∙◌, append_assoc, arith}
use Rattle.hall.specs.Log.{Log}
use Rattle.sheet.specs.declared.run.Entry.{Entry}
use Rattle.sheet.specs.Line.{line_log}
use Rattle.sheet.specs.Run.{next_of, log_next, number_next}
use Rattle.sheet.specs.Texts.{entry_text}
use Rattle.replay.specs.Replay.{shown_before, lines_text}

module _ (k : ℕ) (log : Log) where
  -- an accepted line shows its entry, and the lines behind it follow
  pub shows_entry : (ls : List (List ℕ)) (e : Entry) → Ok (Some e) ≡ next_of k ls log
      → (0 < length ls) × (lines_text k ls log ≡ entry_text e ++ lines_text (number_next k ls) (drop 1 ls) (log_next ls log))
  shows_entry [] e h = cc
  shows_entry (l ∷ ls) e h = (omega arith, ap (λ r. shown_before r (lines_text (k + 1) ls (line_log log l))) (sym h))

-- one more entry is shown
pub shows_more : (shown new whole : List ℕ) (k k' : ℕ) (ls ls' : List (List ℕ)) (log log' : Log) (e : Entry)
    → Ok (Some e) ≡ next_of k ls log → new ≡ shown ++ entry_text e → k' ≡ number_next k ls → ls' ≡ drop 1 ls → log' ≡ log_next ls log
    → shown ++ lines_text k ls log ≡ whole → new ++ lines_text k' ls' log' ≡ whole
shows_more shown new whole k k' ls ls' log log' e h n p q r w =
    ap (λ t. t ++ lines_text k' ls' log') n
    ∙ (append_assoc shown (entry_text e) (lines_text k' ls' log')
    ∙ (ap (λ t. shown ++ (entry_text e ++ t))
    (ap (λ i. lines_text i ls' log') p ∙ (ap (λ l. lines_text (number_next k ls) l log') q ∙ ap (lines_text (number_next k ls) (drop 1 ls)) r))
    ∙ (ap (λ t. shown ++ t) (sym (shows_entry k log ls e h).1) ∙ w)))
