-- The best score held, which is absent before the first one.
use Rattle.std.specs.Prelude.{◌≡◌, Bool, true, false, if◌then◌else◌, Some, None, Option}

module _ {S : Type 0} (no_worse : S → S → Bool) where
  -- a score is held that is no worse than this one
  abbrev pub beats : Option S → S → Bool
  beats None score = false
  beats (Some held) score = no_worse held score

  -- what is held once a score was offered: the one held before where it is no worse
  abbrev pub offered : Option S → S → Option S
  offered held score = if beats held score then held else Some score

  -- what was beaten before is beaten after
  abbrev pub Still : Option S → Option S → Type 0
  Still before after = (score : S) → beats before score ≡ true → beats after score ≡ true
