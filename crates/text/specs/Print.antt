-- What is written into a lent slice.
use Rattle.std.specs.Prelude.{◌≡◌, ℕ, ◌+◌, ◌≤◌, List, ◌++◌, length, take, drop, Ok, Err, Result, nat_le, if◌then◌else◌}
use Rattle.text.specs.declared.cells.Line.{Line}
use Rattle.text.specs.declared.cells.PrintFault.{PrintFault}
use Rattle.text.specs.declared.cells.PrintFault.TheVariants.{NoRoom}

-- xs with the bytes bs written from `at` on
unfoldable pub put_at : List ℕ → ℕ → List ℕ → List ℕ
put_at xs at bs = take at xs ++ (bs ++ drop (at + length bs) xs)

-- the bytes bs at the front of xs, with their count, where they fit; else a refusal, and xs as it was
unfoldable pub printed_into : List ℕ → List ℕ → Result ℕ PrintFault × List ℕ
printed_into bs xs = if nat_le (length bs) (length xs) then (Ok (length bs), put_at xs 0 bs) else (Err NoRoom, xs)

-- the bytes bs fit behind what is written of the line
abbrev pub HasRoom : Line → List ℕ → Type 0
HasRoom line bs = line.end + length bs ≤ length line.place.now

-- the bytes bs are written behind what was, into the same slice
pub record Puts (old new : Line) (bs : List ℕ) : Type 0 where
  pub same_reference : new.place.ghost_name ≡ old.place.ghost_name
  pub written : new.place.now ≡ put_at old.place.now old.end bs
  pub end : new.end ≡ old.end + length bs
