-- Writes into a line, one after another.
use Rattle.std.proofs.Common.{◌≡◌, ℕ, ◌+◌, ◌<◌, ◌≤◌, List, [], ◌∷◌, ◌++◌, length, take, drop, slice_set, sym, refl, ap, ◌∙◌, add-one, arith}
use Rattle.std.proofs.Math.Seq.{paste}
use Rattle.std.proofs.lemmas.List.{length-append, set_split, take-append-drop}
use Rattle.std.proofs.lemmas.List.Edits.{paste_none, paste_all, paste-paste, length-paste}
use Rattle.text.specs.declared.cells.Line.{Line}
use Rattle.text.specs.Print.{put_at, HasRoom, Puts}

-- a write is the library's
pub put_at-is-paste : (xs : List ℕ) (at : ℕ) (bs : List ℕ) → put_at xs at bs ≡ paste xs at bs (length bs)
unfolding put_at
put_at-is-paste xs at bs = sym (paste_all xs at bs (length bs) refl)

-- a write of one byte
pub put_at_one : (xs : List ℕ) (at b : ℕ) → at < length xs → slice_set xs at b ≡ put_at xs at (b ∷ [])
unfolding put_at
put_at_one xs at b h = set_split xs at b h ∙ ap (λ n. take at xs ++ b ∷ drop n xs) (sym (add-one at))

-- a list that is the bytes from `at` on, with what stood behind them, and the same before
pub put_at_parts : (xs o : List ℕ) (at end : ℕ) (bs : List ℕ) → at + length bs ≡ end → drop at o ≡ bs ++ drop end xs → take at o ≡ take at xs → o ≡ put_at xs at bs
unfolding put_at
put_at_parts xs o at end bs e back front =
    sym (take-append-drop at o) ∙ ap (λ l. l ++ drop at o) front ∙ ap (λ l. take at xs ++ l) (back ∙ ap (λ n. bs ++ drop n xs) (sym e))

-- two writes, the second where the first ended
put_at_more : (xs : List ℕ) (at : ℕ) (bs cs : List ℕ) → at ≤ length xs → put_at (put_at xs at bs) (at + length bs) cs ≡ put_at xs at (bs ++ cs)
put_at_more xs at bs cs h =
    put_at-is-paste (put_at xs at bs) (at + length bs) cs
    ∙ ap (λ l. paste l (at + length bs) cs (length cs)) (put_at-is-paste xs at bs)
    ∙ paste-paste xs at bs cs (length bs) (length cs) refl refl h
    ∙ ap (paste xs at (bs ++ cs)) (sym (length-append bs cs))
    ∙ sym (put_at-is-paste xs at (bs ++ cs))

-- a line to which nothing was written
pub put_none : (line : Line) → Puts line line []
put_none line = record {
  same_reference = refl;
  written = paste_none line.place.now line.end [] ∙ sym (put_at-is-paste line.place.now line.end []);
  end = omega arith;
}

-- the slice keeps its length
pub put_length : (old new : Line) (bs : List ℕ) → HasRoom old bs → Puts old new bs → length new.place.now ≡ length old.place.now
put_length old new bs h p =
    ap length (p.written ∙ put_at-is-paste old.place.now old.end bs) ∙ length-paste old.place.now old.end bs (length bs) h (omega arith)

-- one write after another
pub put_then : (old mid new : Line) (bs cs : List ℕ) → old.end ≤ length old.place.now → Puts old mid bs → Puts mid new cs → Puts old new (bs ++ cs)
put_then old mid new bs cs h p q = record {
  same_reference = q.same_reference ∙ p.same_reference;
  written = q.written ∙ ap (λ l. put_at l mid.end cs) p.written ∙ ap (λ i. put_at (put_at old.place.now old.end bs) i cs) p.end ∙ put_at_more old.place.now old.end bs cs h;
  end = omega (arith, p.end, q.end, length-append bs cs);
}
