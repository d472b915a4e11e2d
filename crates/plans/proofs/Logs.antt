-- What the walk uses of a log that a board keeps.
use Rattle.std.proofs.Common.{◌≡◌, ℕ, suc, ◌+◌, ◌<◌, ◌≤◌, true, ◌&&◌, leb, ◌⊎◌, inl, inr, arith}
use Rattle.std.proofs.lemmas.Bool.{leb-true, and_parts, or_cases}
use Rattle.hall.specs.Log.{Log, step_at, finished, begin_of, end_of}
use Rattle.hall.specs.Lasting.{Lasting, clear}
use Rattle.hall.specs.declared.step.StepRecord.{StepRecord}
use Rattle.plans.specs.Steps.{fleet, count, IsStep, station_of, length_of, progress_of, Begun, Finished}

pub record LogOk (L : Log) : Type 0 where
  pub now_small : L.minute ≤ 1000000
  pub few : fleet L ≤ 24
  pub short : (v : ℕ) → v < fleet L → count L v ≤ 8
  pub placed : (v k : ℕ) → IsStep L v k → station_of L v k ≤ 15
  pub full : (v : ℕ) → v < fleet L → 1 ≤ count L v
  pub limits : (v k : ℕ) → IsStep L v k → (1 ≤ length_of L v k) × (length_of L v k ≤ 1440)
  pub past : (v k : ℕ) → IsStep L v k → begin_of (progress_of L v k) ≤ L.minute
  pub took : (v k : ℕ) → IsStep L v k → Finished (progress_of L v k)
      → (begin_of (progress_of L v k) + length_of L v k ≤ end_of (progress_of L v k)) × (end_of (progress_of L v k) ≤ L.minute)
  pub ordered : (v k : ℕ) → IsStep L v (suc k) → Begun (progress_of L v (suc k))
      → Finished (progress_of L v k) × (end_of (progress_of L v k) ≤ begin_of (progress_of L v (suc k)))
  pub apart : (v k w j : ℕ) → IsStep L v k → IsStep L w j → station_of L v k ≡ station_of L w j → ¬ ((v ≡ w) × (k ≡ j))
      → Begun (progress_of L v k) → Begun (progress_of L w j)
      → (Finished (progress_of L v k) × (end_of (progress_of L v k) ≤ begin_of (progress_of L w j)))
      ⊎ (Finished (progress_of L w j) × (end_of (progress_of L w j) ≤ begin_of (progress_of L v k)))

-- a step that was over when another began
over : (a b : StepRecord) → (finished a && leb (end_of a.progress) (begin_of b.progress)) ≡ true
    → Finished a.progress × (end_of a.progress ≤ begin_of b.progress)
over a b e = let p = and_parts (finished a) (leb (end_of a.progress) (begin_of b.progress)) e in (p.0, leb-true _ _ p.1)

one_over : (a b : StepRecord) → clear a b ≡ true
    → (Finished a.progress × (end_of a.progress ≤ begin_of b.progress))
    ⊎ (Finished b.progress × (end_of b.progress ≤ begin_of a.progress))
one_over a b e =
    elim (or_cases (finished a && leb (end_of a.progress) (begin_of b.progress))
    (finished b && leb (end_of b.progress) (begin_of a.progress)) e)
    [ inl x ↦ inl (over a b x) | inr x ↦ inr (over b a x) ]

pub log_ok : (L : Log) → Lasting L → LogOk L
unfolding fleet count station_of length_of progress_of
log_ok L h = record {
  now_small = h.day;
  few = h.few;
  short = λ v _. h.eight v;
  placed = λ v k _. h.placed v k;
  full = h.some;
  limits = λ v k i. (h.shortest v k i.within, h.longest v k);
  past = λ v k _. h.begins v k;
  took = λ v k _ d. (h.whole v k d, h.ends v k);
  ordered = λ v k _ b. (h.ordered v k (suc k) (omega arith) b, h.follows v k (suc k) (omega arith) b);
  apart = λ v k w j _ _ s d b c. one_over (step_at L v k) (step_at L w j) (h.apart v w k j (λ x y. d (x, y)) b c s);
}
