-- Begin, finish and pass keep what every board keeps, and an empty board has it.
use Rattle.std.proofs.Common.{◌≡◌, ℕ, zero, suc, ◌+◌, ◌<◌, ◌≤◌, true, false, not, ◌&&◌, eqb, List, [], ◌∷◌, length, get_or, sym, refl, ap, subst, ⊎_elim, arith}
use Rattle.std.proofs.lemmas.Bool.{cases_Bool, or_parts, both_ways, eq-eqb}
use Rattle.hall.specs.Log.{Log, vehicle_at, step_at, blank, reached, marked, begun, idle, finished, running, waiting, done, begin_of, end_of, least_time, occupies, taken, empty_log}
use Rattle.hall.specs.Rules.{pass_log}
use Rattle.hall.specs.Lasting.{Lasting, clear}
use Rattle.hall.specs.declared.step.StepRecord.{StepRecord}
use Rattle.hall.specs.declared.step.Progress.{Progress}
use Rattle.hall.specs.declared.step.Progress.TheVariants.{Running, Done}
use Rattle.hall.proofs.Leading.{leading_below, leading_at, leading_all}
use Rattle.hall.proofs.Begins.{MayBegin}
use Rattle.hall.proofs.Finishes.{MayFinish}
use Rattle.hall.proofs.Spots.{spot, same_size, same_fleet, ordered_more, follows_more, pairs_more, each_more}

-- a step has one of three kinds of progress
pub begun_done : (p : Progress) → not (waiting p) ≡ true → running p ≡ false → done p ≡ true
begun_done p a b = grind arith

pub idle_running : (p : Progress) → not (running p) ≡ false → running p ≡ true
idle_running p h = grind arith

pub running_begun : (p : Progress) → running p ≡ true → not (waiting p) ≡ true
running_begun p h = grind arith

pub done_begun : (p : Progress) → done p ≡ true → not (waiting p) ≡ true
done_begun p h = grind arith

pub done_idle : (p : Progress) → done p ≡ true → running p ≡ false
done_idle p h = grind arith

pub not_idle : (p : Progress) → not (running p) ≡ true → running p ≡ false
not_idle p h = grind arith

-- a free station has no running step
free_row : (s : ℕ) (rs : List StepRecord) (i : ℕ) → occupies s rs ≡ false → running (get_or rs i blank).progress ≡ true
    → (get_or rs i blank).station ≡ s → ⊥
free_row s [] i f r e = both_ways false refl r
free_row s (x ∷ xs) zero f r e =
    let a = (or_parts (running x.progress && eqb x.station s) (occupies s xs) f).0 in
    let q : eqb x.station s ≡ true = eq-eqb _ _ e in
    both_ways true (simp (r, q) at a) refl
free_row s (x ∷ xs) (suc i) f r e = free_row s xs i (or_parts (running x.progress && eqb x.station s) (occupies s xs) f).1 r e

pub free_all : (s : ℕ) (vs : List (List StepRecord)) (u i : ℕ) → taken s vs ≡ false → running (get_or (get_or vs u []) i blank).progress ≡ true
    → (get_or (get_or vs u []) i blank).station ≡ s → ⊥
free_all s [] u i f r e = both_ways false refl r
free_all s (v ∷ vs) zero i f r e = free_row s v i (or_parts (occupies s v) (taken s vs) f).0 r e
free_all s (v ∷ vs) (suc u) i f r e = free_all s vs u i (or_parts (occupies s v) (taken s vs) f).1 r e

-- two steps do not run on one station, and do not overlap on it
abbrev Alone : StepRecord → StepRecord → Type 0
Alone a b = running a.progress ≡ true → running b.progress ≡ true → a.station ≡ b.station → ⊥

abbrev Apart : StepRecord → StepRecord → Type 0
Apart a b = begun a ≡ true → begun b ≡ true → a.station ≡ b.station → clear a b ≡ true

-- the parts of what is kept that one changed step leaves to be shown
record Changes (l : Log) (v n : ℕ) (r : StepRecord) : Type 0 where
  before : (a : ℕ) → a < n → finished (step_at l v a) ≡ true
  earlier : (a : ℕ) → a < n → end_of (step_at l v a).progress ≤ begin_of r.progress
  after : (b : ℕ) → n < b → begun (step_at l v b) ≡ true → ⊥
  alone_left : (u a : ℕ) → (u ≡ v → a ≡ n → ⊥) → Alone r (step_at l u a)
  alone_right : (u a : ℕ) → (u ≡ v → a ≡ n → ⊥) → Alone (step_at l u a) r
  apart_left : (u a : ℕ) → (u ≡ v → a ≡ n → ⊥) → Apart r (step_at l u a)
  apart_right : (u a : ℕ) → (u ≡ v → a ≡ n → ⊥) → Apart (step_at l u a) r
  long : finished r ≡ true → begin_of r.progress + least_time r.length ≤ end_of r.progress
  begin_past : begin_of r.progress ≤ l.minute
  end_past : end_of r.progress ≤ l.minute

lasts_marked : (l : Log) (v n : ℕ) (p : Progress) → Lasting l → v < length l.vehicles → n < length (vehicle_at l v)
    → Changes l v n (reached (step_at l v n) p) → Lasting (marked l v n p)
lasts_marked l v n p k known in' c =
    let sp = spot l v n p known in' in
    let r = reached (step_at l v n) p in
    record {
      few = omega (arith, k.few, same_fleet l v n p known);
      some = λ u h. omega (arith, k.some u (omega (arith, h, same_fleet l v n p known)), same_size l v n p known u);
      eight = λ u. omega (arith, k.eight u, same_size l v n p known u);
      placed = each_more (step_at l) _ v n r sp (λ s. s.station ≤ 15) k.placed (k.placed v n);
      shortest = λ u i h. ⊎_elim
          (λ x. omega (arith, k.shortest v n in', ap (λ s. s.length) x.2))
          (λ x. omega (arith, k.shortest u i (omega (arith, h, same_size l v n p known u)), ap (λ s. s.length) x.1)) (sp u i);
      longest = each_more (step_at l) _ v n r sp (λ s. s.length ≤ 1440) k.longest (k.longest v n);
      ordered = ordered_more (step_at l) _ v n r sp k.ordered c.before c.after;
      follows = follows_more (step_at l) _ v n r sp k.follows c.earlier c.after;
      exclusive = pairs_more (step_at l) _ v n r sp Alone k.exclusive c.alone_left c.alone_right;
      apart = pairs_more (step_at l) _ v n r sp Apart k.apart c.apart_left c.apart_right;
      whole = each_more (step_at l) _ v n r sp (λ s. finished s ≡ true → begin_of s.progress + least_time s.length ≤ end_of s.progress) k.whole c.long;
      begins = each_more (step_at l) _ v n r sp (λ s. begin_of s.progress ≤ l.minute) k.begins c.begin_past;
      ends = each_more (step_at l) _ v n r sp (λ s. end_of s.progress ≤ l.minute) k.ends c.end_past;
      day = k.day;
    }

-- what a begin finds: the step waits, those before it are finished and none behind it is begun
module _ (l : Log) (v n : ℕ) (k : Lasting l) (m : MayBegin l v n) where
  pub begin_waits : begun (step_at l v n) ≡ false
  begin_waits = subst (λ q. begun (step_at l v q) ≡ false) (sym m.next) (leading_at begun (vehicle_at l v) blank (omega (arith, m.next, m.left)))

  pub begin_before : (a : ℕ) → a < n → finished (step_at l v a) ≡ true
  begin_before a lt =
      begun_done (step_at l v a).progress (leading_below begun (vehicle_at l v) a blank (omega (arith, m.next)))
      (not_idle (step_at l v a).progress (leading_all idle (vehicle_at l v) a blank refl m.none_runs))

  pub begin_after : (b : ℕ) → n < b → begun (step_at l v b) ≡ true → ⊥
  begin_after b lt h = both_ways _ begin_waits (done_begun (step_at l v n).progress (k.ordered v n b lt h))

  -- a begun step on the free station is over
  over : (u a : ℕ) → begun (step_at l u a) ≡ true → (step_at l u a).station ≡ (step_at l v n).station → finished (step_at l u a) ≡ true
  over u a h e =
      ⊎_elim (λ g. absurd (free_all (step_at l v n).station l.vehicles u a m.free g e)) (begun_done (step_at l u a).progress h)
      (cases_Bool (running (step_at l u a).progress))

  pub lasts_begin : Lasting (marked l v n (Running l.minute))
  lasts_begin = lasts_marked l v n (Running l.minute) k m.known m.left (record {
    before = begin_before;
    earlier = λ a lt. k.ends v a;
    after = begin_after;
    alone_left = λ u a ne f g e. free_all (step_at l v n).station l.vehicles u a m.free g (sym e);
    alone_right = λ u a ne f g e. free_all (step_at l v n).station l.vehicles u a m.free f e;
    apart_left = λ u a ne f g e. let o = over u a g (sym e) in let past = k.ends u a in grind arith;
    apart_right = λ u a ne f g e. let o = over u a f e in let past = k.ends u a in grind arith;
    long = λ f. absurd (both_ways false refl f);
    begin_past = omega arith;
    end_past = omega arith;
  })

-- what a finish finds: the step runs, and those before it are finished and none behind it is begun
module _ (l : Log) (v n : ℕ) (k : Lasting l) (m : MayFinish l v n) where
  pub finish_runs : running (step_at l v n).progress ≡ true
  finish_runs = idle_running (step_at l v n).progress
      (subst (λ q. idle (step_at l v q) ≡ false) (sym m.step) (leading_at idle (vehicle_at l v) blank (omega (arith, m.step, m.within))))

  started : begun (step_at l v n) ≡ true
  started = running_begun (step_at l v n).progress finish_runs

  open_ended : finished (step_at l v n) ≡ true → ⊥
  open_ended f = both_ways _ (done_idle (step_at l v n).progress f) finish_runs

  pub finish_before : (a : ℕ) → a < n → finished (step_at l v a) ≡ true
  finish_before a lt = k.ordered v a n lt started

  pub finish_after : (b : ℕ) → n < b → begun (step_at l v b) ≡ true → ⊥
  finish_after b lt h = open_ended (k.ordered v n b lt h)

  pub lasts_finish : Lasting (marked l v n (Done (begin_of (step_at l v n).progress) l.minute))
  lasts_finish = lasts_marked l v n (Done (begin_of (step_at l v n).progress) l.minute) k m.known m.within (record {
    before = finish_before;
    earlier = λ a lt. k.follows v a n lt started;
    after = finish_after;
    alone_left = λ u a ne f g e. both_ways false refl f;
    alone_right = λ u a ne f g e. both_ways false refl g;
    apart_left = λ u a ne f g e. let o = k.apart v u n a (λ p q. ne (sym p) (sym q)) started g e in let r = finish_runs in grind arith;
    apart_right = λ u a ne f g e. let o = k.apart u v a n ne f started e in let r = finish_runs in grind arith;
    long = λ f. m.late;
    begin_past = k.begins v n;
    end_past = omega arith;
  })

pub lasts_pass : (l : Log) (m : ℕ) → Lasting l → l.minute + m ≤ 1000000 → Lasting (pass_log l m)
lasts_pass l m k h = record {
  few = k.few;
  some = k.some;
  eight = k.eight;
  placed = k.placed;
  shortest = k.shortest;
  longest = k.longest;
  ordered = k.ordered;
  follows = k.follows;
  exclusive = k.exclusive;
  apart = k.apart;
  whole = k.whole;
  begins = λ v j. omega (arith, k.begins v j);
  ends = λ v j. omega (arith, k.ends v j);
  day = h;
}

pub lasts_empty : Lasting empty_log
lasts_empty = record {
  few = omega arith;
  some = λ v h. absurd (omega arith);
  eight = λ v. omega arith;
  placed = λ v j. omega arith;
  shortest = λ v j h. absurd (omega arith);
  longest = λ v j. omega arith;
  ordered = λ v i j lt h. absurd (both_ways false refl h);
  follows = λ v i j lt h. absurd (both_ways false refl h);
  exclusive = λ u v i j ne f g e. both_ways false refl f;
  apart = λ u v i j ne f g e. absurd (both_ways false refl f);
  whole = λ v j h. absurd (both_ways false refl h);
  begins = λ v j. omega arith;
  ends = λ v j. omega arith;
  day = omega arith;
}
