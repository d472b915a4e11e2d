-- What a move and a visit are, taken apart.
use Rattle.std.proofs.Common.{option_map, ◌≡◌, ℕ, suc, ◌-◌, ◌<◌, Bool, true, false, cond, eqb, ltb, [], drop, Some, None, Option, refl, ap, ◌∙◌, arith}
use Rattle.std.proofs.lemmas.Bool.{ltb-true, eqb-true, eqb-false, lt-ltb, cond-true, cond_both}
use Rattle.hall.specs.Log.{Log}
use Rattle.plans.specs.Steps.{fleet, count, station_of, length_of}
use Rattle.plans.specs.Meanings.{Hours, Goal}
use Rattle.plans.specs.Plan.{put}
use Rattle.plans.specs.Position.{Position, ready, moved, move, left, is_leaf}
use Rattle.plans.specs.Walk.{children, dropped, Effect, effect}
use Rattle.plans.proofs.Base.{put_same, put_other, sum_below_less}

-- the begin that the hours answer for the vehicle's next step
abbrev pub asked : Hours → Log → Position → ℕ → Option ℕ
asked H L P v = H.earliest (station_of L v (P.begun v)) (ready L P v) (length_of L v (P.begun v))

pub record Moving (H : Hours) (L : Log) (P : Position) (v : ℕ) (Q : Position) : Type 0 where
  pub at : ℕ
  pub steps_left_is : P.begun v < count L v
  pub answer : asked H L P v ≡ Some at
  pub gives : moved L P v at ≡ Q

pub moving : (H : Hours) (L : Log) (P : Position) (v : ℕ) (Q : Position) → move H L P v ≡ Some Q → Moving H L P v Q
unfolding move
moving H L P v Q e = by (ltb (P.begun v) (count L v)) refl (asked H L P v) refl e
  where
    by : (b : Bool) → ltb (P.begun v) (count L v) ≡ b → (o : Option ℕ) → asked H L P v ≡ o
        → cond b (option_map (moved L P v) o) None ≡ Some Q → Moving H L P v Q
    by true t (Some a) o x = record { at = a; steps_left_is = ltb-true _ _ t; answer = o; gives = cc }
    by true t None o x = cc
    by false t a o x = cc

pub can_move : (H : Hours) (L : Log) (P : Position) (v b : ℕ) → P.begun v < count L v → asked H L P v ≡ Some b
    → move H L P v ≡ Some (moved L P v b)
unfolding move
can_move H L P v b l e =
    cond-true (ltb (P.begun v) (count L v)) _ None (lt-ltb _ _ l) ∙ ap (option_map (moved L P v)) e

pub left_less : (L : Log) (P : Position) (v b : ℕ) → v < fleet L → P.begun v < count L v
    → left L P ≡ suc (left L (moved L P v b))
unfolding left moved
left_less L P v b l h =
    sum_below_less (fleet L) (λ w. count L w - P.begun w) (λ w. count L w - put P.begun v (suc (P.begun v)) w) v l
    (rw put_same (omega arith))
    (λ w d. rw (put_other P.begun v w (suc (P.begun v)) d) refl)

-- a visit drops the position, or takes it as the best plan, or makes its children due
pub effect_cases : {S : Type 0} (H : Hours) (G : Goal S) (L : Log) (b : Option Position) (P : Position) (F : Effect → Type 0)
    → (dropped G L b P ≡ true → F (record { due = []; best = b }))
    → (dropped G L b P ≡ false → left L P ≡ 0 → F (record { due = []; best = Some P }))
    → (dropped G L b P ≡ false → (left L P ≡ 0 → ⊥) → F (record { due = children H L P; best = b }))
    → F (effect H G L b P)
unfolding effect is_leaf
effect_cases H G L b P F drop take open_up =
    cond_both (dropped G L b P) _ _ F drop
    (λ d. cond_both (eqb (left L P) 0) _ _ F (λ e. take d (eqb-true _ _ e)) (λ e. open_up d (eqb-false _ _ e)))
