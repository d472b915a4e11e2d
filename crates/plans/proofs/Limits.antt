-- The minutes of a position that moves reach from the root, and the finishes of its bound.
use Rattle.std.proofs.Common.{◌≡◌, ℕ, zero, suc, ◌+◌, ◌-◌, ◌*◌, ◌<◌, ◌≤◌, true, ◌⊎◌, refl, subst, inl, inr, arith}
use Rattle.std.proofs.lemmas.Bool.{cases_lt, cases_eq}
use Rattle.hall.specs.Log.{Log, begin_of, end_of}
use Rattle.hall.specs.declared.step.Progress.{Progress}
use Rattle.hall.specs.declared.step.Progress.TheVariants.{Waiting, Running, Done}
use Rattle.plans.specs.Steps.{fleet, count, IsStep, length_of, progress_of, Finished, begun_of}
use Rattle.plans.specs.Meanings.{Hours, Goal, Lawful}
use Rattle.plans.specs.Plan.{end_by}
use Rattle.plans.specs.Position.{Position, free_after, root, moved, lengths, bound_finish, bound}
use Rattle.plans.proofs.Logs.{LogOk}
use Rattle.plans.proofs.Opening.{HoursOk}
use Rattle.plans.proofs.Reaching.{Child, Reach, reach_keeps}
use Rattle.plans.proofs.Moves.{moving}
use Rattle.plans.proofs.Root.{root_within}
use Rattle.plans.proofs.Scores.{earlier_score}
use Rattle.plans.proofs.Bounds.{finish_left, finish_none, free_same, free_other, clock_is, reach_grows}

pub record Small (L : Log) (P : Position) : Type 0 where
  pub clock : P.clock ≤ 2000000
  pub free : (v : ℕ) → v < fleet L → P.free_vehicle v ≤ 2000000

end_small : (now len : ℕ) (p : Progress) → now ≤ 1000000 → len ≤ 1440 → begin_of p ≤ now
    → (Finished p → end_of p ≤ now) → end_by now len p ≤ 2000000
end_small now len Waiting a b c d = omega arith
end_small now len (Running x) a b c d = omega arith
end_small now len (Done x y) a b c d = let e = d refl in omega arith

free_small : (L : Log) → LogOk L → (v k : ℕ) → v < fleet L → k ≤ count L v → free_after L v k ≤ 2000000
unfolding free_after
free_small L ok v zero l h = omega arith
free_small L ok v (suc k) l h =
    let i : IsStep L v k = record { known = l; within = omega arith } in
    end_small L.minute (length_of L v k) (progress_of L v k)
    ok.now_small (ok.limits v k i).1 (ok.past v k i) (λ d. (ok.took v k i d).1)

pub root_small : (L : Log) → LogOk L → Small L (root L)
unfolding root
root_small L ok = record {
  clock = omega (arith, ok.now_small);
  free = λ v l. free_small L ok v (begun_of L v) l (root_within L v);
}

moved_small : (L : Log) (P : Position) (v b : ℕ) → b + length_of L v (P.begun v) ≤ 2000000 → Small L P
    → Small L (moved L P v b)
moved_small L P v b e s = record {
  clock = let c = clock_is L P v b in omega arith;
  free = λ w l. by w l (cases_eq v w);
}
  where
    by : (w : ℕ) → w < fleet L → (v ≡ w) ⊎ (v ≡ w → ⊥) → (moved L P v b).free_vehicle w ≤ 2000000
    by w l (inl q) = subst (λ u. (moved L P v b).free_vehicle u ≤ 2000000) q (let f = free_same L P v b in omega arith)
    by w l (inr d) = let f = free_other L P v b w d in let o = s.free w l in omega arith

child_small : (H : Hours) → HoursOk H → (L : Log) (P Q : Position) → Child H L P Q → Small L P → Small L Q
child_small H ho L P Q c s =
    let m = moving H L P c.vehicle Q c.is in
    let f = ho.found _ _ _ _ m.answer in
    subst (Small L) m.gives (moved_small L P c.vehicle m.at (ho.ends _ _ _ f.1) s)

lengths_small : (L : Log) → LogOk L → (v : ℕ) → v < fleet L → (m k : ℕ) → k + m ≤ count L v
    → lengths L v k m ≤ 1440 * m
unfolding lengths
lengths_small L ok v l zero k h = omega arith
lengths_small L ok v l (suc m) k h =
    let i : IsStep L v k = record { known = l; within = omega arith } in
    let a = (ok.limits v k i).1 in
    let r = lengths_small L ok v l m (suc k) (omega arith) in
    omega arith

finish_small : (L : Log) → LogOk L → (P : Position) → Small L P
    → (v : ℕ) → v < fleet L → bound_finish L P v ≤ 2020000
finish_small L ok P s v l = by (cases_lt (P.begun v) (count L v))
  where
    by : (P.begun v < count L v) ⊎ (count L v ≤ P.begun v) → bound_finish L P v ≤ 2020000
    by (inl h) =
        let e = finish_left L P v h in
        let m = lengths_small L ok v l (count L v - P.begun v) (P.begun v) (omega arith) in
        let c = ok.short v l in
        let k = s.clock in
        let f = s.free v l in
        omega arith
    by (inr h) = let e = finish_none L P v h in let f = s.free v l in omega arith

-- each finish of a position reached from the root is in the goal's range
reached_finish : (H : Hours) → HoursOk H → (L : Log) → LogOk L → (R : Position) → Reach H L R (root L)
    → (v : ℕ) → v < fleet L → bound_finish L R v ≤ 2020000
reached_finish H ho L ok R r v l =
    finish_small L ok R (reach_keeps H L (Small L) (child_small H ho L) R (root L) r (root_small L ok)) v l

-- the bound of a position is no worse than that of any position that moves lead to
pub bounding : {S : Type 0} (H : Hours) → HoursOk H → (G : Goal S) → Lawful G → (L : Log) → LogOk L → (P R : Position)
    → Reach H L R (root L) → Reach H L R P → G.no_worse (bound G L P) (bound G L R) ≡ true
unfolding bound
bounding H ho G gk L ok P R t r =
    earlier_score G gk (fleet L) (bound_finish L P) (bound_finish L R) ok.few
    (λ w l. reach_grows H ho L R P r w) (reached_finish H ho L ok R t)
