-- Visits made one after another are the visits made together.
use Rattle.std.proofs.Common.{◌≡◌, ℕ, zero, suc, ◌+◌, ap, ◌∙◌, arith}
use Rattle.hall.specs.Log.{Log}
use Rattle.plans.specs.Meanings.{Hours, Goal}
use Rattle.plans.specs.Walk.{State, visit, after, begins, walk}

pub after_add : {S : Type 0} (H : Hours) (G : Goal S) (L : Log) (a b : ℕ) (s : State)
    → after H G L b (after H G L a s) ≡ after H G L (a + b) s
unfolding after
after_add H G L zero b s = let e : b ≡ 0 + b = omega arith in ap (λ n. after H G L n s) e
after_add H G L (suc a) b s =
    let e : suc (a + b) ≡ suc a + b = omega arith in
    after_add H G L a b (visit H G L s) ∙ ap (λ n. after H G L n s) e

pub walk_add : {S : Type 0} (H : Hours) (G : Goal S) (L : Log) (a b : ℕ) → after H G L b (walk H G L a) ≡ walk H G L (a + b)
unfolding walk
walk_add H G L a b = after_add H G L a b (begins L)
