-- A call that is accepted or refused does what the rules make of it.
use Rattle.std.proofs.Common.{◌≡◌, ℕ, IsErrAnd, Ok, Err, Result, sym, ap, ◌∙◌, subst}
use Rattle.std.proofs.lemmas.Result.{err_from_is_err_and}
use Rattle.hall.specs.declared.board.Board.{Board}
use Rattle.hall.specs.declared.fault.BoardFault.{BoardFault}
use Rattle.hall.specs.Rules.{Call, answer_to, written, after}
use Rattle.hall.specs.Hall.{hall_log, Called}
use Rattle.hall.specs.Job.{Config, Exactly}

pub accepted : (b : Board) (c : Call) (b' : Board) (n : ℕ) → Ok n ≡ answer_to (hall_log b) c → hall_log b' ≡ written (hall_log b) c → Called b c (Ok n) b'
accepted b c b' n e f = record {
  answer = e;
  log = f ∙ ap (λ r. after r (written (hall_log b) c) (hall_log b)) e;
  unchanged = tt;
}

-- a refusal that `?` passed on is exact where every step that there is would be accepted
pub exactly_none : (Takes : ℕ → Config → Type 0) (a : Result ℕ BoardFault) → ((n : ℕ) (z : Config) → Takes n z → Ok n ≡ a)
    → (r : Result ℕ BoardFault) (e : BoardFault) → IsErrAnd r (λ y. y ≡ e) → Err e ≡ a → (y : Config) → Exactly Takes r y
exactly_none Takes a only r e h f y =
    let p = err_from_is_err_and r h in
    subst (λ x. Exactly Takes x y) (sym (p.1 ∙ ap Err p.2)) (λ n z t. let q = only n z t in cc)
