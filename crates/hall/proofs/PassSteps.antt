-- Pass is accepted exactly where the composition has that time step, within its limits.
use Rattle.std.proofs.Common.{◌≡◌, ℕ, ◌+◌, ◌-◌, ◌≤◌, Ok, refl, arith}
use mathlib.Core.Path.{fun_ext}
use Rattle.hall.specs.Job.{config_of, last_begin, Passes}
use Rattle.hall.specs.Lasting.{Lasting}
use Rattle.hall.specs.Log.{Log, vehicle_at, next_step}
use Rattle.hall.specs.Rules.{pass_answer, pass_log}

-- every clock goes on by the minutes that pass
pub passes : (l : Log) → Lasting l → (m n : ℕ) → Ok n ≡ pass_answer l m → Passes l m n (config_of (pass_log l m))
passes l k m n h =
    record {
      step = record {
        state = refl;
        clocks = fun_ext (λ d.
            let past : last_begin (vehicle_at l d.0) ≤ l.minute = k.begins d.0 (next_step (vehicle_at l d.0) - 1) in
            let on : l.minute + m - last_begin (vehicle_at l d.0) ≡ l.minute - last_begin (vehicle_at l d.0) + m = omega arith in
            on);
      };
      some = grind arith;
      most = grind arith;
      ends = grind arith;
      day = grind arith;
    }
