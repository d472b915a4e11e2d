-- Fitting inside a window and overlapping it, minute by minute.
use Rattle.std.proofs.Common.{◌≡◌, ℕ, ◌+◌, ◌-◌, ◌<◌, ◌≤◌, max, true, arith}
use Rattle.std.proofs.lemmas.Bool.Decides.{nat_tests}
use Rattle.hours.specs.Minutes.{Inside, Sharing, MinuteByMinute}
use Rattle.hours.specs.Window.{lawful, fits, overlaps}
use Rattle.hours.specs.declared.window.Window.{Window}

module _ (w : Window) (s b n : ℕ) (some : 1 ≤ n) where
  is_inside : fits w s b n ≡ true → Inside w s b n
  is_inside e = grind (arith, nat_tests)

  inside_fits : Inside w s b n → fits w s b n ≡ true
  inside_fits h =
      let first = h.1 b (omega arith, omega arith) in
      let last = h.1 (b + n - 1) (omega arith, omega arith) in
      grind (arith, nat_tests)

  is_sharing : w.from < w.to → overlaps w s b n ≡ true → Sharing w s b n
  is_sharing wide e = (grind (arith, nat_tests), (max w.from b, grind (arith, nat_tests), grind (arith, nat_tests)))

  sharing_overlaps : Sharing w s b n → overlaps w s b n ≡ true
  sharing_overlaps h = grind (arith, nat_tests)

pub minute_by_minute : (w : Window) → lawful w ≡ true → MinuteByMinute w
minute_by_minute w ok =
    let wide : w.from < w.to = grind (arith, nat_tests) in
    record {
      inside = λ s b n some. (is_inside w s b n some, inside_fits w s b n some);
      sharing = λ s b n some. (is_sharing w s b n some wide, sharing_overlaps w s b n some);
    }
