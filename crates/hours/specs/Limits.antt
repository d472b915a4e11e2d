-- The limits of every permitted step, as a law and as a test, and that the test tells the law.
use Rattle.std.specs.Prelude.{◌≡◌, ℕ, ◌+◌, ◌≤◌, Bool, true, ◌&&◌, nat_le}
use Rattle.std.proofs.Common.{arith}
use Rattle.std.proofs.lemmas.Bool.Decides.{nat_tests}

-- a step of length n on station s that begins at minute b
pub record Within (s b n : ℕ) : Type 0 where
  pub placed : s ≤ 15
  pub shortest : 1 ≤ n
  pub longest : n ≤ 1440
  pub last : b + n ≤ 2000000

abbrev pub within : ℕ → ℕ → ℕ → Bool
within s b n = nat_le s 15 && (nat_le 1 n && (nat_le n 1440 && nat_le (b + n) 2000000))

pub within_limits : (s b n : ℕ) → within s b n ≡ true → Within s b n
within_limits s b n e = record {
  placed = grind (arith, nat_tests);
  shortest = grind (arith, nat_tests);
  longest = grind (arith, nat_tests);
  last = grind (arith, nat_tests);
}
