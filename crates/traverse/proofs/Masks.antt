-- Bit i of a mask of 64 bits.
use Prim.Native.Nat.{ℕ, suc, ◌+◌, ◌*◌, ◌%◌, ◌^◌, ◌<◌}
use mathlib.Core.Path.{◌≡◌}
use native.Mathlib.Nat.{mod-eq_of_lt, one-mul, pow-suc}
use native.Mathlib.Omega.{arith}
use lib.Pow.{pow-lt, pow_mono}

module _ (i : ℕ) (h : i < 64) where
  pub bit_shifted : 1 * 2 ^ i % 2 ^ 64 ≡ 2 ^ i
  bit_shifted = rw one-mul (mod-eq_of_lt (pow-lt h))

  pub mask_fits : {u : ℕ} → u < 2 ^ i → u + 2 ^ i < 2 ^ 64
  mask_fits l = omega (arith, pow-suc 2 i, pow_mono {i = suc i} {j = 64} (omega arith))
