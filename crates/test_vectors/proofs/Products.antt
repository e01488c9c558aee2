-- Products of small numbers fit a word.
use Prim.Native.Nat.{ℕ, ◌-◌, ◌*◌, ◌<◌, ◌≤◌}
use native.Mathlib.Nat.{mul-le-mul}
use native.Mathlib.Omega.{arith}
use mir.Syntax.{w64}
use mir.Val.{Fits}

pub product_fits : (a b : ℕ) → a < 65536 → b < 65536 → Fits w64 (a * b)
product_fits a b h l =
    let p : a * b ≤ 65536 * 65536 = mul-le-mul {n₂ = 65536} {m₂ = 65536} (omega arith) (omega arith) in
    omega arith

-- n · (n − 1) of at most 8 macros
pub pairs_fit : (n : ℕ) → n ≤ 8 → Fits w64 (n * (n - 1))
pairs_fit n h =
    let p : n * (n - 1) ≤ 8 * 8 = mul-le-mul {n₂ = 8} {m₂ = 8} (omega arith) (omega arith) in
    omega arith
