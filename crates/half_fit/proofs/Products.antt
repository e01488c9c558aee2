-- A product of two numbers below 2^32 fits a word.
use Rattle.std.proofs.Common.{ℕ, ◌*◌, ◌<◌, ◌≤◌, mul-le-mul, arith, w64, Fits}

pub product_fits : (a b : ℕ) → a < 4294967296 → b < 4294967296 → Fits w64 (a * b)
product_fits a b h l =
    let p : a * b ≤ 4294967295 * 4294967295 =
    mul-le-mul {n₂ = 4294967295} {m₂ = 4294967295} (omega arith) (omega arith)
    in
    omega arith
