-- The length of the first bytes of a text.
use mathlib.Core.Path.{◌≡◌, sym}
use mathlib.Core.List.{List}
use Prim.Native.Nat.{ℕ, ◌≤◌}
use lib.ListN.{length, take}
use lib.Seq.{length-take-le}

pub prefix_long : (n : ℕ) (s : List ℕ) → n ≤ length s → n ≡ length (take n s)
prefix_long n s h = sym (length-take-le n s h)
