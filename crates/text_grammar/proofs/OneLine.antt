-- The line from its word on.
use mathlib.Core.Path.{◌≡◌}
use mathlib.Core.List.{List}
use Prim.Native.Nat.{ℕ, ◌≤◌}
use native.Mathlib.Omega.{arith}
use lib.ListN.{length, take, length-take}
use Rattle.text_grammar.specs.Line.{comma, up_to}
use Rattle.text_grammar.proofs.Cut.{up_to_short}

module _ (bytes : List ℕ) (b : ℕ) (n : b ≡ length (up_to comma bytes)) where
  pub word_end : b ≤ length bytes
  word_end = rw n (up_to_short comma bytes)

  pub word_long : b ≡ length (take b bytes)
  word_long = rw length-take (omega (arith, word_end))
