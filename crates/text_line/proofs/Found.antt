-- The bytes before the first d, as a place.
use mathlib.Core.Path.{◌≡◌, refl}
use mathlib.Core.Bool.{Bool, true, false}
use mathlib.Core.List.{List, [], ◌∷◌}
use Prim.Native.Nat.{ℕ, suc, ◌+◌, ◌≤◌, ◌<◌}
use native.Mathlib.Decide.{dec_lt}
use native.Mathlib.Omega.{arith}
use lib.Dec.{eqb}
use lib.ListN.{length}
use borrow.Author.Tests.{lt-ltb, le-ltb}
use Rattle.std.specs.Prelude.{cond}
use Rattle.std.specs.List.{position, position_or_len, prefix_len}
use Rattle.std.specs.Option.{unwrap_or}
use Rattle.std.proofs.lemmas.List.Recursion.{is_position_or_len}
use Rattle.std.proofs.lemmas.List.Sums.{prefix_len-le-length}
use Rattle.text_grammar.specs.Line.{up_to}

module _ (d : ℕ) where
  up_to_place : (s : List ℕ) → length (up_to d s) ≡ position_or_len (λ b. eqb b d) s
  unfolding up_to
  up_to_place s = is_position_or_len (λ t. length (up_to d t)) (λ b. eqb b d) refl (λ b t. by (eqb b d) b t) s
    where
      by : (r : Bool) (b : ℕ) (t : List ℕ) → length {A = ℕ} (elim r [ true ↦ [] | false ↦ b ∷ up_to d t ]) ≡ cond r 0 (1 + length (up_to d t))
      by true b t = refl
      by false b t = omega arith

  pub before_first : (s : List ℕ) → unwrap_or (position (λ b. eqb b d) s) (length s) ≡ length (up_to d s)
  before_first s = rw (up_to_place s) (by (dec_lt (position_or_len (λ b. eqb b d) s) (length s)) (prefix_len-le-length _ s))
    where
      by : Dec (position_or_len (λ b. eqb b d) s < length s) → position_or_len (λ b. eqb b d) s ≤ length s → unwrap_or (position (λ b. eqb b d) s) (length s) ≡ position_or_len (λ b. eqb b d) s
      by (yes h) k = rw (lt-ltb _ _ h)
      by (no h) k = rw (le-ltb (position_or_len (λ b. eqb b d) s) (length s) (omega arith)) (omega arith)
