-- The pins of nets, counted net by net, in the form of the needs of `pins_before`.
use Prim.Native.Nat.{ℕ, zero, suc, ◌+◌, ◌≤◌, ◌<◌, min}
use native.Mathlib.Nat.{le_of_suc-le-suc}
use native.Mathlib.Decide.{dec_le}
use native.Mathlib.Omega.{arith}
use mathlib.Core.Path.{◌≡◌, refl, ap, ◌∙◌}
use mathlib.Core.List.{List, [], ◌∷◌}
use lib.ListN.{length, get_or}
use Rattle.model.specs.declared.Net.{Net}
use Rattle.model.specs.Meaning.{blank_net}
use Rattle.chip_text.specs.Valid.{pins_before}
use Rattle.chip_text.proofs.HeldNets.{pins_before_next}

-- past the last net there are no pins
before_past : (i j : ℕ) (ts : List Net) → length ts ≤ i → i ≤ j → pins_before i ts ≡ pins_before j ts
unfolding pins_before
before_past zero zero [] h l = refl
before_past zero (suc j) [] h l = refl
before_past (suc i) zero ts h l = absurd (omega arith)
before_past (suc i) (suc j) [] h l = refl
before_past zero j (t ∷ ts) h l = absurd (omega arith)
before_past (suc i) (suc j) (t ∷ ts) h l = ap (λ (q : ℕ). t.pins + q) (before_past i j ts (le_of_suc-le-suc h) (le_of_suc-le-suc l))

module _ (nets : List Net) where
  pub count_none : 0 ≡ min 129 (pins_before 0 nets)
  unfolding pins_before
  count_none = refl

  pub count_more : (k q r : ℕ) → q ≡ min 129 (pins_before k nets) → r ≡ min (q + (get_or nets k blank_net).pins) 18446744073709551615 → min r 129 ≡ min 129 (pins_before (k + 1) nets)
  count_more k q r e s = let a = pins_before_next k nets in omega arith

  -- all nets that there are
  pub count_all : (j k q : ℕ) → length nets ≡ 32 → k ≡ min j 32 → q ≡ min 129 (pins_before k nets) → q ≡ min 129 (pins_before j nets)
  count_all j k q w m e = e ∙ ap (min 129) (by (dec_le 32 j))
    where
      by : Dec (32 ≤ j) → pins_before k nets ≡ pins_before j nets
      by (yes h) = before_past k j nets (omega arith) (omega arith)
      by (no h) = let s : k ≡ j = omega arith in rw s
