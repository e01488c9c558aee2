-- The whole chip is read back from the array that it is stored in.
use Prim.Native.Nat.{ℕ, ◌+◌, ◌<◌}
use mathlib.Core.Path.{◌≡◌, refl, ap, ◌∙◌}
use mathlib.Core.List.{List, [], ◌∷◌, flat_map}
use native.Mathlib.Omega.{arith}
use lib.ListN.{length, get_or}
use lib.Seq.{sets, length-sets}
use Rattle.model.specs.declared.Chip.{Chip as HeldChip}
use Rattle.model.specs.Meaning.{blank_fix, blank_mac, blank_net, blank_pin}
use Rattle.model.specs.Limits.{most_fixes, most_macs, most_nets, most_pins}
use Rattle.chip_text.proofs.Passing.{Whole}
use Rattle.chip_array.specs.Array.{macs_at, nets_at, pins_at, fixes_at}
use Rattle.chip_array.specs.Array.{num, mac_in, net_in, pin_in, fix_in, macs_in, nets_in, pins_in, fixes_in, chip_in}
use Rattle.chip_put.specs.Numbers.{mac_numbers, net_numbers, pin_numbers, fix_numbers}
use Rattle.chip_put.proofs.Runs.{sets_before, sets_in, items_back}

-- the counts and the die
abbrev head_numbers : HeldChip → List ℕ
head_numbers c = c.k ∷ c.n ∷ c.t ∷ c.die.w ∷ c.die.h ∷ []

-- the stores into the array z, one kind after the other
module _ (z : List ℕ) (long : length z ≡ 640) (c : HeldChip) (whole : Whole c) where
  abbrev head : List ℕ
  head = sets z 0 (head_numbers c)

  abbrev with_macs : List ℕ
  with_macs = sets head macs_at (flat_map mac_numbers c.macs)

  abbrev with_nets : List ℕ
  with_nets = sets with_macs nets_at (flat_map net_numbers c.nets)

  abbrev with_pins : List ℕ
  with_pins = sets with_nets pins_at (flat_map pin_numbers c.pins)

  abbrev with_fixes : List ℕ
  with_fixes = sets with_pins fixes_at (flat_map fix_numbers c.fixes)

  head_long : length head ≡ 640
  head_long = length-sets z 0 (head_numbers c) ∙ long

  macs_long : length with_macs ≡ 640
  macs_long = length-sets head macs_at (flat_map mac_numbers c.macs) ∙ head_long

  nets_long : length with_nets ≡ 640
  nets_long = length-sets with_macs nets_at (flat_map net_numbers c.nets) ∙ macs_long

  pins_long : length with_pins ≡ 640
  pins_long = length-sets with_nets pins_at (flat_map pin_numbers c.pins) ∙ nets_long

  -- what later stores leave as it is
  after_pins : (j : ℕ) → j < fixes_at → num with_fixes j ≡ num with_pins j
  after_pins j h = sets_before with_pins (flat_map fix_numbers c.fixes) fixes_at j h

  after_nets : (j : ℕ) → j < pins_at → num with_fixes j ≡ num with_nets j
  after_nets j h = after_pins j (omega arith) ∙ sets_before with_nets (flat_map pin_numbers c.pins) pins_at j h

  after_macs : (j : ℕ) → j < nets_at → num with_fixes j ≡ num with_macs j
  after_macs j h = after_nets j (omega arith) ∙ sets_before with_macs (flat_map net_numbers c.nets) nets_at j h

  after_head : (j : ℕ) → j < macs_at → num with_fixes j ≡ num head j
  after_head j h = after_macs j (omega arith) ∙ sets_before head (flat_map mac_numbers c.macs) macs_at j h

  macs_stand : macs_in with_fixes ≡ c.macs
  macs_stand = let h = head_long in items_back mac_numbers 2 (λ a. refl) macs_at most_macs c.macs whole.macs blank_mac head with_fixes (omega arith)
      (λ j b. after_macs j (omega arith)) (mac_in with_fixes) (omega arith) (λ i a f at. rw (f, at 1 (omega arith)))

  nets_stand : nets_in with_fixes ≡ c.nets
  nets_stand = let h = macs_long in items_back net_numbers 2 (λ a. refl) nets_at most_nets c.nets whole.nets blank_net with_macs with_fixes (omega arith)
      (λ j b. after_nets j (omega arith)) (net_in with_fixes) (omega arith) (λ i a f at. rw (f, at 1 (omega arith)))

  pins_stand : pins_in with_fixes ≡ c.pins
  pins_stand = let h = nets_long in items_back pin_numbers 3 (λ a. refl) pins_at most_pins c.pins whole.pins blank_pin with_nets with_fixes (omega arith)
      (λ j b. after_pins j (omega arith)) (pin_in with_fixes) (omega arith) (λ i a f at. rw (f, at 1 (omega arith), at 2 (omega arith)))

  fixes_stand : fixes_in with_fixes ≡ c.fixes
  fixes_stand = let h = pins_long in items_back fix_numbers 4 (λ a. refl) fixes_at most_fixes c.fixes whole.fixes blank_fix with_pins with_fixes (omega arith)
      (λ j b. refl) (fix_in with_fixes) (omega arith) (λ i a f at. rw (f, at 1 (omega arith), at 2 (omega arith), at 3 (omega arith)))

  head_stands : (j : ℕ) → j < 5 → num with_fixes j ≡ get_or (head_numbers c) j 0
  head_stands j h =
      let e : j ≡ 0 + j = omega arith in
      after_head j (omega arith) ∙ ap (num head) e ∙ sets_in z (head_numbers c) 0 j h (omega arith)

  pub chip_back : (s₁ s₂ s₃ s₄ : List ℕ) → s₁ ≡ sets head macs_at (flat_map mac_numbers c.macs)
      → s₂ ≡ sets s₁ nets_at (flat_map net_numbers c.nets) → s₃ ≡ sets s₂ pins_at (flat_map pin_numbers c.pins)
      → s₄ ≡ sets s₃ fixes_at (flat_map fix_numbers c.fixes) → chip_in s₄ ≡ c
  unfolding chip_in
  chip_back s₁ s₂ s₃ s₄ e₁ e₂ e₃ e₄ =
      let k = head_stands 0 (omega arith) in
      let n = head_stands 1 (omega arith) in
      let t = head_stands 2 (omega arith) in
      let x = head_stands 3 (omega arith) in
      let y = head_stands 4 (omega arith) in
      rw (e₄, e₃, e₂, e₁, k, n, t, x, y, macs_stand, nets_stand, pins_stand, fixes_stand)
