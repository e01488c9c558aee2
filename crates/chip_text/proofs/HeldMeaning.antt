-- What a chip held as a value means, part by part: its fixes, its macros, and its nets with their pins.
use Prim.Native.Nat.{ℕ, suc, ◌≤◌, ◌<◌}
use native.Mathlib.Omega.{arith}
use mathlib.Core.Path.{◌≡◌, ◌∙◌}
use lib.ListN.{length, get_or, take, drop, length-drop}
use Rattle.model.specs.declared.Chip.{Chip as HeldChip}
use Rattle.model.specs.Meaning.{first_of, blank_fix, blank_mac, blank_net, blank_pin, pins_of, chip_of}
use Rattle.model.proofs.FirstOf.{first_take, length_first, get_d_first}
use Rattle.model.proofs.Nets.{length_nets}
use Rattle.chip_text.specs.Valid.{no_net, pins_before, HeldValid}
use Rattle.chip_text.proofs.HeldNets.{before_first, get_d_weight, get_d_net, pins_before_up, pins_before_more}

module _ (c : HeldChip) where
  pub fix_held : (i : ℕ) → i < c.k → get_or (chip_of c).fixes i blank_fix ≡ get_or c.fixes i blank_fix
  unfolding chip_of
  fix_held i h = get_d_first blank_fix c.k c.fixes i h

  pub mac_held : (i : ℕ) → i < c.n → get_or (chip_of c).macs i blank_mac ≡ get_or c.macs i blank_mac
  unfolding chip_of
  mac_held i h = get_d_first blank_mac c.n c.macs i h

  pub weight_held : (j : ℕ) → j < c.t → (get_or (chip_of c).nets j no_net).weight ≡ (get_or c.nets j blank_net).weight
  unfolding chip_of
  weight_held j h = get_d_weight (first_of blank_net c.t c.nets) c.pins j ∙ rw (get_d_first blank_net c.t c.nets j h)

  -- the pins of net j, the first of its count after those of the nets before it
  pub net_held : (j : ℕ) → j < c.t → (get_or (chip_of c).nets j no_net).pins ≡ pins_of (first_of blank_pin (get_or c.nets j blank_net).pins (drop (pins_before j c.nets) c.pins))
  unfolding chip_of
  net_held j h = get_d_net (first_of blank_net c.t c.nets) c.pins j ∙ rw (get_d_first blank_net c.t c.nets j h, before_first j c.t c.nets (omega arith))

  -- where the chip is fine and its arrays are whole
  module _ (v : HeldValid c) where
    pub fixes_held : length c.fixes ≡ 8 → length (chip_of c).fixes ≡ c.k
    unfolding chip_of
    fixes_held l = let q = v.fix_count in length_first blank_fix c.k c.fixes (omega arith)

    pub macs_held : length c.macs ≡ 8 → length (chip_of c).macs ≡ c.n
    unfolding chip_of
    macs_held l = let q = v.mac_count in length_first blank_mac c.n c.macs (omega arith)

    pub nets_held : length c.nets ≡ 32 → length (chip_of c).nets ≡ c.t
    unfolding chip_of
    nets_held l = let q = v.net_count in length_nets (first_of blank_net c.t c.nets) c.pins ∙ length_first blank_net c.t c.nets (omega arith)

    module _ (l : length c.pins ≡ 128) (j : ℕ) (h : j < c.t) where
      -- the pins of net j end within the list
      pub pins_left : (get_or c.nets j blank_net).pins ≤ length (drop (pins_before j c.nets) c.pins)
      pins_left =
          let q = v.pins in
          let u = pins_before_up (suc j) c.t c.nets (omega arith) in
          let m = pins_before_more j c.nets in
          rw length-drop (omega arith)

      pub pins_held : (get_or (chip_of c).nets j no_net).pins ≡ pins_of (take (get_or c.nets j blank_net).pins (drop (pins_before j c.nets) c.pins))
      pins_held = net_held j h ∙ rw (first_take blank_pin (get_or c.nets j blank_net).pins (drop (pins_before j c.nets) c.pins) pins_left)
