-- The counts of what is held against those of the chip that it means.
use mathlib.Core.Path.{◌≡◌, ◌∙◌}
use mathlib.Core.List.{List}
use Prim.Native.Nat.{ℕ, ◌≤◌}
use native.Mathlib.Omega.{arith}
use lib.ListN.{length}
use Rattle.model.specs.declared.Net.{Net}
use Rattle.model.specs.declared.Pin.{Pin}
use Rattle.model.specs.Meaning.{chip_of, nets_of, first_of, blank_fix, blank_mac, blank_net}
use Rattle.model.specs.Counted.{taken, Holds}
use Rattle.model.proofs.FirstOf.{length_first}
use Rattle.model.proofs.Nets.{length_nets}
use Rattle.chip_text.specs.Kind.{counts_of, pin_count}
use Rattle.chip_text.proofs.HeldNets.{pins_mean}
use Rattle.chip_read.specs.declared.State.{State}
use Rattle.chip_read.specs.State.{Sound}

pin_count_law : (ts : List Net) (ps : List Pin) → taken ts ≤ length ps → pin_count (nets_of ts ps) ≡ taken ts
pin_count_law ts ps h = let q = pins_mean ts ps in omega arith

count : {A : Type 0} (z : A) {most n : ℕ} {items : List A} → Holds z most n items → length (first_of z n items) ≡ n
count z {most = most} {n = n} {items = items} h = length_first z n items (omega (arith, h.few, h.long))

module _ (s : State) (sound : Sound s) where
  fix_count_law : length (chip_of s.chip).fixes ≡ s.chip.k
  unfolding chip_of
  fix_count_law = count blank_fix sound.fixes

  pub mac_count_law : length (chip_of s.chip).macs ≡ s.chip.n
  unfolding chip_of
  mac_count_law = count blank_mac sound.macs

  net_count_law : length (chip_of s.chip).nets ≡ s.chip.t
  unfolding chip_of
  net_count_law = length_nets (first_of blank_net s.chip.t s.chip.nets) s.chip.pins ∙ count blank_net sound.nets

  pins_count : pin_count (chip_of s.chip).nets ≡ s.pins
  unfolding chip_of
  pins_count = pin_count_law (first_of blank_net s.chip.t s.chip.nets) s.chip.pins (omega (arith, sound.pins.few, sound.pins.long, sound.counted)) ∙ sound.counted

  -- the counts that are held are those of the chip
  pub held_counts : record { fixes = s.chip.k; macs = s.chip.n; nets = s.chip.t; pins = s.pins } ≡ counts_of (chip_of s.chip)
  held_counts = rw (fix_count_law, mac_count_law, net_count_law, pins_count)
