-- From a chip to its arrays.
use Prim.Native.Nat.{ℕ}
use mathlib.Core.List.{List, map}
use Rattle.model.specs.declared.Chip.{Chip as HeldChip}
use Rattle.chip_text.proofs.Passing.{Whole}
use Rattle.fit_slots.specs.declared.Direction.{Direction}
use Rattle.fit_slots.specs.Slots.{die_side, mac_side}
use Rattle.half_arrays.specs.Arrays.{entry_count}
use Rattle.search_tables.specs.Entries.{NetsIn}
use Rattle.search_tables.specs.Dots.{Dotted}
use Rattle.search_tables.specs.Made.{ArraysFor}
use Rattle.search_tables.proofs.ChipNets.{chip_tabled}
use Rattle.search_tables.proofs.ChipDots.{chip_arced}

-- ---- the arrays

module _ (c : HeldChip) (d : Direction) (tab arcs : List ℕ) where
  pub holds : Whole c → NetsIn d c.nets c.pins tab (entry_count tab) c.t → Dotted (die_side d c.die) c.n (map (mac_side d) c.macs) arcs 81 → ArraysFor c d tab arcs
  holds w h g = record { passed = λ pass. record { tabled = chip_tabled c pass w d tab h; arced = chip_arced c pass d arcs g } }
