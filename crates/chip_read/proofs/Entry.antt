-- What a line has that passes the tests before its fields.
use mathlib.Core.Path.{◌≡◌, ap, sym, ◌∙◌}
use Prim.Native.Nat.{◌≤◌, ◌<◌}
use borrow.Author.Tests.{ltb-true}
use Rattle.model.specs.Meaning.{chip_of}
use Rattle.text_grammar.specs.Steps.{Entered}
use Rattle.text_grammar.proofs.Entry.{in_place_law, has_room_law}
use Rattle.chip_text.specs.declared.ChipWord.{ChipWord}
use Rattle.chip_text.specs.declared.ChipWord.TheVariants as word
use Rattle.chip_text.specs.Kind.{Counts, counts, counts_of, room, chip_kind}
use Rattle.chip_text.specs.Tests.{last_of}
use Rattle.chip_read.specs.declared.State.{State}
use Rattle.chip_read.specs.State.{part_of, Sound}
use Rattle.chip_read.proofs.Follow.{after_net}
use Rattle.chip_read.proofs.Room.{held_counts}

module _ (s : State) (sound : Sound s) where
  abbrev held : Counts
  held = record { fixes = s.chip.k; macs = s.chip.n; nets = s.chip.t; pins = s.pins }

  spaced : (w : ChipWord) → Entered chip_kind (part_of s) w → room counts held w ≡ room counts (counts_of (chip_of s.chip)) w
  spaced w e = ap (λ (c : Counts). room counts c w) (held_counts s sound)

  pub fix_fits : Entered chip_kind (part_of s) word.Fix → s.chip.k < 8
  fix_fits e = ltb-true _ _ (spaced word.Fix e ∙ has_room_law chip_kind (part_of s) word.Fix e)

  pub mac_fits : Entered chip_kind (part_of s) word.Mac → s.chip.n < 8
  mac_fits e = ltb-true _ _ (spaced word.Mac e ∙ has_room_law chip_kind (part_of s) word.Mac e)

  pub net_fits : Entered chip_kind (part_of s) word.Net → s.chip.t < 32
  net_fits e = ltb-true _ _ (spaced word.Net e ∙ has_room_law chip_kind (part_of s) word.Net e)

  pub pin_fits : Entered chip_kind (part_of s) word.Pin → s.pins < 128
  pin_fits e = ltb-true _ _ (spaced word.Pin e ∙ has_room_law chip_kind (part_of s) word.Pin e)

  pub net_open : Entered chip_kind (part_of s) word.Pin → 1 ≤ s.chip.t
  net_open e = sound.opened (sym (after_net (last_of s.last)) ∙ in_place_law chip_kind (part_of s) word.Pin e)
