-- What a line has that passes the tests before its fields.
use mathlib.Core.Path.{◌≡◌, refl, sym, ◌∙◌}
use mathlib.Core.Bool.{Bool, true, false}
use mathlib.Core.List.{List}
use Prim.Native.Nat.{ℕ, ◌≤◌, ◌<◌}
use lib.ListN.{length}
use borrow.Author.Tests.{ltb-true}
use Rattle.std.specs.Prelude.{Option, Some, None}
use Rattle.model.specs.declared.Spot.{Spot}
use Rattle.model.specs.Meaning.{blank_spot}
use Rattle.model.proofs.Holding.{holds_all}
use Rattle.model.proofs.FirstOf.{length_first}
use Rattle.text_grammar.specs.Steps.{Entered}
use Rattle.text_grammar.proofs.Entry.{in_place_law, has_room_law}
use Rattle.record_text.specs.declared.RecordWord.TheVariants as word
use Rattle.record_text.specs.Kind.{record_kind, spots_of}
use Rattle.record_text.specs.Tests.{last_of}
use Rattle.record_read.specs.declared.State.{State}
use Rattle.record_read.specs.State.{result_of, part_of, Sound}
use Rattle.record_read.proofs.Follow.{after_least}

-- the count of what is held is that of the record that it means
spots_count : (wl : Option ℕ) (n : ℕ) (ps : List Spot) → n ≤ length ps → (wl ≡ None → n ≡ 0) → length (spots_of (result_of wl n ps)) ≡ n
spots_count (Some wl) n ps h z = length_first blank_spot n ps h
spots_count None n ps h z = sym (z refl)

module _ (s : State) (sound : Sound s) where
  pub count_meant : length (spots_of (part_of s).result) ≡ s.count
  count_meant = spots_count s.wl s.count s.spots (holds_all sound.spots) sound.blank

  module _ (entered : Entered record_kind (part_of s) word.At) where
    pub at_fits : s.count < 8
    at_fits = ltb-true s.count 8 (rw (← count_meant) (has_room_law record_kind (part_of s) word.At entered))

    pub at_found : (wl : ℕ) × (s.wl ≡ Some wl)
    at_found = sound.opened (sym (after_least (last_of s.last)) ∙ in_place_law record_kind (part_of s) word.At entered)
