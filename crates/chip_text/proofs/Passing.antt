-- From the test of a chip to what it then keeps: in the form of the needs of the services that take a chip.
use Rattle.std.specs.Prelude.{Ok, Err, Result}
use Rattle.model.specs.declared.Refusal.{Refusal}
use mathlib.Core.Path.{◌≡◌, sym, ap, ◌∙◌}
use mathlib.Core.List.{map}
use native.Mathlib.Omega.{arith}
use lib.ListN.{length, length-map}
use Rattle.model.specs.declared.Fix.{Fix}
use Rattle.model.specs.declared.Mac.{Mac}
use Rattle.model.specs.declared.Net.{Net as HeldNet}
use Rattle.model.specs.declared.Pin.{Pin as HeldPin}
use Rattle.model.specs.declared.Chip.{Chip as HeldChip}
use Rattle.model.specs.Meaning.{first_of, blank_net, chip_of}
use Rattle.text_grammar.specs.Writing.{tested_as}
use Rattle.chip_text.specs.Kind.{pin_count}
use Rattle.chip_text.specs.Text.{read_chip, chip_text}
use Rattle.chip_text.specs.Valid.{pins_before, HeldValid}
use Rattle.chip_text.specs.Passed.{Accepted, Passed}
use Rattle.chip_text.proofs.Accepted.{accepted_valid}
use Rattle.chip_text.proofs.HeldNets.{pins_mean, taken_first}
use Rattle.chip_text.proofs.HeldMeaning.{fixes_held, macs_held}
use Rattle.chip_text.proofs.HeldChip.{tested_fine}

-- a chip whose arrays are as long as its type says
pub record Whole (c : HeldChip) : Type 0 where
  pub fixes : length c.fixes ≡ 8
  pub macs : length c.macs ≡ 8
  pub nets : length c.nets ≡ 32
  pub pins : length c.pins ≡ 128

-- it is, since images of the arrays are that long
pub whole : (c : HeldChip) (A B C D : Type 0) (f : Fix → A) (g : Mac → B) (h : HeldNet → C) (k : HeldPin → D) → length (map f c.fixes) ≡ 8 → length (map g c.macs) ≡ 8 → length (map h c.nets) ≡ 32 → length (map k c.pins) ≡ 128 → Whole c
whole c A B C D f g h k p q r s =
    record { fixes = sym (length-map c.fixes f) ∙ p; macs = sym (length-map c.macs g) ∙ q; nets = sym (length-map c.nets h) ∙ r; pins = sym (length-map c.pins k) ∙ s }

module _ (c : HeldChip) (w : Whole c) where
  pins_held : HeldValid c → pin_count (chip_of c).nets ≡ pins_before c.t c.nets
  unfolding chip_of
  pins_held v =
      let b = v.pins in
      let y = w.pins in
      let m = pins_mean (first_of blank_net c.t c.nets) c.pins in
      let s = taken_first c.t c.nets in
      omega arith

  pub passed_by : Accepted c → Passed c
  passed_by e =
      let v : HeldValid c = tested_fine c w.fixes w.macs w.nets w.pins e in
      record {
        read = e;
        fine = v;
        valid = accepted_valid (chip_text (chip_of c)) (chip_of c) (sym e);
        fixes = fixes_held c v w.fixes;
        macs = macs_held c v w.macs;
        pins = pins_held v;
      }

  pub test_passed : (t : Result (Unit {0}) Refusal) → tested_as (chip_of c) t ≡ read_chip (chip_text (chip_of c)) → t ≡ Ok tt → Passed c
  test_passed t e q = passed_by (ap (tested_as (chip_of c)) (sym q) ∙ e)
