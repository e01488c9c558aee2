-- What a chip and a record mean: lists and unbounded numbers (document 01, "The chip file", "The search and its record"). A die, a fix, a macro
-- and a spot are the records of numbers that the program declares.
use Rattle.std.specs.Prelude.{ℕ, zero, suc, List, [], ◌∷◌, drop, ℤ}
use Rattle.std.proofs.Math.IntN.{sub_ℕ}
use Rattle.model.specs.declared.Die.{Die}
use Rattle.model.specs.declared.Fix.{Fix}
use Rattle.model.specs.declared.Mac.{Mac}
use Rattle.model.specs.declared.Spot.{Spot}
use Rattle.model.specs.declared.Net.{Net as HeldNet}
use Rattle.model.specs.declared.Pin.{Pin as HeldPin}
use Rattle.model.specs.declared.Chip.{Chip as HeldChip}
use Rattle.model.specs.declared.Record.{Record as HeldRecord}
use Rattle.model.specs.declared.Outcome.{Outcome}
use Rattle.model.specs.declared.Outcome.TheVariants as outcome

-- a pin of macro m at the macro's corner plus x,y, or a pad at x,y where m is 0
pub record Pin : Type 0 where
  pub m : ℕ
  pub x : ℤ
  pub y : ℤ

-- a net with its pins
pub record Net : Type 0 where
  pub weight : ℕ
  pub pins : List Pin

-- a chip: the order of fixes, macros, nets and pins belongs to its meaning
pub record Chip : Type 0 where
  pub die : Die
  pub fixes : List Fix
  pub macs : List Mac
  pub nets : List Net

-- a record: `none`, or `least` with the wirelength and the corner of each macro
pub data Record : Type 0 where
  none : Record
  least : ℕ → List Spot → Record

-- ---- what a value held by the program means

-- the items that a count n and an array of items s mean: the first n of s; a count above the length of s means all of s and one item too many, which is blank
unfoldable pub first_of {ℓ} : {A : Type ℓ} → A → ℕ → List A → List A
first_of blank zero s = []
first_of blank (suc n) [] = blank ∷ []
first_of blank (suc n) (a ∷ s) = a ∷ first_of blank n s

-- blank items: those with 0 in every field
abbrev pub blank_fix : Fix
blank_fix = record { x = 0; y = 0; w = 0; h = 0 }

abbrev pub blank_mac : Mac
blank_mac = record { w = 0; h = 0 }

abbrev pub blank_net : HeldNet
blank_net = record { weight = 0; pins = 0 }

abbrev pub blank_pin : HeldPin
blank_pin = record { m = 0; xup = 0; yup = 0 }

abbrev pub blank_spot : Spot
blank_spot = record { x = 0; y = 0 }

-- how much higher than they are x and y of a pin are held
abbrev pub pin_up : ℕ
pin_up = 4096

-- the pin that a value means
abbrev pub pin_of : HeldPin → Pin
pin_of p = record { m = p.m; x = sub_ℕ p.xup pin_up; y = sub_ℕ p.yup pin_up }

-- the pins that a list holds
unfoldable pub pins_of : List HeldPin → List Pin
pins_of [] = []
pins_of (p ∷ ps) = pin_of p ∷ pins_of ps

-- the nets that two lists mean, of nets and of pins: each net takes its pins from the front of the second list
unfoldable pub nets_of : List HeldNet → List HeldPin → List Net
nets_of [] ps = []
nets_of (t ∷ ts) ps = record { weight = t.weight; pins = pins_of (first_of blank_pin t.pins ps) } ∷ nets_of ts (drop t.pins ps)

-- the chip that a value means
unfoldable pub chip_of : HeldChip → Chip
chip_of c = record {
  die = c.die;
  fixes = first_of blank_fix c.k c.fixes;
  macs = first_of blank_mac c.n c.macs;
  nets = nets_of (first_of blank_net c.t c.nets) c.pins;
}

-- the record that an outcome and a list of corners mean
abbrev pub outcome_of : Outcome → List Spot → Record
outcome_of outcome.None s = none
outcome_of (outcome.Least wl n) s = least wl (first_of blank_spot n s)

-- the record that a value means
unfoldable pub record_of : HeldRecord → Record
record_of r = outcome_of r.outcome r.spots
