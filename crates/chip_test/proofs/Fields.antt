-- The fields of an item are read as its values where the thing can be made of its numbers, and else are fault 4.
use mathlib.Core.Path.{◌≡◌, refl}
use mathlib.Core.Bool.{Bool, true, false, ◌&&◌, and_assoc}
use mathlib.Core.List.{List, [], ◌∷◌}
use lib.IntN.{ℤ, pos}
use Rattle.model.specs.declared.Die.{Die}
use Rattle.model.specs.declared.Fix.{Fix}
use Rattle.model.specs.declared.Mac.{Mac}
use Rattle.model.specs.declared.Net.{Net as HeldNet}
use Rattle.model.specs.declared.Pin.{Pin as HeldPin}
use Rattle.model.specs.Meaning.{pin_of}
use Rattle.model.specs.Limits.{is_within, die_side, fix_corner, fix_side, mac_side, net_weight, pin_macro, pin_place}
use Rattle.model.specs.Made.{make_die, remake_pin}
use Rattle.model.specs.Step.{Step, next, check}
use Rattle.text_grammar.specs.Line.{Value, number}
use Rattle.text_grammar.proofs.FieldsText.{valued, judged}
use Rattle.chip_text.specs.Words.{form}
use Rattle.chip_text.specs.Text.{Item, die_item, fix_item, mac_item, pin_item, end_item}
use Rattle.chip_print.specs.Items.{weight_item}
use Rattle.chip_faults.specs.Faults.{is_made, fix_made, mac_made, net_made}

-- all values of a line, or the fault of a range
abbrev pub within : Bool → List Value → Step (List Value)
within b vs = check b 4 (next vs)

last_field : (b : Bool) (z : ℤ) → valued (check b 4 (next (number z))) (next []) ≡ within b (number z ∷ [])
last_field true z = refl
last_field false z = refl

next_field : (a b : Bool) (z : ℤ) (vs : List Value) → valued (check a 4 (next (number z))) (within b vs) ≡ within (a && b) (number z ∷ vs)
next_field true true z vs = refl
next_field true false z vs = refl
next_field false b z vs = refl

-- the fields of the item i are its values, where b passes
pub record FieldsOf (i : Item) (b : Bool) : Type 0 where
  pub read : judged (form i.word) i.values ≡ within b i.values

made_fields : {A : Type 0} (i : Item) (b : Bool) (a : A) → FieldsOf i b → FieldsOf i (is_made (check b 4 (next a)))
made_fields i true a f = f
made_fields i false a f = f

pub die_fields : (d : Die) → FieldsOf (die_item d) (is_made (make_die d.w d.h))
unfolding judged
die_fields d =
    let w : Bool = is_within die_side (pos d.w) in
    let h : Bool = is_within die_side (pos d.h) in
    made_fields _ (w && h) _ (record { read = rw (last_field h (pos d.h), next_field w h (pos d.w) (number (pos d.h) ∷ [])) })

pub fix_fields : (f : Fix) → FieldsOf (fix_item f) (fix_made f)
unfolding judged
fix_fields f =
    let x : Bool = is_within fix_corner (pos f.x) in
    let y : Bool = is_within fix_corner (pos f.y) in
    let w : Bool = is_within fix_side (pos f.w) in
    let h : Bool = is_within fix_side (pos f.h) in
    let one : List Value = number (pos f.h) ∷ [] in
    let two : List Value = number (pos f.w) ∷ one in
    let three : List Value = number (pos f.y) ∷ two in
    made_fields _ (x && y && w && h) _
    (record { read = rw (and_assoc (x && y) w h, and_assoc x y (w && h), last_field h (pos f.h), next_field w h (pos f.w) one, next_field y (w && h) (pos f.y) two, next_field x (y && (w && h)) (pos f.x) three) })

pub mac_fields : (m : Mac) → FieldsOf (mac_item m) (mac_made m)
unfolding judged
mac_fields m =
    let w : Bool = is_within mac_side (pos m.w) in
    let h : Bool = is_within mac_side (pos m.h) in
    made_fields _ (w && h) _ (record { read = rw (last_field h (pos m.h), next_field w h (pos m.w) (number (pos m.h) ∷ [])) })

pub net_fields : (t : HeldNet) → FieldsOf (weight_item t) (net_made t)
unfolding judged
net_fields t = let w : Bool = is_within net_weight (pos t.weight) in made_fields _ w _ (record { read = rw (last_field w (pos t.weight)) })

pub pin_fields : (p : HeldPin) → FieldsOf (pin_item (pin_of p)) (is_made (remake_pin p))
unfolding judged
pin_fields p =
    let m : Bool = is_within pin_macro (pos p.m) in
    let x : Bool = is_within pin_place (pin_of p).x in
    let y : Bool = is_within pin_place (pin_of p).y in
    let one : List Value = number (pin_of p).y ∷ [] in
    let two : List Value = number (pin_of p).x ∷ one in
    made_fields _ (m && x && y) _ (record { read = rw (and_assoc m x y, last_field y (pin_of p).y, next_field x y (pin_of p).x one, next_field m (x && y) (pos p.m) two) })

pub end_fields : FieldsOf end_item true
unfolding judged
end_fields = record { read = refl }
