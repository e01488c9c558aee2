-- Slot by slot, the axis that the solver is given has the bounds of document 01.
use Prim.{Unit, tt}
use Prim.Native.Nat.{ℕ, suc, ◌+◌, ◌<◌}
use mathlib.Core.Path.{◌≡◌, refl, sym, ap, ◌∙◌}
use mathlib.Core.List.{List, [], ◌∷◌, ◌++◌, map, zip_with, flat_map}
use native.Mathlib.Omega.{arith}
use lib.IntN.{pos, neg_ℤ, sub_ℕ}
use lib.ListN.{length, get_or, length-map}
use Rattle.model.specs.declared.Die.{Die}
use Rattle.model.specs.declared.Mac.{Mac}
use Rattle.model.specs.Meaning.{Pin, Net, Chip}
use Rattle.chip_text.specs.Valid.{ValidPin, ValidNet, Valid, no_pin, no_net}
use Rattle.num_laws.proofs.Differences.{sub_up, sub_sum, neg_sub}
use Rattle.placement.specs.Letters.{Letter}
use Rattle.axis_bounds.specs.declared.Slot.{Slot as HeldSlot}
use Rattle.axis_bounds.specs.Axis.{no_slot}
use Rattle.axis_bounds.specs.Listed as axis
use Rattle.axis_bounds.specs.Listed.{die_slots, listed}
use Rattle.fit_slots.specs.declared.Direction.{Direction}
use Rattle.fit_slots.specs.declared.Asked.{Asked}
use Rattle.fit_slots.specs.declared.Asked.TheVariants.{Before as before, After as after, Nothing as nothing}
use Rattle.fit_slots.specs.Slots.{Slot, free, bound, die_side, mac_side, fix_side, fix_corner, pin_place, asked, Couple, two_macs, mac_fix, couples, mac_slots, pair_slot, pair_slots, pin_slots, net_slots, first_hi, slots_on}
use Rattle.fit_slots.specs.Axes.{raised, axis_pin, axis_net, held_slot, held_slots, axis_for}
use Rattle.fit_slots.proofs.Lengths.{raised_pin}

-- no bound, or the same nodes and the same a
abbrev pub Same : Slot → HeldSlot → Type 0
Same free h = h ≡ no_slot
Same (bound u v a) h = (h.tail ≡ u) × (h.head ≡ v) × (sub_ℕ h.plus h.minus ≡ a)

unfoldable pub AllSame : List Slot → List HeldSlot → Type 0
AllSame [] [] = Unit
AllSame [] (h ∷ hs) = ⊥
AllSame (s ∷ ss) [] = ⊥
AllSame (s ∷ ss) (h ∷ hs) = Same s h × AllSame ss hs

all_append : (ss ts : List Slot) (hs gs : List HeldSlot) → AllSame ss hs → AllSame ts gs → AllSame (ss ++ ts) (hs ++ gs)
unfolding AllSame
all_append [] ts [] gs p q = q
all_append [] ts (h ∷ hs) gs p q = absurd p
all_append (s ∷ ss) ts [] gs p q = absurd p
all_append (s ∷ ss) ts (h ∷ hs) gs p q = (p.0, all_append ss ts hs gs p.1 q)

pub same_length : (ss : List Slot) (hs : List HeldSlot) → AllSame ss hs → length ss ≡ length hs
unfolding AllSame
same_length [] [] p = refl
same_length [] (h ∷ hs) p = absurd p
same_length (s ∷ ss) [] p = absurd p
same_length (s ∷ ss) (h ∷ hs) p = let q = same_length ss hs p.1 in omega arith

plain : (n : ℕ) → sub_ℕ n 0 ≡ pos n
plain n = sub_up n 0 (omega arith) ∙ ap (λ (t : ℕ). pos t) (omega arith)

same_macs : (d : Direction) (die : Die) (i : ℕ) (ms : List Mac) → AllSame (mac_slots d die i ms) (die_slots (die_side d die) i (map (mac_side d) ms))
unfolding AllSame mac_slots die_slots
same_macs d die i [] = tt
same_macs d die i (m ∷ ms) = ((refl, refl, refl), ((refl, refl, sub_sum (mac_side d m) (die_side d die)), same_macs d die (suc i) ms))

same_pair : (d : Direction) (k : Asked) (q : Couple) → Same (pair_slot d k q) (held_slot d k q)
same_pair d before (two_macs i a j b) = (refl, refl, plain (mac_side d a))
same_pair d after (two_macs i a j b) = (refl, refl, plain (mac_side d b))
same_pair d nothing (two_macs i a j b) = refl
same_pair d before (mac_fix i a f) = (refl, refl, sub_sum (mac_side d a) (fix_corner d f))
same_pair d after (mac_fix i a f) = (refl, refl, plain (fix_corner d f + fix_side d f))
same_pair d nothing (mac_fix i a f) = refl

same_pairs : (d : Direction) (ls : List Letter) (qs : List Couple) → AllSame (pair_slots d ls qs) (held_slots d ls qs)
unfolding AllSame zip_with held_slots
same_pairs d [] qs = tt
same_pairs d (l ∷ ls) [] = tt
same_pairs d (l ∷ ls) (q ∷ qs) = (same_pair d (asked d l) q, same_pairs d ls qs)

same_pins : (d : Direction) (n hi lo : ℕ) (ps : List Pin) → ((i : ℕ) → i < length ps → ValidPin n (get_or ps i no_pin)) → AllSame (pin_slots d hi lo ps) (axis.pin_slots 4096 hi lo (map (axis_pin d) ps))
unfolding AllSame flat_map axis.pin_slots
same_pins d n hi lo [] h = tt
same_pins d n hi lo (p ∷ ps) h =
    let e = raised_pin d n p (h 0 (omega arith)) in
    ((refl, refl, e), ((refl, refl, sym (neg_sub (raised (pin_place d p)) 4096) ∙ ap neg_ℤ e), same_pins d n hi lo ps (λ i l. h (suc i) (omega arith))))

same_nets : (d : Direction) (n h : ℕ) (ts : List Net) → ((j : ℕ) → j < length ts → ValidNet n (get_or ts j no_net)) → AllSame (net_slots d h ts) (axis.net_slots 4096 h (map (axis_net d) ts))
unfolding AllSame net_slots axis.net_slots
same_nets d n h [] v = tt
same_nets d n h (t ∷ ts) v =
    all_append (pin_slots d h (suc h) t.pins) (net_slots d (suc (suc h)) ts) (axis.pin_slots 4096 h (suc h) (map (axis_pin d) t.pins)) (axis.net_slots 4096 (suc (suc h)) (map (axis_net d) ts))
    (same_pins d n h (suc h) t.pins (v 0 (omega arith)).pin)
    (same_nets d n (suc (suc h)) ts (λ j l. v (suc j) (omega arith)))

pub same_slots : (d : Direction) (c : Chip) (ls : List Letter) → Valid c → AllSame (slots_on d c ls) (listed (axis_for d c ls))
unfolding slots_on listed axis_for
same_slots d c ls v =
    rw (length-map c.macs (mac_side d))
    (all_append (mac_slots d c.die 1 c.macs) (pair_slots d ls (couples c) ++ net_slots d (first_hi c) c.nets)
    (die_slots (die_side d c.die) 1 (map (mac_side d) c.macs)) (held_slots d ls (couples c) ++ axis.net_slots 4096 (first_hi c) (map (axis_net d) c.nets))
    (same_macs d c.die 1 c.macs)
    (all_append (pair_slots d ls (couples c)) (net_slots d (first_hi c) c.nets) (held_slots d ls (couples c)) (axis.net_slots 4096 (first_hi c) (map (axis_net d) c.nets))
    (same_pairs d ls (couples c))
    (same_nets d (length c.macs) (first_hi c) c.nets v.net)))
