-- A chip has at most 214 items: `few_items`.
use mathlib.Core.List.{List, [], ◌∷◌}
use Prim.Native.Nat.{ℕ, zero, suc, ◌+◌, ◌*◌, ◌≤◌}
use native.Mathlib.Omega.{arith}
use lib.ListN.{length, drop, length-append, length-map}
use Rattle.model.specs.declared.Net.{Net as HeldNet}
use Rattle.model.specs.declared.Pin.{Pin as HeldPin}
use Rattle.model.specs.declared.Chip.{Chip as HeldChip}
use Rattle.model.specs.Meaning.{first_of, blank_fix, blank_mac, blank_net, blank_pin, nets_of, chip_of}
use Rattle.model.proofs.Nets.{length_pins}
use Rattle.chip_text.specs.Text.{net_items, chip_items}
use Rattle.chip_text.proofs.Passing.{Whole}

first_and_rest : {A : Type 0} (z : A) (n : ℕ) (s : List A) → length (first_of z n s) + length (drop n s) ≤ 1 + length s
unfolding first_of
first_and_rest z zero s = omega arith
first_and_rest z (suc n) [] = omega arith
first_and_rest z (suc n) (a ∷ s) = let q = first_and_rest z n s in omega arith

nets_items : (ts : List HeldNet) (ps : List HeldPin) → length (net_items (nets_of ts ps)) ≤ 2 * length ts + length ps
unfolding net_items nets_of
nets_items [] ps = omega arith
nets_items (t ∷ ts) ps =
    let a = nets_items ts (drop t.pins ps) in
    let b = first_and_rest blank_pin t.pins ps in
    rw (length-append, length-map, length_pins) (omega arith)

pub few_items : (c : HeldChip) → Whole c → length (chip_items (chip_of c)) ≤ 214
unfolding chip_items chip_of
few_items c a =
    let f = first_and_rest blank_fix c.k c.fixes in
    let m = first_and_rest blank_mac c.n c.macs in
    let t = first_and_rest blank_net c.t c.nets in
    let n = nets_items (first_of blank_net c.t c.nets) c.pins in
    let x = a.fixes in
    let y = a.macs in
    let z = a.nets in
    let w = a.pins in
    simp (length-append, length-map) (omega arith)
