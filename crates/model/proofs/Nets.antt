-- Nets with their pins, as counts and one list of pins hold them.
use mathlib.Core.Path.{◌≡◌, refl, ap}
use mathlib.Core.List.{List, [], ◌∷◌, ◌++◌}
use Prim.Native.Nat.{ℕ, suc, ◌+◌, ◌-◌, ◌≤◌}
use native.Mathlib.Omega.{arith}
use lib.ListN.{length, drop, set}
use lib.Seq.{drop-drop, drop-set-add}
use Rattle.model.specs.declared.Net.{Net as HeldNet}
use Rattle.model.specs.declared.Pin.{Pin as HeldPin}
use Rattle.model.specs.Counted.{taken}
use Rattle.model.specs.Meaning.{first_of, blank_pin, pins_of, nets_of}
use Rattle.model.proofs.FirstOf.{first_kept}

pub taken_snoc : (ts : List HeldNet) (u : HeldNet) → taken (ts ++ (u ∷ [])) ≡ taken ts + u.pins
unfolding taken
taken_snoc [] u = omega arith
taken_snoc (t ∷ ts) u = let q = taken_snoc ts u in omega arith

pub pins_append : (ps qs : List HeldPin) → pins_of (ps ++ qs) ≡ pins_of ps ++ pins_of qs
unfolding pins_of
pins_append [] qs = refl
pins_append (p ∷ ps) qs = rw (pins_append ps qs)

pub length_pins : (ps : List HeldPin) → length (pins_of ps) ≡ length ps
unfolding pins_of
length_pins [] = refl
length_pins (p ∷ ps) = ap suc (length_pins ps)

pub length_nets : (ts : List HeldNet) (ps : List HeldPin) → length (nets_of ts ps) ≡ length ts
unfolding nets_of
length_nets [] ps = refl
length_nets (t ∷ ts) ps = ap suc (length_nets ts (drop t.pins ps))

-- the last net's pins stand after those of the nets before it
pub nets_snoc : (ts : List HeldNet) (u : HeldNet) (ps : List HeldPin) → nets_of (ts ++ (u ∷ [])) ps ≡ nets_of ts ps ++ (record { weight = u.weight; pins = pins_of (first_of blank_pin u.pins (drop (taken ts) ps)) } ∷ [])
unfolding nets_of taken
nets_snoc [] u ps = refl
nets_snoc (t ∷ ts) u ps = rw (nets_snoc ts u (drop t.pins ps), drop-drop (taken ts) t.pins ps)

drop_set_past : (n i : ℕ) (s : List HeldPin) (p : HeldPin) → n ≤ i → drop n (set s i p) ≡ set (drop n s) (i - n) p
drop_set_past n i s p h = rw (← drop-set-add n s (i - n) p) (ap (λ (k : ℕ). drop n (set s k p)) (omega arith))

-- a pin stored past the pins that the nets take changes none of them
pub nets_kept : (ts : List HeldNet) (i : ℕ) (ps : List HeldPin) (p : HeldPin) → taken ts ≤ i → nets_of ts (set ps i p) ≡ nets_of ts ps
unfolding nets_of taken
nets_kept [] i ps p h = refl
nets_kept (t ∷ ts) i ps p h =
    rw (first_kept blank_pin t.pins i ps p (omega arith), drop_set_past t.pins i ps p (omega arith), nets_kept ts (i - t.pins) (drop t.pins ps) p (omega arith))
