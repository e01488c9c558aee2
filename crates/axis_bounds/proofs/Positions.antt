-- Where the slots of macros and pairs stand.
use Prim.Native.Nat.{ℕ, zero, suc, ◌+◌, ◌*◌, ◌<◌}
use mathlib.Core.Path.{◌≡◌, refl, ap, ◌∙◌}
use mathlib.Core.List.{List, [], ◌∷◌}
use native.Mathlib.Omega.{arith}
use lib.ListN.{length, get_or, get_or-append}
use Rattle.axis_bounds.specs.Axis.{Axis, no_slot}
use Rattle.axis_bounds.specs.Listed.{slot, die_slots, slot_at}
use Rattle.axis_bounds.specs.Graph.{macro_slots}
use Rattle.axis_bounds.proofs.Counts.{length_die}

die_rise : (side h : ℕ) (ws : List ℕ) (j s k : ℕ) → s ≡ 2 * j → k ≡ h + j → j < length ws → slot_at (die_slots side h ws) s ≡ slot 0 k 0 0
unfolding die_slots
die_rise side h [] j s k e d l = absurd (omega arith)
die_rise side h (w ∷ ws) zero zero k e d l = ap (λ (u : ℕ). slot 0 u 0 0) (omega arith)
die_rise side h (w ∷ ws) zero (suc s) k e d l = absurd (omega arith)
die_rise side h (w ∷ ws) (suc j) zero k e d l = absurd (omega arith)
die_rise side h (w ∷ ws) (suc j) (suc zero) k e d l = absurd (omega arith)
die_rise side h (w ∷ ws) (suc j) (suc (suc s)) k e d l = die_rise side (suc h) ws j s k (omega arith) (omega arith) (omega arith)

die_fall : (side h : ℕ) (ws : List ℕ) (j s k : ℕ) → s ≡ 2 * j + 1 → k ≡ h + j → j < length ws → slot_at (die_slots side h ws) s ≡ slot k 0 (get_or ws j 0) side
unfolding die_slots
die_fall side h [] j s k e d l = absurd (omega arith)
die_fall side h (w ∷ ws) j zero k e d l = absurd (omega arith)
die_fall side h (w ∷ ws) zero (suc zero) k e d l = ap (λ (u : ℕ). slot u 0 w side) (omega arith)
die_fall side h (w ∷ ws) zero (suc (suc s)) k e d l = absurd (omega arith)
die_fall side h (w ∷ ws) (suc j) (suc zero) k e d l = absurd (omega arith)
die_fall side h (w ∷ ws) (suc j) (suc (suc s)) k e d l = die_fall side (suc h) ws j s k (omega arith) (omega arith) (omega arith)

module _ (a : Axis) where
  pub rise_at : (i : ℕ) → i < length a.sizes → slot_at (macro_slots a) (2 * i) ≡ slot 0 (suc i) 0 0
  unfolding macro_slots
  rise_at i l =
      let c = length_die a.side 1 a.sizes in
      get_or-append (die_slots a.side 1 a.sizes) a.pairs no_slot (2 * i) (omega arith) ∙ die_rise a.side 1 a.sizes i (2 * i) (suc i) refl (omega arith) l

  pub fall_at : (i : ℕ) → i < length a.sizes → slot_at (macro_slots a) (2 * i + 1) ≡ slot (suc i) 0 (get_or a.sizes i 0) a.side
  unfolding macro_slots
  fall_at i l =
      let c = length_die a.side 1 a.sizes in
      get_or-append (die_slots a.side 1 a.sizes) a.pairs no_slot (2 * i + 1) (omega arith) ∙ die_fall a.side 1 a.sizes i (2 * i + 1) (suc i) refl (omega arith) l
