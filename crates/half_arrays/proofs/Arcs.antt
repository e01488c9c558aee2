-- The bounds of the arrays as those of an axis.
use Prim.Native.Nat.{ℕ, zero, suc, ◌+◌, ◌≤◌, ◌<◌}
use mathlib.Core.Path.{◌≡◌, refl, ap, sym, subst, ◌∙◌}
use mathlib.Core.List.{List, [], ◌∷◌}
use native.Mathlib.Nat.{le_of_suc-le-suc}
use native.Mathlib.Omega.{arith}
use lib.ListN.{length, get_or}
use Rattle.axis_bounds.specs.Axis.{Keeps, KeepsSlot, no_slot}
use Rattle.half_arrays.specs.Arrays.{arc_slot, arc_slots, axis_on, KeepsTo}

length_arcs : (arcs : List ℕ) (c k : ℕ) → length (arc_slots arcs c k) ≡ k
unfolding arc_slots
length_arcs arcs c zero = refl
length_arcs arcs c (suc k) = let q = length_arcs arcs (suc c) k in omega arith

arc_at : (arcs : List ℕ) (c k j : ℕ) → j < k → get_or (arc_slots arcs c k) j no_slot ≡ arc_slot arcs (c + j)
unfolding arc_slots
arc_at arcs c zero j l = absurd (omega arith)
arc_at arcs c (suc k) zero l = ap (arc_slot arcs) (omega arith)
arc_at arcs c (suc k) (suc j) l = arc_at arcs (suc c) k j (le_of_suc-le-suc l) ∙ ap (arc_slot arcs) (omega arith)

zero_size : (i : ℕ) → ◌≡◌ {A = ℕ} (get_or (0 ∷ 0 ∷ 0 ∷ 0 ∷ 0 ∷ 0 ∷ 0 ∷ 0 ∷ []) i 0) 0
zero_size zero = refl
zero_size (suc zero) = refl
zero_size (suc (suc zero)) = refl
zero_size (suc (suc (suc zero))) = refl
zero_size (suc (suc (suc (suc zero)))) = refl
zero_size (suc (suc (suc (suc (suc zero))))) = refl
zero_size (suc (suc (suc (suc (suc (suc zero)))))) = refl
zero_size (suc (suc (suc (suc (suc (suc (suc zero))))))) = refl
zero_size (suc (suc (suc (suc (suc (suc (suc (suc i)))))))) = refl

module _ (tab arcs z : List ℕ) where
  arc_is : (j : ℕ) → j < 81 → get_or (arc_slots arcs 0 81) j no_slot ≡ arc_slot arcs j
  arc_is j l = let r : 0 + j ≡ j = omega arith in arc_at arcs 0 81 j l ∙ ap (arc_slot arcs) r

  -- coordinates of the die that keep every bound keep the axis, whatever the tables
  pub on_keeps : length z ≡ 8 → ((i : ℕ) → get_or z i 0 ≤ 8192) → KeepsTo arcs z 81 → Keeps (axis_on tab arcs) z
  on_keeps e small h = record {
    long = e;
    size = λ i l. let s = small i in let q = zero_size i in omega arith;
    pair = λ j l. let n = length_arcs arcs 0 81 in subst (KeepsSlot z) (sym (arc_is j (omega arith))) (record { le = h.at j (omega arith) });
  }

  pub keeps_on : Keeps (axis_on tab arcs) z → KeepsTo arcs z 81
  keeps_on k = record { at = λ j l. let n = length_arcs arcs 0 81 in (subst (KeepsSlot z) (arc_is j l) (k.pair j (omega arith))).le }
