-- A placement keeps the letters exactly when both directions keep the die and the pairs' bounds.
use Prim.Native.Nat.{ℕ, zero, suc, ◌+◌, ◌≤◌, ◌<◌}
use mathlib.Core.Path.{◌≡◌, refl, sym, ap, subst, ◌∙◌}
use mathlib.Core.Bool.{true}
use mathlib.Core.List.{List, [], ◌∷◌, map, zip_with}
use native.Mathlib.Nat.{le_of_suc-le-suc}
use native.Mathlib.Omega.{arith}
use lib.Dec.{leb, eqb}
use lib.ListN.{length, get_or, length-map}
use borrow.Author.Tests.{leb-true, le-leb, eq-eqb}
use Rattle.num_text.specs.Number.{all_of}
use Rattle.model.specs.declared.Mac.{Mac}
use Rattle.model.specs.declared.Spot.{Spot}
use Rattle.model.specs.Meaning.{Chip}
use Rattle.text_grammar.proofs.Lacks.{and_left, and_right, and_both}
use Rattle.geometry.specs.Box.{box_at, in_die}
use Rattle.placement.specs.Legal.{boxes, within}
use Rattle.placement.specs.Letters.{Letter}
use Rattle.placement.specs.Pairs.{keeps, pairs, keeps_all, keeps_letters}
use Rattle.placement.proofs.FitIs.{letters_long}
use Rattle.axis_bounds.specs.Axis.{KeepsSlot, Keeps, no_slot}
use Rattle.fit_slots.specs.declared.Direction.{Direction}
use Rattle.fit_slots.specs.declared.Direction.TheVariants.{Horizontal as horizontal, Vertical as vertical}
use Rattle.fit_slots.specs.Slots.{die_side, mac_side, Couple, couples}
use Rattle.fit_slots.specs.Axes.{held_slots, axis_for, corner_on, corners_on}
use Rattle.fit_slots.proofs.Pairs.{pair_of, pairs_couples, kept_slot, slot_kept}

-- ---- the die

module _ (c : Chip) where
  in_die_at : (d : Direction) (m : Mac) (p : Spot) → in_die c.die (box_at m p) ≡ true → corner_on d p + mac_side d m ≤ die_side d c.die
  in_die_at horizontal m p h = leb-true _ _ (and_left (leb (p.x + m.w) c.die.w) (leb (p.y + m.h) c.die.h) h)
  in_die_at vertical m p h = leb-true _ _ (and_right (leb (p.x + m.w) c.die.w) (leb (p.y + m.h) c.die.h) h)

  die_sizes : (d : Direction) (ms : List Mac) (ps : List Spot) → length ps ≡ length ms → all_of (in_die c.die) (boxes ms ps) ≡ true → (i : ℕ) → i < length ms → get_or (map (corner_on d) ps) i 0 + get_or (map (mac_side d) ms) i 0 ≤ die_side d c.die
  unfolding zip_with all_of
  die_sizes d [] ps e h i l = absurd (omega arith)
  die_sizes d (m ∷ ms) [] e h i l = absurd (omega arith)
  die_sizes d (m ∷ ms) (p ∷ ps) e h zero l = in_die_at d m p (and_left (in_die c.die (box_at m p)) (all_of (in_die c.die) (boxes ms ps)) h)
  die_sizes d (m ∷ ms) (p ∷ ps) e h (suc i) l = die_sizes d ms ps (omega arith) (and_right (in_die c.die (box_at m p)) (all_of (in_die c.die) (boxes ms ps)) h) i (le_of_suc-le-suc l)

  sizes_die : (ms : List Mac) (ps : List Spot) → length ps ≡ length ms → ((d : Direction) (i : ℕ) → i < length ms → get_or (map (corner_on d) ps) i 0 + get_or (map (mac_side d) ms) i 0 ≤ die_side d c.die) → all_of (in_die c.die) (boxes ms ps) ≡ true
  unfolding zip_with all_of
  sizes_die [] ps e h = refl
  sizes_die (m ∷ ms) [] e h = absurd (omega arith)
  sizes_die (m ∷ ms) (p ∷ ps) e h =
      and_both (in_die c.die (box_at m p)) (all_of (in_die c.die) (boxes ms ps))
      (and_both (leb (p.x + m.w) c.die.w) (leb (p.y + m.h) c.die.h) (le-leb _ _ (h horizontal 0 (omega arith))) (le-leb _ _ (h vertical 0 (omega arith))))
      (sizes_die ms ps (omega arith) (λ d i l. h d (suc i) (omega arith)))

-- ---- the letters

module _ (c : Chip) (ps : List Spot) where
  letters_slots : (d : Direction) (ls : List Letter) (qs : List Couple) → keeps_all c ls (map (pair_of ps) qs) ≡ true → (j : ℕ) → KeepsSlot (corners_on d ps) (get_or (held_slots d ls qs) j no_slot)
  unfolding keeps_all held_slots
  letters_slots d [] qs h j = record { le = omega arith }
  letters_slots d (l ∷ ls) [] h j = record { le = omega arith }
  letters_slots d (l ∷ ls) (q ∷ qs) h zero = kept_slot c ps d l q (and_left (keeps c l (pair_of ps q).first (pair_of ps q).second) (keeps_all c ls (map (pair_of ps) qs)) h)
  letters_slots d (l ∷ ls) (q ∷ qs) h (suc j) = letters_slots d ls qs (and_right (keeps c l (pair_of ps q).first (pair_of ps q).second) (keeps_all c ls (map (pair_of ps) qs)) h) j

  slots_letters : (ls : List Letter) (qs : List Couple) → length ls ≡ length qs → ((d : Direction) (j : ℕ) → j < length (held_slots d ls qs) → KeepsSlot (corners_on d ps) (get_or (held_slots d ls qs) j no_slot)) → keeps_all c ls (map (pair_of ps) qs) ≡ true
  unfolding keeps_all held_slots
  slots_letters [] [] e h = refl
  slots_letters [] (q ∷ qs) e h = absurd (omega arith)
  slots_letters (l ∷ ls) [] e h = absurd (omega arith)
  slots_letters (l ∷ ls) (q ∷ qs) e h =
      and_both (keeps c l (pair_of ps q).first (pair_of ps q).second) (keeps_all c ls (map (pair_of ps) qs))
      (slot_kept c ps l q (λ d. h d 0 (omega arith)))
      (slots_letters ls qs (omega arith) (λ d j k. h d (suc j) (omega arith)))

-- ---- both

module _ (c : Chip) (ls : List Letter) (ps : List Spot) where
  pub keeps_splits : keeps_letters c ls ps ≡ true → (d : Direction) → Keeps (axis_for d c ls) (corners_on d ps)
  unfolding keeps_letters within axis_for
  keeps_splits h d =
      let e = letters_long c ls ps h in
      let w = and_left (within c ps) (keeps_all c ls (pairs c ps)) h in
      let k = and_right (within c ps) (keeps_all c ls (pairs c ps)) h in
      record {
        long = length-map ps (corner_on d) ∙ e ∙ sym (length-map c.macs (mac_side d));
        size = λ i l. die_sizes c d c.macs ps e (and_right (eqb (length ps) (length c.macs)) (all_of (in_die c.die) (boxes c.macs ps)) w) i (subst (λ (n : ℕ). i < n) (length-map c.macs (mac_side d)) l);
        pair = λ j l. letters_slots c ps d ls (couples c) (ap (keeps_all c ls) (sym (pairs_couples c ps e)) ∙ k) j;
      }

  pub keeps_joins : length ls ≡ length (couples c) → length ps ≡ length c.macs → ((d : Direction) → Keeps (axis_for d c ls) (corners_on d ps)) → keeps_letters c ls ps ≡ true
  unfolding keeps_letters within axis_for
  keeps_joins el e h =
      and_both (within c ps) (keeps_all c ls (pairs c ps))
      (and_both (eqb (length ps) (length c.macs)) (all_of (in_die c.die) (boxes c.macs ps)) (eq-eqb _ _ e)
      (sizes_die c c.macs ps e (λ d i l. (h d).size i (subst (λ (n : ℕ). i < n) (sym (length-map c.macs (mac_side d))) l))))
      (ap (keeps_all c ls) (pairs_couples c ps e) ∙ slots_letters c ps ls (couples c) el (λ d j l. (h d).pair j l))
