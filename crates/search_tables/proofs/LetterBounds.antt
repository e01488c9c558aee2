-- A letter's bound put into the array.
use Prim.Native.Nat.{ℕ, zero, suc, ◌+◌, ◌/◌, ◌%◌, ◌≤◌, ◌<◌, max}
use mathlib.Core.Path.{◌≡◌, refl, sym, ap, subst, ◌∙◌}
use mathlib.Core.List.{List, [], ◌∷◌}
use native.Mathlib.Decide.{ℕ_discrete}
use native.Mathlib.Omega.{arith}
use lib.ListN.{length, get_or, set, take, length-set, length-map}
use lib.Seq.{get_or-set_same, get_or-set_other, set-set, set-get_or}
use Rattle.model.specs.Meaning.{Chip}
use Rattle.chip_text.specs.Valid.{Valid}
use Rattle.placement.specs.Letters.{Letter, dot}
use Rattle.axis_bounds.specs.declared.Slot.{Slot}
use Rattle.axis_bounds.specs.Axis.{Axis, Keeps, KeepsSlot, WellFormedPair, value_at, no_slot}
use Rattle.fit_slots.specs.declared.Direction.{Direction}
use Rattle.fit_slots.specs.declared.Direction.TheVariants.{Horizontal as horizontal, Vertical as vertical}
use Rattle.fit_slots.specs.Slots.{mac_side, asked, Couple, two_macs, mac_fix, couples}
use Rattle.fit_slots.specs.Axes.{held_slot, held_slots, axis_for}
use Rattle.fit_slots.proofs.Counting.{held_count}
use Rattle.fit_slots.proofs.Fineness.{axis_fine}
use Rattle.search_halves.specs.Kept.{way_of, asks_at, no_couple}
use Rattle.search_halves.proofs.Halving.{other_axis}
use Rattle.half_arrays.specs.Arrays.{raised, bound_at, KeepsTo}
use Rattle.search_tables.specs.Tables.{padded, Arced, place_on, limit, bound_on, with_bound}
use Rattle.search_tables.proofs.Padding.{take_value, padded_value}

-- ---- the array

-- a slot of a chip: nothing of it is reduced
pub record Plain (n : ℕ) (s : Slot) : Type 0 where
  pub tail : s.tail ≤ n
  pub head : s.head ≤ n
  pub plus : s.plus ≤ limit
  pub minus : s.minus ≤ limit

module _ (arcs : List ℕ) (e : length arcs ≡ 128) (s : Slot) where
  with_long : length (with_bound arcs s) ≡ 128
  unfolding with_bound
  with_long = length-set arcs (place_on s) (max (bound_at arcs (place_on s)) (bound_on s)) ∙ e

  with_here : bound_at (with_bound arcs s) (place_on s) ≡ max (bound_at arcs (place_on s)) (bound_on s)
  unfolding with_bound bound_at
  with_here =
      let q = get_or-set_same arcs (place_on s % 128) (max (bound_at arcs (place_on s)) (bound_on s)) 0 (omega arith) in
      let p : place_on s % 128 ≡ place_on s = omega arith in
      let r : get_or (set arcs (place_on s) (max (bound_at arcs (place_on s)) (bound_on s))) (place_on s % 128) 0 ≡ max (bound_at arcs (place_on s)) (bound_on s) = ap (λ (k : ℕ). get_or (set arcs k (max (bound_at arcs (place_on s)) (bound_on s))) (place_on s % 128) 0) (sym p) ∙ q in
      omega arith

  with_other_law : (k : ℕ) → k < 81 → (k ≡ place_on s → ⊥) → bound_at (with_bound arcs s) k ≡ bound_at arcs k
  unfolding with_bound bound_at
  with_other_law k l n = rw (get_or-set_other arcs (place_on s) (k % 128) (max (bound_at arcs (place_on s)) (bound_on s)) 0 (λ q. n (omega arith)))

  module _ (z : List ℕ) (p : Plain 8 s) where
    tail_is : place_on s / 9 ≡ s.tail
    tail_is = let a = p.tail in omega arith

    head_is : place_on s % 9 ≡ s.head
    head_is = let a = p.head in omega arith

    from_tail : value_at z (place_on s / 9) ≡ value_at z s.tail
    from_tail = ap (value_at z) tail_is

    to_head : value_at z (place_on s % 9) ≡ value_at z s.head
    to_head = ap (value_at z) head_is

    -- what the place of the slot asks is the slot's bound and the one before
    with_keeps : KeepsTo arcs z 81 → KeepsSlot z s → KeepsTo (with_bound arcs s) z 81
    with_keeps h k = record { at = λ c l. by c l (ℕ_discrete c (place_on s)) }
      where
        by : (c : ℕ) → c < 81 → Dec (c ≡ place_on s) → value_at z (c / 9) + bound_at (with_bound arcs s) c ≤ value_at z (c % 9) + raised
        by c l (yes q) = rw q
            (let a = with_here in let t = from_tail in let g = to_head in let o = h.at (place_on s) (omega arith) in let w = k.le in
            let x = p.plus in let y = p.minus in
            omega arith)
        by c l (no n) = rw (with_other_law c l n) (h.at c l)

    with_before : KeepsTo (with_bound arcs s) z 81 → KeepsTo arcs z 81
    with_before h = record { at = λ c l. by c l (ℕ_discrete c (place_on s)) }
      where
        by : (c : ℕ) → c < 81 → Dec (c ≡ place_on s) → value_at z (c / 9) + bound_at arcs c ≤ value_at z (c % 9) + raised
        by c l (yes q) = rw q (let a = with_here in let o = h.at (place_on s) (omega arith) in omega arith)
        by c l (no n) = let a = with_other_law c l n in let o = h.at c l in omega arith

    with_slot_law : KeepsTo (with_bound arcs s) z 81 → KeepsSlot z s
    with_slot_law h =
        let a = with_here in let t = from_tail in let g = to_head in let o = h.at (place_on s) (omega arith) in
        let x = p.plus in let y = p.minus in
        record { le = omega arith }

-- ---- the letter

pub slots_at : (d : Direction) (ls : List Letter) (qs : List Couple) (j : ℕ) → length ls ≡ length qs → j < length ls → get_or (held_slots d ls qs) j no_slot ≡ held_slot d (asked d (get_or ls j dot)) (get_or qs j no_couple)
unfolding held_slots
slots_at d [] qs j e l = absurd (omega arith)
slots_at d (l ∷ ls) [] j e h = absurd (omega arith)
slots_at d (l ∷ ls) (q ∷ qs) zero e h = refl
slots_at d (l ∷ ls) (q ∷ qs) (suc j) e h = slots_at d ls qs j (omega arith) (omega arith)

slot_plain : (n : ℕ) (s : Slot) → n ≤ 8 → WellFormedPair n s → Plain n s
slot_plain n s h f = let p = f.plus in let m = f.minus in record { tail = f.tail; head = f.head; plus = omega arith; minus = omega arith }

module _ (d : Direction) (c : Chip) (v : Valid c) (ls : List Letter) (el : length ls ≡ length (couples c)) where
  abbrev n : ℕ
  n = length c.macs

  -- the slot of the letter at place j
  abbrev slot_of : ℕ → Letter → Slot
  slot_of j m = held_slot d (asked d m) (get_or (couples c) j no_couple)

  module _ (y : List ℕ) where
    pairs_kept : Keeps (axis_for d c ls) y → (j : ℕ) → j < length ls → KeepsSlot y (slot_of j (get_or ls j dot))
    unfolding axis_for
    pairs_kept k j l = let e = held_count d ls (couples c) el in subst (KeepsSlot y) (slots_at d ls (couples c) j el l) (k.pair j (omega arith))

    module _ (s : ℕ) (m : Letter) (lt : s < length ls) where
      set_counted : length (set ls s m) ≡ length (couples c)
      set_counted = length-set ls s m ∙ el

      -- with the letter: what was kept, and its slot
      letter_keeps : Keeps (axis_for d c ls) y → KeepsSlot y (slot_of s m) → Keeps (axis_for d c (set ls s m)) y
      unfolding axis_for
      letter_keeps k h = record {
        long = k.long;
        size = k.size;
        pair = λ j l.
            let e = held_count d (set ls s m) (couples c) set_counted in let f = length-set ls s m in
            subst (KeepsSlot y) (sym (slots_at d (set ls s m) (couples c) j set_counted (omega arith))) (by j (omega arith) (ℕ_discrete j s));
      }
        where
          by : (j : ℕ) → j < length ls → Dec (j ≡ s) → KeepsSlot y (slot_of j (get_or (set ls s m) j dot))
          by j l (yes q) = rw (q, get_or-set_same ls s m dot lt) h
          by j l (no q) = rw (get_or-set_other ls s j m dot q) (pairs_kept k j l)

pub asks_nothing : (d : Direction) (q : Couple) → held_slot d (asked d dot) q ≡ no_slot
asks_nothing horizontal (two_macs i a j b) = refl
asks_nothing horizontal (mac_fix i a f) = refl
asks_nothing vertical (two_macs i a j b) = refl
asks_nothing vertical (mac_fix i a f) = refl

pub no_slot_law : (y : List ℕ) → KeepsSlot y no_slot
no_slot_law y = record { le = omega arith }

module _ (d : Direction) (c : Chip) (v : Valid c) (ls : List Letter) (el : length ls ≡ length (couples c)) (s : ℕ) (m : Letter) (lt : s < length ls) (free : get_or ls s dot ≡ dot) where
  abbrev new : Slot
  new = slot_of d c v ls el s m

  -- without the letter: the letters are the letters with a dot put back
  dot_back : set (set ls s m) s dot ≡ ls
  dot_back = set-set ls s m dot ∙ (ap (set ls s) (sym free) ∙ set-get_or ls s dot)

  letter_before_law : (y : List ℕ) → Keeps (axis_for d c (set ls s m)) y → Keeps (axis_for d c ls) y
  letter_before_law y k =
      let e = length-set ls s m in
      subst (λ (t : List Letter). Keeps (axis_for d c t) y) dot_back
      (letter_keeps d c v (set ls s m) (e ∙ el) y s dot (omega arith) k (subst (KeepsSlot y) (sym (asks_nothing d (get_or (couples c) s no_couple))) (no_slot_law y)))

  letter_slot : (y : List ℕ) → Keeps (axis_for d c (set ls s m)) y → KeepsSlot y new
  letter_slot y k =
      let e = length-set ls s m in
      subst (λ (t : Letter). KeepsSlot y (slot_of d c v ls el s t)) (get_or-set_same ls s m dot lt) (pairs_kept d c v (set ls s m) (e ∙ el) y k s (omega arith))

  new_plain : Plain (length c.macs) new
  unfolding axis_for
  new_plain =
      let e = length-set ls s m in
      let f = held_count d (set ls s m) (couples c) (e ∙ el) in
      let h = (axis_fine d c (set ls s m) v (e ∙ el)).pair s (omega arith) in
      let g = slots_at d (set ls s m) (couples c) s (e ∙ el) (omega arith) ∙ ap (slot_of d c v ls el s) (get_or-set_same ls s m dot lt) in
      slot_plain (length c.macs) new v.mac_count (subst (WellFormedPair (length c.macs)) g (subst (λ (k : ℕ). WellFormedPair k (get_or (held_slots d (set ls s m) (couples c)) s no_slot)) (length-map c.macs (mac_side d)) h))

  new_near : Plain 8 new
  new_near = let p = new_plain in let a = p.tail in let b = p.head in let g = v.mac_count in record { tail = omega arith; head = omega arith; plus = p.plus; minus = p.minus }

  arced_slot : (arcs : List ℕ) → Arced d c ls arcs → Arced d c (set ls s m) (with_bound arcs new)
  arced_slot arcs a = record {
    size = with_long arcs a.size new;
    down = λ z e h.
        let p = new_plain in
        let o = (with_slot_law arcs a.size new z new_near h).le in
        let t = take_value (length c.macs) z new.tail p.tail in let u = take_value (length c.macs) z new.head p.head in
        letter_keeps d c v ls el (take (length c.macs) z) s m lt (a.down z e (with_before arcs a.size new z new_near h)) (record { le = omega arith });
    up = λ y k.
        let o = (letter_slot y k).le in
        let t = padded_value y new.tail in let u = padded_value y new.head in
        with_keeps arcs a.size new (padded y) new_near (a.up y (letter_before_law y k)) (record { le = omega arith });
  }

  -- a letter of this direction: one bound more
  pub arced_letter : (arcs : List ℕ) → Arced d c ls arcs → way_of m ≡ d → Arced d c (set ls s m) (with_bound arcs (asks_at c s m).bound)
  arced_letter arcs a w =
      subst (λ (t : Slot). Arced d c (set ls s m) (with_bound arcs t)) (ap (λ (e : Direction). held_slot e (asked e m) (get_or (couples c) s no_couple)) (sym w)) (arced_slot arcs a)

  -- for a letter of a chip nothing of its slot is reduced
  pub letter_plain : way_of m ≡ d → Plain (length c.macs) (asks_at c s m).bound
  letter_plain w = subst (Plain (length c.macs)) (ap (λ (e : Direction). held_slot e (asked e m) (get_or (couples c) s no_couple)) (sym w)) new_plain

-- a letter of the other direction: the same bounds
pub arced_other : (d : Direction) (c : Chip) (ls : List Letter) (s : ℕ) (m : Letter) (arcs : List ℕ) → asked d m ≡ asked d dot → get_or ls s dot ≡ dot → Arced d c ls arcs → Arced d c (set ls s m) arcs
arced_other d c ls s m arcs e f a =
    let g : axis_for d c (set ls s m) ≡ axis_for d c ls = other_axis d c ls s m (e ∙ ap (asked d) (sym f)) in
    record {
      size = a.size;
      down = λ z l h. subst (λ (t : Axis). Keeps t (take (length c.macs) z)) (sym g) (a.down z l h);
      up = λ y k. a.up y (subst (λ (t : Axis). Keeps t y) g k);
    }
