-- The bounds written for a chip without letters are the bounds of its axis.
use Prim.Native.Nat.{ℕ, zero, suc, ◌+◌, ◌-◌, ◌*◌, ◌/◌, ◌%◌, ◌≤◌, ◌<◌, min}
use mathlib.Core.Path.{◌≡◌, refl, sym, ap, subst, ◌∙◌}
use mathlib.Core.List.{List, map}
use native.Mathlib.Decide.{dec_lt}
use native.Mathlib.Omega.{arith}
use lib.ListN.{length, get_or, take, replicate, length-map, length-replicate, get_or-replicate, get_or-map}
use lib.Seq.{get_or-take, length-take-le}
use borrow.Author.Tests.{lt-ltb, le-ltb}
use Rattle.model.specs.declared.Mac.{Mac}
use Rattle.model.specs.declared.Chip.{Chip as HeldChip}
use Rattle.model.specs.Meaning.{first_of, blank_mac, chip_of}
use Rattle.model.proofs.FirstOf.{get_d_first}
use Rattle.chip_text.specs.Passed.{Passed}
use Rattle.placement.specs.Letters.{Letter, dot}
use Rattle.axis_bounds.specs.Axis.{Keeps, KeepsSlot, value_at, no_slot}
use Rattle.fit_slots.specs.declared.Direction.{Direction}
use Rattle.fit_slots.specs.declared.Direction.TheVariants.{Horizontal as horizontal, Vertical as vertical}
use Rattle.fit_slots.specs.Slots.{die_side, mac_side, asked, couples}
use Rattle.fit_slots.specs.Fit.{letter_count}
use Rattle.fit_slots.specs.Axes.{held_slot, held_slots, axis_for}
use Rattle.fit_slots.proofs.Counting.{letters_count, held_count}
use Rattle.fit_slots.proofs.Fineness.{mac_side_law, die_most}
use Rattle.search_halves.specs.Kept.{no_couple}
use Rattle.half_arrays.specs.Arrays.{raised, bound_at, KeepsTo}
use Rattle.search_tables.specs.Tables.{padded, Arced}
use Rattle.search_tables.specs.Dots.{dot_bound, Dotted}
use Rattle.search_tables.proofs.Padding.{padded_value}
use Rattle.search_tables.proofs.HalfHere.{chip_small}
use Rattle.search_tables.proofs.LetterBounds.{slots_at, asks_nothing, no_slot_law}

size_at : (d : Direction) (ms : List Mac) (i : ℕ) → get_or (map (mac_side d) ms) i 0 ≡ mac_side d (get_or ms i blank_mac)
size_at horizontal ms i = get_or-map (mac_side horizontal) ms i blank_mac
size_at vertical ms i = get_or-map (mac_side vertical) ms i blank_mac

module _ (c : HeldChip) (pass : Passed c) (d : Direction) where
  abbrev dots : List Letter
  dots = replicate (letter_count (chip_of c)) dot

  abbrev side : ℕ
  side = die_side d c.die

  abbrev ws : List ℕ
  ws = map (mac_side d) c.macs

  side_most_law : side ≤ 1024
  unfolding chip_of
  side_most_law = die_most d (chip_of c) pass.valid

  die_same : die_side d (chip_of c).die ≡ side
  unfolding chip_of
  die_same = refl

  sizes_same : (i : ℕ) → i < c.n → get_or (map (mac_side d) (chip_of c).macs) i 0 ≡ get_or ws i 0
  unfolding chip_of
  sizes_same i l = size_at d (first_of blank_mac c.n c.macs) i ∙ (ap (mac_side d) (get_d_first blank_mac c.n c.macs i l) ∙ sym (size_at d c.macs i))

  sizes_most : (i : ℕ) → i < c.n → get_or ws i 0 ≤ 1024
  sizes_most i l = let a = size_at d c.macs i in let b = mac_side_law d (get_or c.macs i blank_mac) (pass.fine.mac i l) in omega arith

  sizes_long : length (map (mac_side d) (chip_of c).macs) ≡ c.n
  sizes_long = length-map (chip_of c).macs (mac_side d) ∙ pass.macs

  dots_long : length dots ≡ length (couples (chip_of c))
  dots_long = length-replicate (letter_count (chip_of c)) dot ∙ sym (letters_count (chip_of c))

  -- a dot asks nothing
  dots_kept : (y : List ℕ) (j : ℕ) → j < length (held_slots d dots (couples (chip_of c))) → KeepsSlot y (get_or (held_slots d dots (couples (chip_of c))) j no_slot)
  dots_kept y j l =
      let a = held_count d dots (couples (chip_of c)) dots_long in
      let b = length-replicate (letter_count (chip_of c)) dot in
      let e = slots_at d dots (couples (chip_of c)) j dots_long (omega arith)
      ∙ (ap (λ (t : Letter). held_slot d (asked d t) (get_or (couples (chip_of c)) j no_couple)) (get_or-replicate (letter_count (chip_of c)) j dot dot (omega arith)) ∙ asks_nothing d (get_or (couples (chip_of c)) j no_couple)) in
      subst (KeepsSlot y) (sym e) (no_slot_law y)

  module _ (arcs : List ℕ) (h : Dotted side c.n ws arcs 81) where
    die_bound_law : (i : ℕ) → i < c.n → bound_at arcs (suc i * 9) ≡ dot_bound side c.n ws (suc i) 0
    die_bound_law i l =
        let g = pass.fine.mac_count in
        let a : suc i * 9 / 9 ≡ suc i = omega arith in
        let b : suc i * 9 % 9 ≡ 0 = omega arith in
        h.at (suc i * 9) (omega arith) ∙ (ap (λ (u : ℕ). dot_bound side c.n ws u (suc i * 9 % 9)) a ∙ ap (dot_bound side c.n ws (suc i)) b)

    die_kept : (z : List ℕ) → KeepsTo arcs z 81 → (i : ℕ) → i < c.n → get_or z i 0 + get_or ws i 0 ≤ side
    die_kept z k i l =
        let g = pass.fine.mac_count in
        let a : suc i * 9 / 9 ≡ suc i = omega arith in
        let b : suc i * 9 % 9 ≡ 0 = omega arith in
        let e : value_at z (suc i * 9 / 9) ≡ get_or z i 0 = ap (value_at z) a in
        let f : value_at z (suc i * 9 % 9) ≡ 0 = ap (value_at z) b in
        let m : bound_at arcs (suc i * 9) ≡ raised + min (get_or ws i 0) 1000000 - min side 1000000 = die_bound_law i l ∙ rw (lt-ltb i c.n l) in
        let o = k.at (suc i * 9) (omega arith) in
        let s = side_most_law in let t = sizes_most i l in
        omega arith

    dots_down : (z : List ℕ) → length z ≡ 8 → KeepsTo arcs z 81 → Keeps (axis_for d (chip_of c) dots) (take (length (chip_of c).macs) z)
    unfolding axis_for
    dots_down z e k = record {
      long = let a = pass.fine.mac_count in let b = pass.macs in let s = sizes_long in let t = length-take-le (length (chip_of c).macs) z (omega arith) in omega arith;
      size = λ i l.
          let s = sizes_long in let b = pass.macs in
          let t = get_or-take (length (chip_of c).macs) z i 0 (omega arith) in
          let m = sizes_same i (omega arith) in let o = die_kept z k i (omega arith) in
          let q = die_same in
          omega arith;
      pair = dots_kept (take (length (chip_of c).macs) z);
    }

    module _ (y : List ℕ) (k : Keeps (axis_for d (chip_of c) dots) y) where
      small : (i : ℕ) → get_or y i 0 ≤ 1024
      small = chip_small d (chip_of c) dots pass.valid y k

      in_die_law : (i : ℕ) → i < c.n → get_or y i 0 + get_or ws i 0 ≤ side
      unfolding axis_for
      in_die_law i l = let s = sizes_long in let a = k.size i (omega arith) in let m = sizes_same i l in let q = die_same in omega arith

      bound_kept : (u v : ℕ) → value_at y u + dot_bound side c.n ws u v ≤ value_at y v + raised
      bound_kept zero zero = omega arith
      bound_kept zero (suc v) = omega arith
      bound_kept (suc u) zero = by (dec_lt u c.n)
        where
          by : Dec (u < c.n) → get_or y u 0 + dot_bound side c.n ws (suc u) 0 ≤ raised
          by (yes l) = rw (lt-ltb u c.n l) (let a = in_die_law u l in let s = side_most_law in omega arith)
          by (no l) = rw (le-ltb u c.n (omega arith)) (let a = small u in omega arith)
      bound_kept (suc u) (suc v) = let a = small u in omega arith

      dots_up : KeepsTo arcs (padded y) 81
      dots_up = record {
        at = λ i l.
            let a = h.at i l in
            let b = padded_value y (i / 9) in let e = padded_value y (i % 9) in
            let g = bound_kept (i / 9) (i % 9) in
            omega arith;
      }

    pub chip_arced : Arced d (chip_of c) dots arcs
    chip_arced = record { size = h.long; down = dots_down; up = dots_up }
