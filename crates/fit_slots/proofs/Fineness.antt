-- The axes of a valid chip are within the solver's limits.
use Prim.{tt}
use Prim.Native.Nat.{ℕ, zero, suc, ◌+◌, ◌≤◌, ◌<◌}
use mathlib.Core.Path.{◌≡◌, sym, subst}
use mathlib.Core.Bool.{true}
use mathlib.Core.List.{List, [], ◌∷◌, map}
use native.Mathlib.Omega.{arith}
use lib.IntN.{ℤ, pos, negsuc}
use lib.Signed.{le_z}
use lib.ListN.{length, get_or, length-map}
use borrow.Author.Tests.{leb-true}
use Rattle.model.specs.declared.Fix.{Fix}
use Rattle.model.specs.declared.Mac.{Mac}
use Rattle.model.specs.Meaning.{Pin, Net, Chip, blank_fix, blank_mac}
use Rattle.text_grammar.proofs.Every.{Every, every_append}
use Rattle.text_grammar.proofs.Lacks.{and_left, and_right}
use Rattle.chip_text.specs.Valid.{ValidFix, ValidMac, ValidPin, ValidNet, Valid, no_pin, no_net}
use Rattle.chip_text.proofs.NetsRead.{every_at}
use Rattle.placement.specs.Letters.{Letter}
use Rattle.axis_bounds.specs.Axis as bounds
use Rattle.axis_bounds.specs.Axis.{no_slot, WellFormedPair, WellFormedPin, WellFormedNet, WellFormed, bare_net}
use Rattle.fit_slots.specs.declared.Direction.{Direction}
use Rattle.fit_slots.specs.declared.Direction.TheVariants.{Horizontal as horizontal, Vertical as vertical}
use Rattle.fit_slots.specs.declared.Asked.{Asked}
use Rattle.fit_slots.specs.declared.Asked.TheVariants.{Before as before, After as after, Nothing as nothing}
use Rattle.fit_slots.specs.Slots.{die_side, mac_side, fix_side, fix_corner, pin_place, asked, Couple, two_macs, mac_fix, couples_with, mac_couples, fix_couples, couples_of, couples}
use Rattle.fit_slots.specs.Axes.{raised, axis_pin, axis_net, held_slot, held_slots, axis_for}
use Rattle.fit_slots.proofs.Lengths.{raised_low}
use Rattle.fit_slots.proofs.Counting.{letters_count, held_count, pins_count, few_letters}

-- ---- sides

pub mac_side_law : (d : Direction) (m : Mac) → ValidMac m → mac_side d m ≤ 1024
mac_side_law horizontal m v = v.w.high
mac_side_law vertical m v = v.h.high

fix_end : (d : Direction) (f : Fix) → ValidFix f → fix_corner d f + fix_side d f ≤ 2047
fix_end horizontal f v = let a = v.x in let b = v.w.high in omega arith
fix_end vertical f v = let a = v.y in let b = v.h.high in omega arith

raised_most : (z : ℤ) → le_z z (pos 4096) ≡ true → le_z (negsuc 4095) z ≡ true → raised z ≤ 8192
raised_most (pos n) h l = let a = leb-true n 4096 h in omega arith
raised_most (negsuc n) h l = let e = raised_low n (leb-true n 4095 l) in omega arith

pin_raised : (d : Direction) (n : ℕ) (p : Pin) → ValidPin n p → raised (pin_place d p) ≤ 8192
pin_raised horizontal n p v = raised_most p.x (and_right (le_z (negsuc 4095) p.x) (le_z p.x (pos 4096)) v.x) (and_left (le_z (negsuc 4095) p.x) (le_z p.x (pos 4096)) v.x)
pin_raised vertical n p v = raised_most p.y (and_right (le_z (negsuc 4095) p.y) (le_z p.y (pos 4096)) v.y) (and_left (le_z (negsuc 4095) p.y) (le_z p.y (pos 4096)) v.y)

-- ---- pairs

-- macros of the chip by their numbers, and fixes of the chip
abbrev FineCouple : ℕ → Couple → Type 0
FineCouple n (two_macs i a j b) = (i ≤ n) × ValidMac a × (j ≤ n) × ValidMac b
FineCouple n (mac_fix i a f) = (i ≤ n) × ValidMac a × ValidFix f

abbrev Macs : List Mac → Type 0
Macs ms = (i : ℕ) → i < length ms → ValidMac (get_or ms i blank_mac)

rest_macs : (m : Mac) (ms : List Mac) → Macs (m ∷ ms) → Macs ms
rest_macs m ms h i l = h (suc i) (omega arith)

fine_with : (n i : ℕ) (a : Mac) (j : ℕ) (ms : List Mac) → i ≤ n → ValidMac a → j + length ms ≤ suc n → Macs ms → Every (FineCouple n) (couples_with i a j ms)
unfolding couples_with
fine_with n i a j [] l v h ms = tt
fine_with n i a j (m ∷ ms) l v h vs = ((l, v, omega arith, vs 0 (omega arith)), fine_with n i a (suc j) ms l v (omega arith) (rest_macs m ms vs))

fine_macs : (n i : ℕ) (ms : List Mac) → i + length ms ≤ suc n → Macs ms → Every (FineCouple n) (mac_couples i ms)
unfolding mac_couples
fine_macs n i [] h vs = tt
fine_macs n i (m ∷ ms) h vs =
    every_append (FineCouple n) (couples_with i m (suc i) ms) (mac_couples (suc i) ms)
    (fine_with n i m (suc i) ms (omega arith) (vs 0 (omega arith)) (omega arith) (rest_macs m ms vs))
    (fine_macs n (suc i) ms (omega arith) (rest_macs m ms vs))

fine_fix : (n i : ℕ) (a : Mac) (fs : List Fix) → i ≤ n → ValidMac a → ((j : ℕ) → j < length fs → ValidFix (get_or fs j blank_fix)) → Every (FineCouple n) (map (mac_fix i a) fs)
fine_fix n i a [] l v h = tt
fine_fix n i a (f ∷ fs) l v h = ((l, v, h 0 (omega arith)), fine_fix n i a fs l v (λ j k. h (suc j) (omega arith)))

fine_fixes : (n i : ℕ) (ms : List Mac) (fs : List Fix) → i + length ms ≤ suc n → Macs ms → ((j : ℕ) → j < length fs → ValidFix (get_or fs j blank_fix)) → Every (FineCouple n) (fix_couples i ms fs)
unfolding fix_couples
fine_fixes n i [] fs h vs g = tt
fine_fixes n i (m ∷ ms) fs h vs g =
    every_append (FineCouple n) (map (mac_fix i m) fs) (fix_couples (suc i) ms fs)
    (fine_fix n i m fs (omega arith) (vs 0 (omega arith)) g)
    (fine_fixes n (suc i) ms fs (omega arith) (rest_macs m ms vs) g)

fine_couples : (c : Chip) → Valid c → Every (FineCouple (length c.macs)) (couples c)
unfolding couples_of
fine_couples c v =
    every_append (FineCouple (length c.macs)) (mac_couples 1 c.macs) (fix_couples 1 c.macs c.fixes)
    (fine_macs (length c.macs) 1 c.macs (omega arith) v.mac)
    (fine_fixes (length c.macs) 1 c.macs c.fixes (omega arith) v.mac v.fix)

fine_pair : (d : Direction) (n : ℕ) (k : Asked) (q : Couple) → FineCouple n q → WellFormedPair n (held_slot d k q)
fine_pair d n before (two_macs i a j b) (p, va, r, vb) = let s = mac_side_law d a va in record { tail = p; head = r; plus = omega arith; minus = omega arith }
fine_pair d n after (two_macs i a j b) (p, va, r, vb) = let s = mac_side_law d b vb in record { tail = r; head = p; plus = omega arith; minus = omega arith }
fine_pair d n nothing (two_macs i a j b) h = record { tail = omega arith; head = omega arith; plus = omega arith; minus = omega arith }
fine_pair d n before (mac_fix i a f) (p, va, vf) = let s = mac_side_law d a va in let t = fix_end d f vf in record { tail = p; head = omega arith; plus = omega arith; minus = omega arith }
fine_pair d n after (mac_fix i a f) (p, va, vf) = let t = fix_end d f vf in record { tail = omega arith; head = p; plus = omega arith; minus = omega arith }
fine_pair d n nothing (mac_fix i a f) h = record { tail = omega arith; head = omega arith; plus = omega arith; minus = omega arith }

fine_pairs : (d : Direction) (n : ℕ) (ls : List Letter) (qs : List Couple) → Every (FineCouple n) qs → Every (WellFormedPair n) (held_slots d ls qs)
unfolding held_slots
fine_pairs d n [] qs h = tt
fine_pairs d n (l ∷ ls) [] h = tt
fine_pairs d n (l ∷ ls) (q ∷ qs) h = (fine_pair d n (asked d l) q h.0, fine_pairs d n ls qs h.1)

-- ---- nets

fine_net : (d : Direction) (n : ℕ) (t : Net) → ValidNet n t → WellFormedNet n (axis_net d t)
fine_net d n t v =
    let e = length-map t.pins (axis_pin d) in
    record {
      low = v.weight.low;
      high = v.weight.high;
      some = let s = v.some in omega arith;
      pin = λ i l. fine_pin_at t.pins v.pin i (omega arith);
    }
  where
    fine_pin_at : (ps : List Pin) → ((i : ℕ) → i < length ps → ValidPin n (get_or ps i no_pin)) → (i : ℕ) → i < length ps → WellFormedPin n (get_or (map (axis_pin d) ps) i bounds.no_pin)
    fine_pin_at [] h i l = absurd (omega arith)
    fine_pin_at (p ∷ ps) h zero l = let r = pin_raised d n p (h 0 l) in record { node = (h 0 l).macro; up = omega arith }
    fine_pin_at (p ∷ ps) h (suc i) l = fine_pin_at ps (λ j k. h (suc j) (omega arith)) i (omega arith)

fine_nets : (d : Direction) (n : ℕ) (ts : List Net) → ((j : ℕ) → j < length ts → ValidNet n (get_or ts j no_net)) → (j : ℕ) → j < length ts → WellFormedNet n (get_or (map (axis_net d) ts) j bare_net)
fine_nets d n [] h j l = absurd (omega arith)
fine_nets d n (t ∷ ts) h zero l = fine_net d n t (h 0 l)
fine_nets d n (t ∷ ts) h (suc j) l = fine_nets d n ts (λ i k. h (suc i) (omega arith)) j (omega arith)

sizes_most : (d : Direction) (ms : List Mac) → Macs ms → (i : ℕ) → i < length ms → get_or (map (mac_side d) ms) i 0 ≤ 1024
sizes_most d [] h i l = absurd (omega arith)
sizes_most d (m ∷ ms) h zero l = mac_side_law d m (h 0 l)
sizes_most d (m ∷ ms) h (suc i) l = sizes_most d ms (rest_macs m ms h) i (omega arith)

pub die_most : (d : Direction) (c : Chip) → Valid c → die_side d c.die ≤ 1024
die_most horizontal c v = v.die_w.high
die_most vertical c v = v.die_h.high

pub axis_fine : (d : Direction) (c : Chip) (ls : List Letter) → Valid c → length ls ≡ length (couples c) → WellFormed (axis_for d c ls)
unfolding axis_for
axis_fine d c ls v el =
    let em = length-map c.macs (mac_side d) in
    let en = length-map c.nets (axis_net d) in
    let ep = held_count d ls (couples c) el in
    let eq = pins_count d c.nets in
    let lc = letters_count c in
    let fl = few_letters (length c.macs) v.mac_count (length c.fixes) v.fix_count in
    let md = die_most d c v in
    let vm = v.mac_count in let vn = v.net_count in let vp = v.pins in
    record {
      macs = omega arith;
      pairs = omega arith;
      nets = omega arith;
      pins = omega arith;
      side = omega arith;
      base = omega arith;
      size = λ i l. let s = sizes_most d c.macs v.mac i (omega arith) in omega arith;
      pair = subst (λ (n : ℕ). (j : ℕ) → j < length (held_slots d ls (couples c)) → WellFormedPair n (get_or (held_slots d ls (couples c)) j no_slot)) (sym em)
          (every_at (WellFormedPair (length c.macs)) no_slot (held_slots d ls (couples c)) (fine_pairs d (length c.macs) ls (couples c) (fine_couples c v)));
      net = subst (λ (n : ℕ). (j : ℕ) → j < length (map (axis_net d) c.nets) → WellFormedNet n (get_or (map (axis_net d) c.nets) j bare_net)) (sym em)
          (λ j l. fine_nets d (length c.macs) c.nets v.net j (omega arith));
    }
