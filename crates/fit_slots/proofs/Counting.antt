-- How many letters and slots a chip has.
use Prim.Native.Nat.{ℕ, zero, suc, ◌+◌, ◌-◌, ◌*◌, ◌/◌, ◌≤◌}
use mathlib.Core.Path.{◌≡◌, refl, ap, ◌∙◌}
use mathlib.Core.List.{List, [], ◌∷◌, map}
use native.Mathlib.Nat.{mul-le-mul}
use native.Mathlib.Omega.{arith}
use lib.ListN.{length, length-map, length-append}
use Rattle.model.specs.declared.Fix.{Fix}
use Rattle.model.specs.declared.Mac.{Mac}
use Rattle.model.specs.declared.Spot.{Spot}
use Rattle.model.specs.Meaning.{Net, Chip}
use Rattle.chip_text.specs.Kind.{pin_count}
use Rattle.chip_text.specs.Valid.{Valid}
use Rattle.placement.specs.Letters.{Letter}
use Rattle.placement.specs.Pairs.{Pair, pairs}
use Rattle.axis_bounds.specs.Axis as bounds
use Rattle.axis_bounds.specs.Listed.{listed}
use Rattle.axis_bounds.proofs.Counts.{length_listed}
use Rattle.fit_slots.specs.declared.Direction.{Direction}
use Rattle.fit_slots.specs.Slots.{mac_side, Couple, mac_fix, couples_with, mac_couples, fix_couples, couples_of, couples, slots_on}
use Rattle.fit_slots.specs.Fit.{letters_for, letter_count}
use Rattle.fit_slots.specs.Axes.{axis_pin, axis_net, held_slots, axis_for}
use Rattle.fit_slots.proofs.Pairs.{pair_of, pairs_couples}
use Rattle.fit_slots.proofs.Matches.{same_slots, same_length}

pub with_count : (i : ℕ) (a : Mac) (j : ℕ) (ms : List Mac) → length (couples_with i a j ms) ≡ length ms
unfolding couples_with
with_count i a j [] = refl
with_count i a j (m ∷ ms) = let h = with_count i a (suc j) ms in omega arith

mac_count_law : (i : ℕ) (ms : List Mac) → 2 * length (mac_couples i ms) + length ms ≡ length ms * length ms
unfolding mac_couples
mac_count_law i [] = refl
mac_count_law i (a ∷ ms) =
    let h = mac_count_law (suc i) ms in
    let p = length-append (couples_with i a (suc i) ms) (mac_couples (suc i) ms) in
    let q = with_count i a (suc i) ms in
    omega arith

fix_count_law : (i : ℕ) (ms : List Mac) (fs : List Fix) → length (fix_couples i ms fs) ≡ length ms * length fs
unfolding fix_couples
fix_count_law i [] fs = omega arith
fix_count_law i (a ∷ ms) fs =
    let h = fix_count_law (suc i) ms fs in
    let p = length-append (map (mac_fix i a) fs) (fix_couples (suc i) ms fs) in
    let q = length-map fs (mac_fix i a) in
    omega arith

half : (n l : ℕ) → 2 * l + n ≡ n * n → l ≡ n * (n - 1) / 2
half zero l h = omega arith
half (suc n) l h = let e : suc n - 1 ≡ n = omega arith in rw e (omega arith)

pub letters_count : (c : Chip) → length (couples c) ≡ letter_count c
unfolding couples_of
letters_count c =
    let p = length-append (mac_couples 1 c.macs) (fix_couples 1 c.macs c.fixes) in
    let q = half (length c.macs) (length (mac_couples 1 c.macs)) (mac_count_law 1 c.macs) in
    let r = fix_count_law 1 c.macs c.fixes in
    omega arith

-- a placement has as many pairs
pub pairs_count : (c : Chip) (ps : List Spot) → length ps ≡ length c.macs → length (pairs c ps) ≡ letter_count c
pairs_count c ps l = ap (λ (t : List Pair). length t) (pairs_couples c ps l) ∙ (length-map (couples c) (pair_of ps) ∙ letters_count c)

-- 8 macros and 8 fixes have 92 letters
module _ (n : ℕ) (h : n ≤ 8) where
  pub mac_product : n * (n - 1) ≤ 56
  mac_product = let l : n - 1 ≤ 7 = omega arith in mul-le-mul h l

  module _ (k : ℕ) (l : k ≤ 8) where
    pub fix_product : n * k ≤ 64
    fix_product = mul-le-mul h l

    pub few_letters : letters_for n k ≤ 92
    few_letters = let p = mac_product in let q = fix_product in omega arith

pub held_count : (d : Direction) (ls : List Letter) (qs : List Couple) → length ls ≡ length qs → length (held_slots d ls qs) ≡ length ls
unfolding held_slots
held_count d [] qs e = refl
held_count d (l ∷ ls) [] e = absurd (omega arith)
held_count d (l ∷ ls) (q ∷ qs) e = let h = held_count d ls qs (omega arith) in omega arith

pub pins_count : (d : Direction) (ts : List Net) → bounds.pin_count (map (axis_net d) ts) ≡ pin_count ts
unfolding bounds.pin_count pin_count
pins_count d [] = refl
pins_count d (t ∷ ts) = let h = pins_count d ts in let p = length-map t.pins (axis_pin d) in omega arith

module _ (c : Chip) (ls : List Letter) (el : length ls ≡ length (couples c)) where
  pub listed_count : (d : Direction) → length (listed (axis_for d c ls)) ≡ 2 * length c.macs + letter_count c + 2 * pin_count c.nets
  unfolding axis_for
  listed_count d =
      let p = length_listed (axis_for d c ls) in
      let q = length-map c.macs (mac_side d) in
      let r = held_count d ls (couples c) el in
      let s = pins_count d c.nets in
      let t = letters_count c in
      omega arith

  pub slots_count : Valid c → (d : Direction) → length (slots_on d c ls) ≡ 2 * length c.macs + letter_count c + 2 * pin_count c.nets
  slots_count v d = same_length (slots_on d c ls) (listed (axis_for d c ls)) (same_slots d c ls v) ∙ listed_count d
