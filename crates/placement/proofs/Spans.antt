-- The ends of places in natural numbers. The program holds each place 4,096 higher, so that none is negative; a shift of all places keeps their order and every difference, so the least and the greatest of the integers are those of the raised numbers, shifted back (`least_of_shift`, `greatest_of_shift`), and the one less the other is the spread of the raised numbers (`span_shift`). `held_box` and `held_length` are a held net's box and length in raised numbers.
use Prim.Native.Nat.{ℕ, zero, suc, ◌+◌, ◌-◌, ◌*◌, ◌≤◌, ◌<◌, min, max}
use mathlib.Core.Path.{◌≡◌, refl, ap, ◌∙◌}
use mathlib.Core.List.{List, [], ◌∷◌, map}
use mathlib.Core.Bool.{cond}
use native.Mathlib.Decide.{dec_le, dec_lt}
use native.Mathlib.Omega.{arith}
use lib.IntN.{ℤ, pos, negsuc, neg_ℤ, ◌+ℤ◌, sub_ℕ, nat_abs}
use lib.ListN.{length}
use lib.Signed.{le_z}
use borrow.Author.Tests.{le-leb, lt-leb}
use Rattle.model.specs.declared.Spot.{Spot}
use Rattle.model.specs.declared.Pin.{Pin as HeldPin}
use Rattle.model.specs.Meaning.{Pin, pin_of, pins_of}
use Rattle.num_laws.specs.Spread.{most, fewest, top, bottom, spread}
use Rattle.num_laws.proofs.Differences.{sub_up, sub_down, shift_order}
use Rattle.num_laws.proofs.Spreads.{fewest_le_most}
use Rattle.placement.specs.Length.{origin, pin_x, pin_y, net_box, net_length}
use Rattle.placement.specs.Integers.{greatest, least, greatest_of, least_of, NetBox, box_around, span, box_length}

-- the larger and the smaller of two places
abbrev pub larger : ℤ → ℤ → ℤ
larger a b = cond (le_z a b) b a

abbrev pub smaller : ℤ → ℤ → ℤ
smaller a b = cond (le_z a b) a b

shift_larger : (b p q : ℕ) → larger (sub_ℕ p b) (sub_ℕ q b) ≡ sub_ℕ (max p q) b
shift_larger b p q = by (dec_le p q)
  where
    by : Dec (p ≤ q) → larger (sub_ℕ p b) (sub_ℕ q b) ≡ sub_ℕ (max p q) b
    by (yes h) = let e : q ≡ max p q = omega arith in rw (shift_order b p q, le-leb p q h) (ap (λ (t : ℕ). sub_ℕ t b) e)
    by (no h) = let e : p ≡ max p q = omega arith in rw (shift_order b p q, lt-leb p q (omega arith)) (ap (λ (t : ℕ). sub_ℕ t b) e)

shift_smaller : (b p q : ℕ) → smaller (sub_ℕ p b) (sub_ℕ q b) ≡ sub_ℕ (min p q) b
shift_smaller b p q = by (dec_le p q)
  where
    by : Dec (p ≤ q) → smaller (sub_ℕ p b) (sub_ℕ q b) ≡ sub_ℕ (min p q) b
    by (yes h) = let e : p ≡ min p q = omega arith in rw (shift_order b p q, le-leb p q h) (ap (λ (t : ℕ). sub_ℕ t b) e)
    by (no h) = let e : q ≡ min p q = omega arith in rw (shift_order b p q, lt-leb p q (omega arith)) (ap (λ (t : ℕ). sub_ℕ t b) e)

-- and every difference
shift_less : (b p q : ℕ) → q ≤ p → nat_abs (sub_ℕ p b +ℤ neg_ℤ (sub_ℕ q b)) ≡ p - q
shift_less b p q l = by (dec_lt p b) (dec_lt q b)
  where
    less : (m k : ℕ) → k ≤ m → nat_abs (pos m +ℤ neg_ℤ (pos k)) ≡ m - k
    less m zero h = omega arith
    less m (suc k) h = rw (sub_up m (suc k) h)

    by : Dec (p < b) → Dec (q < b) → nat_abs (sub_ℕ p b +ℤ neg_ℤ (sub_ℕ q b)) ≡ p - q
    by (yes h) (yes k) = rw (sub_down p b h, sub_down q b k, sub_up (suc (b - suc q)) (suc (b - suc p)) (omega arith)) (omega arith)
    by (yes h) (no k) = absurd (omega arith)
    by (no h) (yes k) = rw (sub_up p b (omega arith), sub_down q b k) (omega arith)
    by (no h) (no k) = rw (sub_up p b (omega arith), sub_up q b (omega arith), less (p - b) (q - b) (omega arith)) (omega arith)

-- the places us, less b
abbrev pub shifted : ℕ → List ℕ → List ℤ
shifted b us = map (λ (u : ℕ). sub_ℕ u b) us

greatest_shift : (b a : ℕ) (us : List ℕ) → greatest (sub_ℕ a b) (shifted b us) ≡ sub_ℕ (most a us) b
unfolding greatest most
greatest_shift b a [] = refl
greatest_shift b a (u ∷ us) = ap (λ (z : ℤ). greatest z (shifted b us)) (shift_larger b a u) ∙ greatest_shift b (max a u) us

least_shift : (b a : ℕ) (us : List ℕ) → least (sub_ℕ a b) (shifted b us) ≡ sub_ℕ (fewest a us) b
unfolding least fewest
least_shift b a [] = refl
least_shift b a (u ∷ us) = ap (λ (z : ℤ). least z (shifted b us)) (shift_smaller b a u) ∙ least_shift b (min a u) us

-- of places of which there is one
pub greatest_of_shift : (b : ℕ) (us : List ℕ) → 0 < length us → greatest_of (shifted b us) ≡ sub_ℕ (top us) b
unfolding greatest_of top
greatest_of_shift b [] l = absurd (omega arith)
greatest_of_shift b (a ∷ us) l = greatest_shift b a us

pub least_of_shift : (b : ℕ) (us : List ℕ) → 0 < length us → least_of (shifted b us) ≡ sub_ℕ (bottom us) b
unfolding least_of bottom
least_of_shift b [] l = absurd (omega arith)
least_of_shift b (a ∷ us) l = least_shift b a us

-- from the least to the greatest of places
abbrev pub across : List ℤ → ℕ
across s = span (least_of s) (greatest_of s)

pub span_shift : (b : ℕ) (us : List ℕ) → across (shifted b us) ≡ spread us
unfolding greatest_of least_of spread
span_shift b [] = refl
span_shift b (a ∷ us) = rw (greatest_shift b a us, least_shift b a us) (shift_less b (most a us) (fewest a us) (fewest_le_most a us))

-- a place added to a corner
pub add_shift : (o u b : ℕ) → pos o +ℤ sub_ℕ u b ≡ sub_ℕ (o + u) b
add_shift o u b = by (dec_lt u b) (dec_lt (o + u) b)
  where
    by : Dec (u < b) → Dec (o + u < b) → pos o +ℤ sub_ℕ u b ≡ sub_ℕ (o + u) b
    by (yes h) (yes k) = rw (sub_down u b h, sub_down (o + u) b k, sub_down o (suc (b - suc u)) (omega arith)) (ap (λ (t : ℕ). negsuc t) (omega arith))
    by (yes h) (no k) = rw (sub_down u b h, sub_up (o + u) b (omega arith), sub_up o (suc (b - suc u)) (omega arith)) (ap (λ (t : ℕ). pos t) (omega arith))
    by (no h) k = rw (sub_up u b (omega arith), sub_up (o + u) b (omega arith)) (ap (λ (t : ℕ). pos t) (omega arith))

-- where a held pin lies, 4,096 higher
abbrev pub up_x : List Spot → HeldPin → ℕ
up_x ps p = (origin ps p.m).x + p.xup

abbrev pub up_y : List Spot → HeldPin → ℕ
up_y ps p = (origin ps p.m).y + p.yup

-- held pins on one axis
pins_shifted : (at : Pin → ℤ) (up : HeldPin → ℕ) → ((p : HeldPin) → at (pin_of p) ≡ sub_ℕ (up p) 4096) → (hs : List HeldPin) → map at (pins_of hs) ≡ shifted 4096 (map up hs)
unfolding pins_of
pins_shifted at up same [] = refl
pins_shifted at up same (h ∷ hs) = rw (same h, pins_shifted at up same hs)

module _ (ps : List Spot) where
  pub pin_x_law : (p : HeldPin) → pin_x ps (pin_of p) ≡ sub_ℕ (up_x ps p) 4096
  pin_x_law p = add_shift (origin ps p.m).x p.xup 4096

  pub pin_y_law : (p : HeldPin) → pin_y ps (pin_of p) ≡ sub_ℕ (up_y ps p) 4096
  pin_y_law p = add_shift (origin ps p.m).y p.yup 4096

  -- its box and its length, of weight w, with the held pins hs
  abbrev pub up_box : List HeldPin → NetBox
  up_box hs = box_around (shifted 4096 (map (up_x ps) hs)) (shifted 4096 (map (up_y ps) hs))

  pub held_box : (w : ℕ) (hs : List HeldPin) → net_box ps (record { weight = w; pins = pins_of hs }) ≡ up_box hs
  held_box w hs = rw (pins_shifted (pin_x ps) (up_x ps) pin_x_law hs, pins_shifted (pin_y ps) (up_y ps) pin_y_law hs)

  abbrev pub up_length : ℕ → List HeldPin → ℕ
  up_length w hs = w * (spread (map (up_x ps) hs) + spread (map (up_y ps) hs))

  pub held_length : (w : ℕ) (hs : List HeldPin) → net_length ps (record { weight = w; pins = pins_of hs }) ≡ up_length w hs
  unfolding net_length
  held_length w hs = ap (box_length w) (held_box w hs) ∙ rw (span_shift 4096 (map (up_x ps) hs), span_shift 4096 (map (up_y ps) hs))
