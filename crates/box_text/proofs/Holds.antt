-- The box of a net (document 02, Card 2) holds every pin (`box_holds`), and each of its sides touches one (`box_touches`); right is left plus the width, and top is bottom plus the height (`box_wide`,
-- `box_high`).
use Prim.Native.Nat.{ℕ, zero, suc, ◌+◌, ◌-◌, ◌≤◌, ◌<◌}
use mathlib.Core.Path.{◌≡◌, refl, sym, ap, subst, ◌∙◌}
use mathlib.Core.Bool.{Bool, true, false, cond, false≢true}
use mathlib.Core.List.{List, [], ◌∷◌, map}
use mathlib.Core.Logic.{◌⊎◌, inl, inr}
use native.Mathlib.Nat.{le_of_suc-le-suc}
use native.Mathlib.Decide.{dec_le}
use native.Mathlib.Omega.{arith}
use lib.Dec.{leb}
use lib.IntN.{ℤ, pos, negsuc, neg_ℤ, ◌+ℤ◌, nat_abs, -ℤ-+ℤ_cancel, +ℤ_comm}
use lib.ListN.{length, get_or, length-map, get_or-map}
use lib.Signed.{le_z}
use borrow.Author.Tests.{le-leb, leb-true}
use Rattle.num_laws.proofs.Differences.{sub_up, sub_sum}
use Rattle.model.specs.Meaning.{Pin, Net}
use Rattle.chip_text.specs.Valid.{no_pin}
use Rattle.placement.specs.Integers.{Corner, greatest, least, greatest_of, least_of, pin_xz, pin_yz, NetBox, net_box_z, span}
use Rattle.placement.proofs.Spans.{larger, smaller}

-- ---- the order of integers

le_refl : (a : ℤ) → le_z a a ≡ true
le_refl (pos a) = le-leb a a (omega arith)
le_refl (negsuc a) = le-leb a a (omega arith)

le_trans : (a b c : ℤ) → le_z a b ≡ true → le_z b c ≡ true → le_z a c ≡ true
le_trans (pos a) (pos b) (pos c) h k = let p = leb-true a b h in let q = leb-true b c k in le-leb a c (omega arith)
le_trans (pos a) (pos b) (negsuc c) h k = absurd (false≢true k)
le_trans (pos a) (negsuc b) c h k = absurd (false≢true h)
le_trans (negsuc a) (pos b) (pos c) h k = refl
le_trans (negsuc a) (pos b) (negsuc c) h k = absurd (false≢true k)
le_trans (negsuc a) (negsuc b) (pos c) h k = refl
le_trans (negsuc a) (negsuc b) (negsuc c) h k = let p = leb-true b a h in let q = leb-true c b k in le-leb c a (omega arith)

other_way_law : (a b : ℕ) → leb a b ≡ false → leb b a ≡ true
other_way_law a b e = by (dec_le b a)
  where
    by : Dec (b ≤ a) → leb b a ≡ true
    by (yes h) = le-leb b a h
    by (no h) = absurd (false≢true (sym e ∙ le-leb a b (omega arith)))

le_total : (a b : ℤ) → le_z a b ≡ false → le_z b a ≡ true
le_total (pos a) (pos b) e = other_way_law a b e
le_total (pos a) (negsuc b) e = refl
le_total (negsuc a) (pos b) e = absurd (false≢true (sym e))
le_total (negsuc a) (negsuc b) e = other_way_law b a e

-- from a place to one that is at least as great
natural : (z : ℤ) (n : ℕ) → z ≡ pos n → z ≡ pos (nat_abs z)
natural z n e = e ∙ ap (λ (y : ℤ). pos (nat_abs y)) (sym e)

difference : (a b : ℤ) → le_z a b ≡ true → b +ℤ neg_ℤ a ≡ pos (span a b)
difference (pos a) (pos b) e = natural (pos b +ℤ neg_ℤ (pos a)) (b - a) (sym (sub_sum b a) ∙ sub_up b a (leb-true a b e))
difference (pos a) (negsuc b) e = absurd (false≢true e)
difference (negsuc a) (pos b) e = natural (pos b +ℤ neg_ℤ (negsuc a)) (b + suc a) refl
difference (negsuc a) (negsuc b) e = natural (negsuc b +ℤ neg_ℤ (negsuc a)) (suc a - suc b) (sub_up (suc a) (suc b) (let h = leb-true b a e in omega arith))

reached : (a b : ℤ) → le_z a b ≡ true → b ≡ a +ℤ pos (span a b)
reached a b e = sym (-ℤ-+ℤ_cancel b a) ∙ (+ℤ_comm (b +ℤ neg_ℤ a) a ∙ ap (λ (z : ℤ). a +ℤ z) (difference a b e))

-- the larger and the smaller of two places stand at one side of both
module _ (a b : ℤ) where
  first_larger : le_z a (larger a b) ≡ true
  first_larger = by (le_z a b) refl
    where
      by : (t : Bool) → le_z a b ≡ t → le_z a (cond t b a) ≡ true
      by true e = e
      by false e = le_refl a

  second_larger : le_z b (larger a b) ≡ true
  second_larger = by (le_z a b) refl
    where
      by : (t : Bool) → le_z a b ≡ t → le_z b (cond t b a) ≡ true
      by true e = le_refl b
      by false e = le_total a b e

  first_smaller_law : le_z (smaller a b) a ≡ true
  first_smaller_law = by (le_z a b) refl
    where
      by : (t : Bool) → le_z a b ≡ t → le_z (cond t a b) a ≡ true
      by true e = le_refl a
      by false e = le_total a b e

  second_smaller : le_z (smaller a b) b ≡ true
  second_smaller = by (le_z a b) refl
    where
      by : (t : Bool) → le_z a b ≡ t → le_z (cond t a b) b ≡ true
      by true e = e
      by false e = le_refl b

one_of : (t : Bool) (a b : ℤ) → (cond t a b ≡ a) ⊎ (cond t a b ≡ b)
one_of true a b = inl refl
one_of false a b = inr refl

-- ---- one of places that stands at one side of all

-- the place z is one of s
pub record Among (z : ℤ) (s : List ℤ) : Type 0 where
  pub at : ℕ
  pub inside : at < length s
  pub is : get_or s at (pos 0) ≡ z

-- g takes one of two places, and goes on with it
module _ (g : ℤ → List ℤ → ℤ) (pick : ℤ → ℤ → ℤ) (none : (a : ℤ) → g a [] ≡ a) (more : (a b : ℤ) (s : List ℤ) → g a (b ∷ s) ≡ g (pick a b) s) where
  taken : ((a b : ℤ) → (pick a b ≡ a) ⊎ (pick a b ≡ b)) → (a : ℤ) (s : List ℤ) → Among (g a s) (a ∷ s)
  taken one a [] = record { at = 0; inside = omega arith; is = sym (none a) }
  taken one a (b ∷ s) = by (taken one (pick a b) s) (one a b)
    where
      on : (i : ℕ) → i < length (pick a b ∷ s) → get_or (pick a b ∷ s) i (pos 0) ≡ g (pick a b) s → (pick a b ≡ a) ⊎ (pick a b ≡ b) → Among (g a (b ∷ s)) (a ∷ b ∷ s)
      on zero l e (inl q) = record { at = 0; inside = omega arith; is = sym q ∙ (e ∙ sym (more a b s)) }
      on zero l e (inr q) = record { at = 1; inside = omega arith; is = sym q ∙ (e ∙ sym (more a b s)) }
      on (suc i) l e q = record { at = suc (suc i); inside = omega arith; is = e ∙ sym (more a b s) }

      by : Among (g (pick a b) s) (pick a b ∷ s) → (pick a b ≡ a) ⊎ (pick a b ≡ b) → Among (g a (b ∷ s)) (a ∷ b ∷ s)
      by m q = on m.at m.inside m.is q

  -- R a b says that b stands at its side of a
  module _ (R : ℤ → ℤ → Type 0) (self : (a : ℤ) → R a a) (through : (a b c : ℤ) → R a b → R b c → R a c) (first : (a b : ℤ) → R a (pick a b)) (second : (a b : ℤ) → R b (pick a b)) where
    start_beside : (a : ℤ) (s : List ℤ) → R a (g a s)
    start_beside a [] = subst (R a) (sym (none a)) (self a)
    start_beside a (b ∷ s) = subst (R a) (sym (more a b s)) (through a (pick a b) (g (pick a b) s) (first a b) (start_beside (pick a b) s))

    rest_beside : (a : ℤ) (s : List ℤ) (i : ℕ) → i < length s → R (get_or s i (pos 0)) (g a s)
    rest_beside a [] i l = absurd (omega arith)
    rest_beside a (b ∷ s) zero l = subst (R b) (sym (more a b s)) (through b (pick a b) (g (pick a b) s) (second a b) (start_beside (pick a b) s))
    rest_beside a (b ∷ s) (suc i) l = subst (R (get_or s i (pos 0))) (sym (more a b s)) (rest_beside (pick a b) s i (le_of_suc-le-suc l))

    each_beside : (a : ℤ) (s : List ℤ) (i : ℕ) → i < length (a ∷ s) → R (get_or (a ∷ s) i (pos 0)) (g a s)
    each_beside a s zero l = start_beside a s
    each_beside a s (suc i) l = rest_beside a s i (le_of_suc-le-suc l)

-- ---- the greatest and the least of places

at_most : (s : List ℤ) (i : ℕ) → i < length s → le_z (get_or s i (pos 0)) (greatest_of s) ≡ true
unfolding greatest_of greatest
at_most [] i l = absurd (omega arith)
at_most (a ∷ s) i l = each_beside greatest larger (λ x. refl) (λ x y t. refl) (λ p q. le_z p q ≡ true) le_refl le_trans first_larger second_larger a s i l

at_least : (s : List ℤ) (i : ℕ) → i < length s → le_z (least_of s) (get_or s i (pos 0)) ≡ true
unfolding least_of least
at_least [] i l = absurd (omega arith)
at_least (a ∷ s) i l = each_beside least smaller (λ x. refl) (λ x y t. refl) (λ p q. le_z q p ≡ true) le_refl (λ x y z h k. le_trans z y x k h) first_smaller_law second_smaller a s i l

greatest_among : (s : List ℤ) → 0 < length s → Among (greatest_of s) s
unfolding greatest_of greatest
greatest_among [] l = absurd (omega arith)
greatest_among (a ∷ s) l = taken greatest larger (λ x. refl) (λ x y t. refl) (λ x y. either (one_of (le_z x y) y x)) a s
  where
    either : {P Q : Type 0} → P ⊎ Q → Q ⊎ P
    either (inl p) = inr p
    either (inr q) = inl q

least_among : (s : List ℤ) → 0 < length s → Among (least_of s) s
unfolding least_of least
least_among [] l = absurd (omega arith)
least_among (a ∷ s) l = taken least smaller (λ x. refl) (λ x y t. refl) (λ x y. one_of (le_z x y) x y) a s

-- ---- the box of a net

-- the place x,y is in the box b
pub record Holds (b : NetBox) (x y : ℤ) : Type 0 where
  pub left : le_z b.left x ≡ true
  pub right : le_z x b.right ≡ true
  pub bottom : le_z b.bottom y ≡ true
  pub top : le_z y b.top ≡ true

-- a pin of the net lies at z in x, or in y
pub record Touched (place : Pin → ℤ) (t : Net) (z : ℤ) : Type 0 where
  pub pin : ℕ
  pub inside : pin < length t.pins
  pub is : place (get_or t.pins pin no_pin) ≡ z

touched : (place : Pin → ℤ) (t : Net) (z : ℤ) → ((i : ℕ) → get_or (map place t.pins) i (pos 0) ≡ place (get_or t.pins i no_pin)) → Among z (map place t.pins) → Touched place t z
touched place t z at m = record { pin = m.at; inside = rw length-map at m.inside; is = sym (at m.at) ∙ m.is }

module _ (ps : List Corner) (t : Net) where
  -- where the pins lie in x and in y
  xs : (i : ℕ) → get_or (map (pin_xz ps) t.pins) i (pos 0) ≡ pin_xz ps (get_or t.pins i no_pin)
  xs i = get_or-map (pin_xz ps) t.pins i no_pin

  ys : (i : ℕ) → get_or (map (pin_yz ps) t.pins) i (pos 0) ≡ pin_yz ps (get_or t.pins i no_pin)
  ys i = get_or-map (pin_yz ps) t.pins i no_pin

  -- the box holds every pin
  pub box_holds : (i : ℕ) → i < length t.pins → Holds (net_box_z ps t) (pin_xz ps (get_or t.pins i no_pin)) (pin_yz ps (get_or t.pins i no_pin))
  box_holds i l =
      let j : i < length (map (pin_xz ps) t.pins) = rw length-map l in
      let k : i < length (map (pin_yz ps) t.pins) = rw length-map l in
      record {
        left = subst (λ (z : ℤ). le_z (net_box_z ps t).left z ≡ true) (xs i) (at_least (map (pin_xz ps) t.pins) i j);
        right = subst (λ (z : ℤ). le_z z (net_box_z ps t).right ≡ true) (xs i) (at_most (map (pin_xz ps) t.pins) i j);
        bottom = subst (λ (z : ℤ). le_z (net_box_z ps t).bottom z ≡ true) (ys i) (at_least (map (pin_yz ps) t.pins) i k);
        top = subst (λ (z : ℤ). le_z z (net_box_z ps t).top ≡ true) (ys i) (at_most (map (pin_yz ps) t.pins) i k);
      }

  -- and each side touches one, where the net has a pin
  pub record Touching : Type 0 where
    pub left : Touched (pin_xz ps) t (net_box_z ps t).left
    pub right : Touched (pin_xz ps) t (net_box_z ps t).right
    pub bottom : Touched (pin_yz ps) t (net_box_z ps t).bottom
    pub top : Touched (pin_yz ps) t (net_box_z ps t).top

  pub box_touches : 0 < length t.pins → Touching
  box_touches some =
      let j : 0 < length (map (pin_xz ps) t.pins) = rw length-map some in
      let k : 0 < length (map (pin_yz ps) t.pins) = rw length-map some in
      record {
        left = touched (pin_xz ps) t _ xs (least_among (map (pin_xz ps) t.pins) j);
        right = touched (pin_xz ps) t _ xs (greatest_among (map (pin_xz ps) t.pins) j);
        bottom = touched (pin_yz ps) t _ ys (least_among (map (pin_yz ps) t.pins) k);
        top = touched (pin_yz ps) t _ ys (greatest_among (map (pin_yz ps) t.pins) k);
      }

  -- right is left plus the width, and top is bottom plus the height
  pub box_wide : 0 < length t.pins → (net_box_z ps t).right ≡ (net_box_z ps t).left +ℤ pos (span (net_box_z ps t).left (net_box_z ps t).right)
  box_wide some = let h = box_holds 0 some in reached (net_box_z ps t).left (net_box_z ps t).right (le_trans (net_box_z ps t).left (pin_xz ps (get_or t.pins 0 no_pin)) (net_box_z ps t).right h.left h.right)

  pub box_high : 0 < length t.pins → (net_box_z ps t).top ≡ (net_box_z ps t).bottom +ℤ pos (span (net_box_z ps t).bottom (net_box_z ps t).top)
  box_high some = let h = box_holds 0 some in reached (net_box_z ps t).bottom (net_box_z ps t).top (le_trans (net_box_z ps t).bottom (pin_yz ps (get_or t.pins 0 no_pin)) (net_box_z ps t).top h.bottom h.top)
