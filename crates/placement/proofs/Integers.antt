-- Legality, letters, boxes, wirelength and order over integer corners are those over natural corners, and a placement that is legal or keeps letters over the integers has natural corners: nothing is lost.
use Prim.Native.Nat.{ℕ, zero, suc, ◌+◌, ◌<◌}
use mathlib.Core.Path.{◌≡◌, refl, sym, ap, ◌∙◌, fun_ext}
use mathlib.Core.List.{List, [], ◌∷◌, ◌++◌, map, zip_with, flat_map, product, map-append}
use mathlib.Core.Bool.{Bool, true, false, ◌&&◌, ◌||◌, false≢true}
use native.Mathlib.Decide.{dec_lt}
use native.Mathlib.Omega.{arith}
use lib.Dec.{eqb, leb, ltb}
use lib.ListN.{length, get_or, length-map}
use lib.IntN.{ℤ, pos, negsuc, ◌+ℤ◌, nat_abs}
use lib.Signed.{le_z}
use borrow.Author.Tests.{le-leb, lt-leb, eq-eqb, ne_eqb, eqb-true}
use Rattle.num_text.specs.Number.{all_of}
use Rattle.model.specs.declared.Fix.{Fix}
use Rattle.model.specs.declared.Mac.{Mac}
use Rattle.model.specs.declared.Spot.{Spot}
use Rattle.model.specs.Meaning.{Pin, Net, Chip, blank_spot}
use Rattle.text_grammar.proofs.Lacks.{and_left, and_right}
use Rattle.geometry.specs.declared.Box.{Box}
use Rattle.geometry.specs.Box.{apart, in_die, box_of}
use Rattle.placement.specs.Integers.{Corner, Rect, rect_at, rect_of, gap_of, apart_z, in_die_z, rects, within_z, each_two, pairs_z, legal_z, zero_corner, origin_z, pin_xz, pin_yz, NetBox, box_around, net_box_z, box_length, nets_length_z, wirelength_z, smaller_first, before_z, EarliestLeastZ, integers}
use Rattle.placement.specs.Letters.{Letter, left, right, low, high, dot, keeps_z, keeps_all_z, keeps_letters_z}
use Rattle.placement.specs.Legal.{boxes, fix_boxes, within, legal}
use Rattle.placement.specs.Length.{origin, pin_x, pin_y, net_box, net_length, nets_length, wirelength}
use Rattle.placement.specs.Order.{keys, first_smaller, before}
use Rattle.placement.specs.Pairs.{keeps, Pair, with, pairs_of, with_each, pairs, keeps_all, keeps_letters}
use Rattle.placement.specs.Demand.{EarliestLeast}
use Rattle.placement.proofs.Cover.{all_pairs, placement_pairs}

abbrev corner_of : Spot → Corner
corner_of p = record { x = pos p.x; y = pos p.y }

-- ---- legal

-- a box with a natural corner
abbrev boxed : Box → Rect
boxed a = record { x = pos a.x; y = pos a.y; w = a.w; h = a.h }

abbrev both : Pair → Rect × Rect
both q = (boxed q.first, boxed q.second)

rects_are : (ms : List Mac) (ps : List Spot) → zip_with rect_at ms (integers ps) ≡ map boxed (boxes ms ps)
unfolding zip_with
rects_are [] ps = refl
rects_are (m ∷ ms) [] = refl
rects_are (m ∷ ms) (p ∷ ps) = ap (λ (s : List Rect). rect_at m (corner_of p) ∷ s) (rects_are ms ps)

fixes_are : (fs : List Fix) → map rect_of fs ≡ map boxed (map box_of fs)
fixes_are [] = refl
fixes_are (f ∷ fs) = ap (λ (s : List Rect). rect_of f ∷ s) (fixes_are fs)

-- ---- the pairs

with_are : (a : Box) (s : List Box) → map (λ (b : Rect). (boxed a, b)) (map boxed s) ≡ map both (with a s)
with_are a [] = refl
with_are a (b ∷ s) = ap (λ (t : List (Rect × Rect)). (boxed a, boxed b) ∷ t) (with_are a s)

joined : (a : Box) (s : List Box) (t : List (Rect × Rect)) (qs : List Pair) → t ≡ map both qs → map (λ (b : Rect). (boxed a, b)) (map boxed s) ++ t ≡ map both (with a s ++ qs)
joined a s t qs e =
    ap (λ (u : List (Rect × Rect)). u ++ t) (with_are a s)
    ∙ ap (λ (u : List (Rect × Rect)). map both (with a s) ++ u) e
    ∙ sym (map-append both (with a s) qs)

two_are : (s : List Box) → each_two (map boxed s) ≡ map both (pairs_of s)
unfolding each_two pairs_of
two_are [] = refl
two_are (a ∷ s) = joined a s (each_two (map boxed s)) (pairs_of s) (two_are s)

each_are : (s fs : List Box) → product (map boxed s) (map boxed fs) ≡ map both (with_each s fs)
unfolding product flat_map with_each
each_are [] fs = refl
each_are (a ∷ s) fs = joined a fs (product (map boxed s) (map boxed fs)) (with_each s fs) (each_are s fs)

module _ (c : Chip) where
  pairs_are : (ps : List Spot) → pairs_z c (integers ps) ≡ map both (pairs c ps)
  unfolding pairs_z pairs
  pairs_are ps =
      let bs = boxes c.macs ps in
      ap (λ (s : List Rect). each_two s ++ product s (map rect_of c.fixes)) (rects_are c.macs ps)
      ∙ ap (λ (t : List Rect). each_two (map boxed bs) ++ product (map boxed bs) t) (fixes_are c.fixes)
      ∙ ap (λ (t : List (Rect × Rect)). t ++ product (map boxed bs) (map boxed (fix_boxes c))) (two_are bs)
      ∙ ap (λ (t : List (Rect × Rect)). map both (pairs_of bs) ++ t) (each_are bs (fix_boxes c))
      ∙ sym (map-append both (pairs_of bs) (with_each bs (fix_boxes c)))

  in_same : (a : Box) → in_die_z c (boxed a) ≡ in_die c.die a
  in_same a = rw (le-leb 0 a.x (omega arith), le-leb 0 a.y (omega arith))

  all_in_same : (s : List Box) → all_of (in_die_z c) (map boxed s) ≡ all_of (in_die c.die) s
  unfolding all_of
  all_in_same [] = refl
  all_in_same (a ∷ s) = ap (λ (b : Bool). b && all_of (in_die_z c) (map boxed s)) (in_same a) ∙ ap (λ (b : Bool). in_die c.die a && b) (all_in_same s)

  within_same : (ps : List Spot) → within_z c (integers ps) ≡ within c ps
  unfolding within_z within
  within_same ps =
      ap (λ (k : ℕ). eqb k (length c.macs) && all_of (in_die_z c) (rects c (integers ps))) (length-map ps corner_of)
      ∙ ap (λ (s : List Rect). eqb (length ps) (length c.macs) && all_of (in_die_z c) s) (rects_are c.macs ps)
      ∙ ap (λ (t : Bool). eqb (length ps) (length c.macs) && t) (all_in_same (boxes c.macs ps))

  apart_same : (qs : List Pair) → all_of (apart_z c) (map both qs) ≡ all_pairs c qs
  unfolding all_of
  apart_same [] = refl
  apart_same (q ∷ qs) = ap (λ (t : Bool). apart (gap_of c) q.first q.second && t) (apart_same qs)

  -- natural corners are legal exactly where they are legal as integers
  pub legal_same : (ps : List Spot) → legal_z c (integers ps) ≡ legal c ps
  unfolding legal_z legal
  legal_same ps =
      ap (λ (t : Bool). t && all_of (apart_z c) (pairs_z c (integers ps))) (within_same ps)
      ∙ ap (λ (t : Bool). within c ps && t) (ap (all_of (apart_z c)) (pairs_are ps) ∙ apart_same (pairs c ps) ∙ sym (placement_pairs c ps))

  keeps_same : (l : Letter) (q : Pair) → keeps_z c l (both q) ≡ keeps c l q.first q.second
  keeps_same left q = refl
  keeps_same right q = refl
  keeps_same low q = refl
  keeps_same high q = refl
  keeps_same dot q = refl

  keeps_all_same : (ls : List Letter) (qs : List Pair) → keeps_all_z c ls (map both qs) ≡ keeps_all c ls qs
  unfolding keeps_all_z keeps_all
  keeps_all_same [] [] = refl
  keeps_all_same [] (q ∷ qs) = refl
  keeps_all_same (l ∷ ls) [] = refl
  keeps_all_same (l ∷ ls) (q ∷ qs) = ap (λ (t : Bool). t && keeps_all_z c ls (map both qs)) (keeps_same l q) ∙ ap (λ (t : Bool). keeps c l q.first q.second && t) (keeps_all_same ls qs)

  -- and keep letters exactly where they keep them as integers
  pub letters_same : (ls : List Letter) (ps : List Spot) → keeps_letters_z c ls (integers ps) ≡ keeps_letters c ls ps
  unfolding keeps_letters_z keeps_letters
  letters_same ls ps =
      ap (λ (t : Bool). t && keeps_all_z c ls (pairs_z c (integers ps))) (within_same ps)
      ∙ ap (λ (t : Bool). within c ps && t) (ap (keeps_all_z c ls) (pairs_are ps) ∙ keeps_all_same ls (pairs c ps))

-- ---- nothing in the die is lost

-- a corner without its signs
abbrev spot_of : Corner → Spot
spot_of p = record { x = nat_abs p.x; y = nat_abs p.y }

abbrev pub naturals : List Corner → List Spot
naturals ps = map spot_of ps

not_below : (k : ℤ) → le_z (pos 0) k ≡ true → k ≡ pos (nat_abs k)
not_below (pos n) e = refl
not_below (negsuc n) e = absurd (false≢true e)

corner_back : (p : Corner) → (le_z (pos 0) p.x && le_z (pos 0) p.y) ≡ true → p ≡ corner_of (spot_of p)
corner_back p e =
    ap (λ (k : ℤ). record { x = k; y = p.y }) (not_below p.x (and_left (le_z (pos 0) p.x) (le_z (pos 0) p.y) e))
    ∙ ap (λ (k : ℤ). record { x = pos (nat_abs p.x); y = k }) (not_below p.y (and_right (le_z (pos 0) p.x) (le_z (pos 0) p.y) e))

module _ (c : Chip) where
  in_die_back : (ms : List Mac) (ps : List Corner) → length ps ≡ length ms → all_of (in_die_z c) (zip_with rect_at ms ps) ≡ true → ps ≡ integers (naturals ps)
  unfolding all_of zip_with
  in_die_back [] [] l e = refl
  in_die_back [] (p ∷ ps) l e = absurd (omega arith)
  in_die_back (m ∷ ms) [] l e = absurd (omega arith)
  in_die_back (m ∷ ms) (p ∷ ps) l e =
      let a = rect_at m p in
      let here = and_left (in_die_z c a) (all_of (in_die_z c) (zip_with rect_at ms ps)) e in
      let low = and_left (le_z (pos 0) p.x && le_z (pos 0) p.y) _ here in
      ap (λ (q : Corner). q ∷ ps) (corner_back p low)
      ∙ ap (λ (s : List Corner). corner_of (spot_of p) ∷ s) (in_die_back ms ps (let z : length ps ≡ length ms = omega arith in z) (and_right (in_die_z c a) (all_of (in_die_z c) (zip_with rect_at ms ps)) e))

  within_natural : (ps : List Corner) → within_z c ps ≡ true → ps ≡ integers (naturals ps)
  unfolding within_z
  within_natural ps w =
      in_die_back c.macs ps (eqb-true (length ps) (length c.macs) (and_left (eqb (length ps) (length c.macs)) (all_of (in_die_z c) (rects c ps)) w)) (and_right (eqb (length ps) (length c.macs)) (all_of (in_die_z c) (rects c ps)) w)

  -- a placement that is legal over the integers is the image of one with natural corners, which is legal
  pub legal_natural : (ps : List Corner) → legal_z c ps ≡ true → ps ≡ integers (naturals ps)
  unfolding legal_z
  legal_natural ps e = within_natural ps (and_left (within_z c ps) (all_of (apart_z c) (pairs_z c ps)) e)

  pub natural_legal : (ps : List Corner) → legal_z c ps ≡ true → legal c (naturals ps) ≡ true
  natural_legal ps e = sym (legal_same c (naturals ps)) ∙ ap (legal_z c) (sym (legal_natural ps e)) ∙ e

  -- and so is one that keeps letters
  pub letters_natural : (ls : List Letter) (ps : List Corner) → keeps_letters_z c ls ps ≡ true → ps ≡ integers (naturals ps)
  unfolding keeps_letters_z
  letters_natural ls ps e = within_natural ps (and_left (within_z c ps) (keeps_all_z c ls (pairs_z c ps)) e)

  pub natural_letters : (ls : List Letter) (ps : List Corner) → keeps_letters_z c ls ps ≡ true → keeps_letters c ls (naturals ps) ≡ true
  natural_letters ls ps e = sym (letters_same c ls (naturals ps)) ∙ ap (keeps_letters_z c ls) (sym (letters_natural ls ps e)) ∙ e

-- ---- the boxes of nets, and how long

corner_at : (ps : List Spot) (i : ℕ) → get_or (integers ps) i zero_corner ≡ corner_of (get_or ps i blank_spot)
corner_at [] i = refl
corner_at (p ∷ ps) zero = refl
corner_at (p ∷ ps) (suc i) = corner_at ps i

origin_same : (ps : List Spot) (m : ℕ) → origin_z (integers ps) m ≡ corner_of (origin ps m)
origin_same ps zero = refl
origin_same ps (suc m) = corner_at ps m

pin_x_same : (ps : List Spot) → pin_xz (integers ps) ≡ pin_x ps
pin_x_same ps = fun_ext (λ (p : Pin). ap (λ (q : Corner). q.x +ℤ p.x) (origin_same ps p.m))

pin_y_same : (ps : List Spot) → pin_yz (integers ps) ≡ pin_y ps
pin_y_same ps = fun_ext (λ (p : Pin). ap (λ (q : Corner). q.y +ℤ p.y) (origin_same ps p.m))

pub box_same : (ps : List Spot) (t : Net) → net_box_z (integers ps) t ≡ net_box ps t
box_same ps t =
    ap (λ (f : Pin → ℤ). box_around (map f t.pins) (map (pin_yz (integers ps)) t.pins)) (pin_x_same ps)
    ∙ ap (λ (f : Pin → ℤ). box_around (map (pin_x ps) t.pins) (map f t.pins)) (pin_y_same ps)

nets_same : (ps : List Spot) (ts : List Net) → nets_length_z (integers ps) ts ≡ nets_length ps ts
unfolding nets_length_z nets_length net_length
nets_same ps [] = refl
nets_same ps (t ∷ ts) =
    ap (λ (b : NetBox). box_length t.weight b + nets_length_z (integers ps) ts) (box_same ps t)
    ∙ ap (λ (k : ℕ). box_length t.weight (net_box ps t) + k) (nets_same ps ts)

pub length_same : (c : Chip) (ps : List Spot) → wirelength_z c (integers ps) ≡ wirelength c ps
length_same c ps = nets_same ps c.nets

-- ---- the order

equal_same : (a b : ℕ) → (leb a b && leb b a) ≡ eqb a b
equal_same a b = by (dec_lt a b) (dec_lt b a)
  where
    by : Dec (a < b) → Dec (b < a) → (leb a b && leb b a) ≡ eqb a b
    by (yes l) d = rw (le-leb a b (omega arith), lt-leb b a l, ne_eqb a b (λ e. omega arith))
    by (no n) (yes l) = rw (lt-leb a b l, ne_eqb a b (λ e. omega arith))
    by (no n) (no m) = rw (le-leb a b (omega arith), le-leb b a (omega arith), eq-eqb a b (omega arith))

first_same : (a b : ℕ) (s t : Bool) → s ≡ t → smaller_first (pos a) (pos b) s ≡ (ltb a b || (eqb a b && t))
first_same a b s t e = ap (λ (u : Bool). ltb a b || (u && s)) (equal_same a b) ∙ ap (λ (u : Bool). ltb a b || (eqb a b && u)) e

pub before_same : (ps qs : List Spot) → before_z (integers ps) (integers qs) ≡ before ps qs
unfolding before_z keys first_smaller
before_same [] qs = refl
before_same (p ∷ ps) [] = refl
before_same (p ∷ ps) (q ∷ qs) = first_same p.x q.x _ _ (first_same p.y q.y _ _ (before_same ps qs))

-- ---- the earliest least placement over the naturals is that over the integers

module _ (c : Chip) (passesZ : List Corner → Bool) (passes : List Spot → Bool) (same : (ps : List Spot) → passesZ (integers ps) ≡ passes ps) (back : (qs : List Corner) → passesZ qs ≡ true → qs ≡ integers (naturals qs)) where
  passes_back : (qs : List Corner) → passesZ qs ≡ true → passes (naturals qs) ≡ true
  passes_back qs e = sym (same (naturals qs)) ∙ ap passesZ (sym (back qs e)) ∙ e

  abbrev long : (qs : List Corner) → passesZ qs ≡ true → wirelength_z c qs ≡ wirelength c (naturals qs)
  long qs e = ap (wirelength_z c) (back qs e) ∙ length_same c (naturals qs)

  pub earliest_integers : (l : ℕ) (ps : List Spot) → EarliestLeast c passes l ps → EarliestLeastZ c passesZ l (integers ps)
  earliest_integers l ps f =
      record {
        passed = same ps ∙ f.passed;
        long = f.long ∙ sym (length_same c ps);
        least = λ qs e. let a = f.least (naturals qs) (passes_back qs e) in let b = long qs e in omega arith;
        earliest = λ qs e o n.
            let q = back qs e in
            ap (before_z (integers ps)) q
            ∙ before_same ps (naturals qs)
            ∙ f.earliest (naturals qs) (passes_back qs e) (o ∙ long qs e) (λ u. n (q ∙ ap integers u));
      }
