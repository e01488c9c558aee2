-- The fit of letters is the two half fits: it is found exactly when both are, its coordinates are theirs, its length is their sum. A letter of one direction leaves the other half as it is.
use Prim.Native.Nat.{ℕ, zero, suc, ◌+◌, ◌≤◌}
use mathlib.Core.Path.{◌≡◌, refl, sym, ap, subst, ◌∙◌}
use mathlib.Core.Bool.{true}
use mathlib.Core.List.{List, [], ◌∷◌}
use native.Mathlib.Nat.{le_antisymm}
use native.Mathlib.Omega.{arith}
use lib.ListN.{length, get_or, set, length-map}
use Rattle.model.specs.declared.Spot.{Spot}
use Rattle.model.specs.Meaning.{Chip}
use Rattle.chip_text.specs.Valid.{Valid}
use Rattle.placement.specs.Length.{wirelength}
use Rattle.placement.specs.Letters.{Letter, dot}
use Rattle.placement.specs.Pairs.{keeps_letters}
use Rattle.placement.specs.Least.{found, fit_of}
use Rattle.placement.proofs.Demand.{fit_found}
use Rattle.placement.proofs.FitIs.{letters_long}
use Rattle.axis_bounds.specs.Axis.{Axis, Keeps, length_on}
use Rattle.axis_bounds.specs.Answer.{LeastOn}
use Rattle.fit_slots.specs.declared.Direction.{Direction}
use Rattle.fit_slots.specs.declared.Direction.TheVariants.{Horizontal as horizontal, Vertical as vertical}
use Rattle.fit_slots.specs.Slots.{mac_side, asked, Couple, couples}
use Rattle.fit_slots.specs.Axes.{held_slots, axis_for, corner_on, corners_on}
use Rattle.fit_slots.proofs.Keeping.{keeps_splits, keeps_joins}
use Rattle.fit_slots.proofs.Lengths.{lengths_split}
use Rattle.fit_slots.proofs.Pairs.{value_corner}
use Rattle.fit_slots.proofs.Smallest.{letters_counted, fit_smallest}
use Rattle.fit_slots.proofs.Fitting.{both_fit, neither_fits}
use Rattle.axis_bounds.specs.Half.{HalfOn}
use Rattle.model.specs.Corners.{spots_of}
use Rattle.model.proofs.Corners.{spots_length, spots_x, spots_y}
use Rattle.search_halves.specs.Half.{Half, no_half, half, IsHalf, joined}

-- ---- corners and coordinates

same_numbers : (s t : List ℕ) → length s ≡ length t → ((i : ℕ) → get_or s i 0 ≡ get_or t i 0) → s ≡ t
same_numbers [] [] e h = refl
same_numbers [] (b ∷ t) e h = absurd (omega arith)
same_numbers (a ∷ s) [] e h = absurd (omega arith)
same_numbers (a ∷ s) (b ∷ t) e h = let p : a ≡ b = h 0 in let q = same_numbers s t (omega arith) (λ i. h (suc i)) in rw (p, q)

-- ---- an axis has one half fit

module _ (a : Axis) where
  pub half_one : (h k : Half) → IsHalf a h → IsHalf a k → h ≡ k
  half_one no_half no_half p q = refl
  half_one no_half (half m y) p q = absurd (p y q.least.keeps)
  half_one (half l z) no_half p q = absurd (q z p.least.keeps)
  half_one (half l z) (half m y) p q =
      let u = p.least.least y q.least.keeps in let v = q.least.least z p.least.keeps in
      let e : length_on a y ≡ length_on a z = le_antisymm v u in
      let s : z ≡ y = same_numbers z y (p.least.keeps.long ∙ sym q.least.keeps.long) (λ i. le_antisymm (p.least.smallest y q.least.keeps e i) (q.least.smallest z p.least.keeps (sym e) i)) in
      let t : l ≡ m = p.long ∙ (sym e ∙ sym q.long) in
      rw (s, t)

-- ---- two half fits are the fit

module _ (c : Chip) (ls : List Letter) (v : Valid c) where
  abbrev X : Axis
  X = axis_for horizontal c ls

  abbrev Y : Axis
  Y = axis_for vertical c ls

  axis_sizes : (d : Direction) (z : List ℕ) → Keeps (axis_for d c ls) z → length z ≡ length c.macs
  unfolding axis_for
  axis_sizes d z k = k.long ∙ length-map c.macs (mac_side d)

  module _ (el : length ls ≡ length (couples c)) where
    both : (l : ℕ) (xs : List ℕ) (m : ℕ) (ys : List ℕ) → HalfOn X l xs → HalfOn Y m ys → fit_of c ls ≡ found (l + m) (spots_of xs ys)
    both l xs m ys p q =
        let ex = axis_sizes horizontal xs p.least.keeps in let ey = axis_sizes vertical ys q.least.keeps in
        let e : length ys ≡ length xs = ey ∙ sym ex in
        let f = both_fit c ls v el (spots_of xs ys) (spots_length xs ys (sym e) ∙ ex) (each e) in
        f ∙ ap (λ (n : ℕ). found n (spots_of xs ys))
        (let a : length_on X (corners_on horizontal (spots_of xs ys)) ≡ length_on X xs = ap (length_on X) (spots_x xs ys (sym e)) in
        let b : length_on Y (corners_on vertical (spots_of xs ys)) ≡ length_on Y ys = ap (length_on Y) (spots_y xs ys (sym e)) in
        let g = p.long in let h = q.long in omega arith)
      where
        each : length ys ≡ length xs → (d : Direction) → LeastOn (axis_for d c ls) (corners_on d (spots_of xs ys))
        each e horizontal = subst (LeastOn X) (sym (spots_x xs ys (sym e))) p.least
        each e vertical = subst (LeastOn Y) (sym (spots_y xs ys (sym e))) q.least

    -- the fit is the two half fits, joined
    pub halves : (h k : Half) → IsHalf X h → IsHalf Y k → fit_of c ls ≡ joined h k
    halves no_half k p q = neither_fits c ls horizontal p
    halves (half l xs) no_half p q = neither_fits c ls vertical q
    halves (half l xs) (half m ys) p q = both l xs m ys p q

  -- ---- the fit has two half fits

  module _ (l : ℕ) (ps : List Spot) (f : fit_of c ls ≡ found l ps) where
    kept : keeps_letters c ls ps ≡ true
    kept = (fit_found c ls l ps f).passed

    counted : length ls ≡ length (couples c)
    counted = letters_counted c ls ps kept

    long : (d : Direction) → length (corners_on d ps) ≡ length c.macs
    long d = length-map ps (corner_on d) ∙ letters_long c ls ps kept

    -- ps with other coordinates in one direction
    abbrev put : Direction → List ℕ → List Spot
    put horizontal z = spots_of z (corners_on vertical ps)
    put vertical z = spots_of (corners_on horizontal ps) z

    put_long : (d : Direction) (z : List ℕ) → length z ≡ length c.macs → length (put d z) ≡ length c.macs
    put_long horizontal z e = spots_length z (corners_on vertical ps) (e ∙ sym (long vertical)) ∙ e
    put_long vertical z e = spots_length (corners_on horizontal ps) z (long horizontal ∙ sym e) ∙ long horizontal

    module _ (z : List ℕ) (e : length z ≡ length c.macs) where
      x_x : corners_on horizontal (put horizontal z) ≡ z
      x_x = spots_x z (corners_on vertical ps) (e ∙ sym (long vertical))

      x_y : corners_on vertical (put horizontal z) ≡ corners_on vertical ps
      x_y = spots_y z (corners_on vertical ps) (e ∙ sym (long vertical))

      y_x : corners_on horizontal (put vertical z) ≡ corners_on horizontal ps
      y_x = spots_x (corners_on horizontal ps) z (long horizontal ∙ sym e)

      y_y : corners_on vertical (put vertical z) ≡ z
      y_y = spots_y (corners_on horizontal ps) z (long horizontal ∙ sym e)

    put_at : (d : Direction) (z : List ℕ) → length z ≡ length c.macs → corners_on d (put d z) ≡ z
    put_at horizontal z e = x_x z e
    put_at vertical z e = y_y z e

    module _ (z : List ℕ) where
      x_keeps : Keeps X z → keeps_letters c ls (put horizontal z) ≡ true
      x_keeps k = let e = axis_sizes horizontal z k in keeps_joins c ls (put horizontal z) counted (put_long horizontal z e) (each e)
        where
          each : length z ≡ length c.macs → (d : Direction) → Keeps (axis_for d c ls) (corners_on d (put horizontal z))
          each e horizontal = subst (Keeps X) (sym (x_x z e)) k
          each e vertical = subst (Keeps Y) (sym (x_y z e)) (keeps_splits c ls ps kept vertical)

      y_keeps : Keeps Y z → keeps_letters c ls (put vertical z) ≡ true
      y_keeps k = let e = axis_sizes vertical z k in keeps_joins c ls (put vertical z) counted (put_long vertical z e) (each e)
        where
          each : length z ≡ length c.macs → (d : Direction) → Keeps (axis_for d c ls) (corners_on d (put vertical z))
          each e horizontal = subst (Keeps X) (sym (y_x z e)) (keeps_splits c ls ps kept horizontal)
          each e vertical = subst (Keeps Y) (sym (y_y z e)) k

    put_keeps : (d : Direction) (z : List ℕ) → Keeps (axis_for d c ls) z → keeps_letters c ls (put d z) ≡ true
    put_keeps horizontal z k = x_keeps z k
    put_keeps vertical z k = y_keeps z k

    -- the lengths of ps and of the other placement differ by those on the axis
    put_length : (d : Direction) (z : List ℕ) → length z ≡ length c.macs → wirelength c (put d z) + length_on (axis_for d c ls) (corners_on d ps) ≡ l + length_on (axis_for d c ls) z
    put_length horizontal z e =
        let p = lengths_split c ls ps v in let q = lengths_split c ls (put horizontal z) v in
        let a : length_on X (corners_on horizontal (put horizontal z)) ≡ length_on X z = ap (length_on X) (x_x z e) in
        let b : length_on Y (corners_on vertical (put horizontal z)) ≡ length_on Y (corners_on vertical ps) = ap (length_on Y) (x_y z e) in
        let g = (fit_found c ls l ps f).long in
        omega arith
    put_length vertical z e =
        let p = lengths_split c ls ps v in let q = lengths_split c ls (put vertical z) v in
        let a : length_on X (corners_on horizontal (put vertical z)) ≡ length_on X (corners_on horizontal ps) = ap (length_on X) (y_x z e) in
        let b : length_on Y (corners_on vertical (put vertical z)) ≡ length_on Y z = ap (length_on Y) (y_y z e) in
        let g = (fit_found c ls l ps f).long in
        omega arith

    smaller_on : (d : Direction) (z : List ℕ) (qs : List Spot) → corners_on d qs ≡ z → ((i : ℕ) → corner_on d (get_or ps i (record { x = 0; y = 0 })) ≤ corner_on d (get_or qs i (record { x = 0; y = 0 }))) → (i : ℕ) → get_or (corners_on d ps) i 0 ≤ get_or z i 0
    smaller_on d z qs e h i =
        let a = value_corner d ps (suc i) in let b = value_corner d qs (suc i) in
        let g : get_or (corners_on d qs) i 0 ≡ get_or z i 0 = ap (λ (s : List ℕ). get_or s i 0) e in
        let k = h i in
        omega arith

    -- each direction of a fit is the half fit of that direction
    pub fit_half : (d : Direction) → HalfOn (axis_for d c ls) (length_on (axis_for d c ls) (corners_on d ps)) (corners_on d ps)
    fit_half d =
        record {
          least = record {
            keeps = keeps_splits c ls ps kept d;
            least = λ y k. let a = (fit_found c ls l ps f).least (put d y) (put_keeps d y k) in let b = put_length d y (axis_sizes d y k) in omega arith;
            smallest = λ y k e. let b = put_length d y (axis_sizes d y k) in smaller_on d y (put d y) (put_at d y (axis_sizes d y k)) (nowhere d y k (omega arith));
          };
          long = refl;
        }
      where
        nowhere : (d : Direction) (y : List ℕ) → Keeps (axis_for d c ls) y → wirelength c (put d y) ≡ l → (i : ℕ) → corner_on d (get_or ps i (record { x = 0; y = 0 })) ≤ corner_on d (get_or (put d y) i (record { x = 0; y = 0 }))
        nowhere horizontal y k w i = (fit_smallest c ls v l ps (put horizontal y) f (put_keeps horizontal y k) w).x i
        nowhere vertical y k w i = (fit_smallest c ls v l ps (put vertical y) f (put_keeps vertical y k) w).y i

    -- and its length is the sum of theirs
    pub fit_sum : l ≡ length_on X (corners_on horizontal ps) + length_on Y (corners_on vertical ps)
    fit_sum = (fit_found c ls l ps f).long ∙ lengths_split c ls ps v

-- ---- a letter of one direction leaves the other half as it is

-- letters that ask the same of a direction have the same slots there
slots_set : (d : Direction) (ls : List Letter) (qs : List Couple) (s : ℕ) (m : Letter) → asked d m ≡ asked d (get_or ls s dot) → held_slots d (set ls s m) qs ≡ held_slots d ls qs
unfolding held_slots
slots_set d [] qs s m e = refl
slots_set d (l ∷ ls) [] zero m e = refl
slots_set d (l ∷ ls) [] (suc s) m e = refl
slots_set d (l ∷ ls) (q ∷ qs) zero m e = rw e
slots_set d (l ∷ ls) (q ∷ qs) (suc s) m e = rw (slots_set d ls qs s m e)

pub other_axis : (d : Direction) (c : Chip) (ls : List Letter) (s : ℕ) (m : Letter) → asked d m ≡ asked d (get_or ls s dot) → axis_for d c (set ls s m) ≡ axis_for d c ls
unfolding axis_for
other_axis d c ls s m e = rw (slots_set d ls (couples c) s m e)
