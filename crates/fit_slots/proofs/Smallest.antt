-- The fit that is found by trying every placement in order has, of all placements as short that keep the letters, the smallest coordinate everywhere.
use Prim.Native.Nat.{ℕ, zero, suc, ◌+◌, ◌≤◌, min, max}
use mathlib.Core.Path.{◌≡◌, refl, sym, ap, subst, ◌∙◌}
use mathlib.Core.Bool.{true, false≢true}
use mathlib.Core.List.{List, [], ◌∷◌}
use mathlib.Core.Logic.{inl, inr}
use native.Mathlib.Omega.{arith}
use lib.ListN.{length, get_or, length-map}
use Rattle.model.specs.declared.Spot.{Spot}
use Rattle.model.specs.Meaning.{Chip, blank_spot}
use Rattle.text_grammar.proofs.Lacks.{and_right}
use Rattle.chip_text.specs.Valid.{Valid}
use Rattle.placement.specs.Legal.{within}
use Rattle.placement.specs.Length.{wirelength}
use Rattle.placement.specs.Order.{before}
use Rattle.placement.specs.Letters.{Letter}
use Rattle.placement.specs.Pairs.{keeps, Pair, pairs, keeps_all, keeps_letters}
use Rattle.placement.specs.Least.{found, fit_of}
use Rattle.placement.proofs.OrderLaws.{Compared, before_total, before_irreflexive}
use Rattle.placement.specs.Demand.{EarliestLeast}
use Rattle.placement.proofs.Demand.{fit_found}
use Rattle.placement.proofs.FitIs.{NowhereLarger, not_earlier, letters_long}
use Rattle.num_laws.proofs.Lattice.{Extremes}
use Rattle.axis_bounds.proofs.Lattice.{low_keeps, high_keeps, lengths_extremes}
use Rattle.fit_slots.specs.declared.Direction.{Direction}
use Rattle.fit_slots.specs.declared.Direction.TheVariants.{Horizontal as horizontal, Vertical as vertical}
use Rattle.fit_slots.specs.Slots.{couples}
use Rattle.fit_slots.specs.Axes.{axis_for, corner_on, corners_on}
use Rattle.fit_slots.proofs.Pairs.{pair_of, pairs_couples, value_corner}
use Rattle.fit_slots.proofs.Keeping.{keeps_splits, keeps_joins}
use Rattle.fit_slots.proofs.Lengths.{lengths_split}

-- ---- one letter for each pair

all_counted : (c : Chip) (ls : List Letter) (qs : List Pair) → keeps_all c ls qs ≡ true → length ls ≡ length qs
unfolding keeps_all
all_counted c [] [] h = refl
all_counted c [] (q ∷ qs) h = absurd (false≢true h)
all_counted c (l ∷ ls) [] h = absurd (false≢true h)
all_counted c (l ∷ ls) (q ∷ qs) h = ap {B = ℕ} (λ (n : ℕ). suc n) (all_counted c ls qs (and_right (keeps c l q.first q.second) (keeps_all c ls qs) h))

pub letters_counted : (c : Chip) (ls : List Letter) (ps : List Spot) → keeps_letters c ls ps ≡ true → length ls ≡ length (couples c)
unfolding keeps_letters
letters_counted c ls ps h =
    all_counted c ls (pairs c ps) (and_right (within c ps) (keeps_all c ls (pairs c ps)) h)
    ∙ ap {B = ℕ} (λ (qs : List Pair). length qs) (pairs_couples c ps (letters_long c ls ps h)) ∙ length-map (couples c) (pair_of ps)

-- ---- a placement from two, coordinate by coordinate

blend : (ℕ → ℕ → ℕ) → List Spot → List Spot → List Spot
blend f [] qs = []
blend f (p ∷ ps) [] = []
blend f (p ∷ ps) (q ∷ qs) = record { x = f p.x q.x; y = f p.y q.y } ∷ blend f ps qs

module _ (f : ℕ → ℕ → ℕ) (z : f 0 0 ≡ 0) where
  blend_long : (ps qs : List Spot) → length qs ≡ length ps → length (blend f ps qs) ≡ length ps
  unfolding blend
  blend_long [] qs e = refl
  blend_long (p ∷ ps) [] e = absurd (omega arith)
  blend_long (p ∷ ps) (q ∷ qs) e = ap {B = ℕ} (λ (n : ℕ). suc n) (blend_long ps qs (omega arith))

  blend_at : (d : Direction) (ps qs : List Spot) → length qs ≡ length ps → (i : ℕ) → get_or (corners_on d (blend f ps qs)) i 0 ≡ f (get_or (corners_on d ps) i 0) (get_or (corners_on d qs) i 0)
  unfolding blend
  blend_at d [] [] e i = sym z
  blend_at d [] (q ∷ qs) e i = absurd (omega arith)
  blend_at d (p ∷ ps) [] e i = absurd (omega arith)
  blend_at horizontal (p ∷ ps) (q ∷ qs) e zero = refl
  blend_at vertical (p ∷ ps) (q ∷ qs) e zero = refl
  blend_at d (p ∷ ps) (q ∷ qs) e (suc i) = blend_at d ps qs (omega arith) i

-- ---- the smaller and the larger coordinates of two placements

module _ (ps qs : List Spot) (e : length qs ≡ length ps) where
  -- the smaller ones
  abbrev ms : List Spot
  ms = blend (λ a b. min a b) ps qs

  -- the larger ones
  abbrev xs : List Spot
  xs = blend (λ a b. max a b) ps qs

  ms_long : length ms ≡ length ps
  ms_long = blend_long (λ a b. min a b) refl ps qs e

  xs_long : length xs ≡ length ps
  xs_long = blend_long (λ a b. max a b) refl ps qs e

  blends : (d : Direction) → Extremes (corners_on d ps) (corners_on d qs) (corners_on d ms) (corners_on d xs)
  blends d =
      let a = length-map ps (corner_on d) in let b = length-map qs (corner_on d) in let m = length-map ms (corner_on d) in let x = length-map xs (corner_on d) in
      let ml = ms_long in let xl = xs_long in
      record {
        other = omega arith;
        lesser = omega arith;
        greater = omega arith;
        low = blend_at (λ a b. min a b) refl d ps qs e;
        high = blend_at (λ a b. max a b) refl d ps qs e;
      }

  corner_min : (d : Direction) (i : ℕ) → corner_on d (get_or ms i blank_spot) ≡ min (corner_on d (get_or ps i blank_spot)) (corner_on d (get_or qs i blank_spot))
  corner_min d i =
      let a = value_corner d ps (suc i) in let b = value_corner d qs (suc i) in
      let m = value_corner d ms (suc i) in let l = (blends d).low i in
      omega arith

  low_nowhere_larger : NowhereLarger ms ps
  low_nowhere_larger = record { x = λ i. let h = corner_min horizontal i in omega arith; y = λ i. let h = corner_min vertical i in omega arith }

  same_nowhere_larger : ms ≡ ps → NowhereLarger ps qs
  same_nowhere_larger s = subst (λ (t : List Spot). NowhereLarger t qs) s (record { x = λ i. let h = corner_min horizontal i in omega arith; y = λ i. let h = corner_min vertical i in omega arith })

  module _ (c : Chip) (ls : List Letter) (kp : keeps_letters c ls ps ≡ true) (kq : keeps_letters c ls qs ≡ true) where
    -- they keep the letters, and are together no longer than the two
    ms_keep : keeps_letters c ls ms ≡ true
    ms_keep =
        keeps_joins c ls ms (letters_counted c ls ps kp) (ms_long ∙ letters_long c ls ps kp)
        (λ d. low_keeps _ _ _ _ (blends d) (axis_for d c ls) (keeps_splits c ls ps kp d) (keeps_splits c ls qs kq d))

    xs_keep : keeps_letters c ls xs ≡ true
    xs_keep =
        keeps_joins c ls xs (letters_counted c ls ps kp) (xs_long ∙ letters_long c ls ps kp)
        (λ d. high_keeps _ _ _ _ (blends d) (axis_for d c ls) (keeps_splits c ls ps kp d) (keeps_splits c ls qs kq d))

    together : Valid c → wirelength c ms + wirelength c xs ≤ wirelength c ps + wirelength c qs
    together v =
        let a = lengths_split c ls ps v in let b = lengths_split c ls qs v in let m = lengths_split c ls ms v in let x = lengths_split c ls xs v in
        let h = lengths_extremes _ _ _ _ (blends horizontal) (axis_for horizontal c ls) in
        let w = lengths_extremes _ _ _ _ (blends vertical) (axis_for vertical c ls) in
        omega arith

    -- let ps be the earliest of the least, and qs as long
    module _ (v : Valid c) (l : ℕ) (fit : EarliestLeast c (keeps_letters c ls) l ps) (w : wirelength c qs ≡ l) where
      -- neither the smaller nor the larger coordinates are shorter than l, and together they are no longer than l twice
      as_long : l ≡ wirelength c ms
      as_long =
          let a = fit.least ms ms_keep in
          let b = fit.least xs xs_keep in
          let t = together v in
          let g = fit.long in
          omega arith

      -- another placement would come later than ps, and the smaller coordinates do not
      no_other : (ms ≡ ps → ⊥) → ⊥
      no_other n = false≢true (sym (not_earlier ms ps low_nowhere_larger) ∙ fit.earliest ms ms_keep as_long n)

      same : Compared before ms ps → ms ≡ ps
      same (inl q) = q
      same (inr (inl q)) = absurd (no_other (λ r. false≢true (sym (before_irreflexive ps) ∙ ap (λ (t : List Spot). before t ps) (sym r) ∙ q)))
      same (inr (inr q)) = absurd (false≢true (sym (not_earlier ms ps low_nowhere_larger) ∙ q))

      earliest_smallest : NowhereLarger ps qs
      earliest_smallest = same_nowhere_larger (same (before_total ms ps ms_long))

-- ---- the fit

pub fit_smallest : (c : Chip) (ls : List Letter) → Valid c → (l : ℕ) (ps qs : List Spot) → fit_of c ls ≡ found l ps → keeps_letters c ls qs ≡ true → wirelength c qs ≡ l → NowhereLarger ps qs
fit_smallest c ls v l ps qs f k w =
    let fit = fit_found c ls l ps f in
    let e = letters_long c ls qs k ∙ sym (letters_long c ls ps fit.passed) in
    earliest_smallest ps qs e c ls fit.passed k v l fit w
