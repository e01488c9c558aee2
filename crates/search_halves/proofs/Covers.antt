-- What a result covers: it is not after a legal placement under letters, one by one. The fit is not after any; a half fit above the room that the best leaves shows that the best is not; a legal result that is not after any legal placement is the chip's.
use Prim.{tt}
use Prim.Native.Nat.{ℕ, ◌+◌, ◌≤◌, ◌<◌}
use mathlib.Core.Path.{◌≡◌, refl, sym, ap, subst, ◌∙◌}
use mathlib.Core.Bool.{Bool, true, false}
use mathlib.Core.List.{List}
use mathlib.Core.Logic.{◌⊎◌, inl, inr}
use native.Mathlib.Omega.{arith}
use lib.ListN.{length, set}
use Rattle.model.specs.declared.Spot.{Spot}
use Rattle.model.specs.Meaning.{Chip}
use Rattle.chip_text.specs.Valid.{Valid}
use Rattle.text_grammar.proofs.Lacks.{and_left, and_right, and_both}
use Rattle.placement.specs.Legal.{legal}
use Rattle.placement.specs.Length.{wirelength}
use Rattle.placement.specs.Order.{before}
use Rattle.placement.specs.Letters.{Letter}
use Rattle.placement.specs.Pairs.{pairs, keeps_letters}
use Rattle.placement.specs.Least.{Best, nothing, found, fit_of, earliest_least}
use Rattle.placement.proofs.Demand.{earliest_least_found, nothing_legal, nothing_fits}
use Rattle.axis_bounds.specs.Axis.{Keeps}
use Rattle.axis_bounds.specs.Half.{HalfOn, AboveOn}
use Rattle.fit_slots.specs.declared.Direction.{Direction}
use Rattle.fit_slots.specs.declared.Direction.TheVariants.{Horizontal as horizontal, Vertical as vertical}
use Rattle.fit_slots.specs.Axes.{axis_for, corners_on}
use Rattle.fit_slots.proofs.Keeping.{keeps_splits}
use Rattle.fit_slots.proofs.Lengths.{lengths_split}
use Rattle.search_branches.specs.Branch.{replaces, pick, better, in_branch}
use Rattle.search_branches.proofs.Replaces.{true_false, not_true_false, replaces_says}
use Rattle.search_branches.proofs.Betters.{Sized}
use Rattle.search_branches.proofs.Overlaps.{keeps_at, keeps_set}
use Rattle.search_branches.proofs.Unions.{Stands, passes_long, earliest_stands}
use Rattle.placement.proofs.Nearby.{legal_inside}
use Rattle.search_branches.proofs.Closing.{branch_inside, fit_sized, fit_first}
use Rattle.search_halves.specs.Half.{other_way}
use Rattle.search_halves.specs.Kept.{keeps_one, asks_at, opposite_at}
use Rattle.search_halves.specs.Result.{placed, NotAfter, Real}
use Rattle.search_halves.proofs.NotAfter.{after_trans, after_antisym}
use Rattle.search_halves.proofs.Opposite.{opposite, place_difference, past}

module _ (c : Chip) where
  abbrev n : ℕ
  n = length c.macs

  -- ---- one placement

  module _ (ls : List Letter) (ps : List Spot) (b : in_branch c ls ps ≡ true) where
    pub branch_legal : legal c ps ≡ true
    branch_legal = and_left (legal c ps) (keeps_letters c ls ps) b

    pub branch_keeps : keeps_letters c ls ps ≡ true
    branch_keeps = and_right (legal c ps) (keeps_letters c ls ps) b

    pub branch_sized : Sized n (placed c ps)
    branch_sized = passes_long c (in_branch c ls) (branch_inside c ls) ps b

    -- a result that is not after another one is not after what that one is not after
    pub covers_on : (a d : Best) → Sized n a → Sized n d → NotAfter a d → NotAfter d (placed c ps) → NotAfter a (placed c ps)
    covers_on a d sa sd e f = after_trans n a d (placed c ps) sa sd branch_sized e f

  -- longer, or not earlier where equally long
  longer_stands : (l : ℕ) (qs ps : List Spot) → l ≤ wirelength c ps → (l ≡ wirelength c ps → before ps qs ≡ false) → NotAfter (found l qs) (placed c ps)
  longer_stands l qs ps h f = ap (λ (t : Bool). pick t (placed c ps) (found l qs)) (not_true_false (replaces (wirelength c ps) ps l qs) (λ r. by (replaces_says (wirelength c ps) ps l qs r)))
    where
      by : (wirelength c ps < l) ⊎ ((wirelength c ps ≡ l) × (before ps qs ≡ true)) → ⊥
      by (inl g) = omega arith
      by (inr (e, g)) = true_false (before ps qs) g (f (sym e))

  -- ---- the fit

  module _ (ls : List Letter) (ps : List Spot) (b : in_branch c ls ps ≡ true) where
    -- the fit is not after a placement under its letters
    pub fit_covers : (l : ℕ) (qs : List Spot) → fit_of c ls ≡ found l qs → NotAfter (found l qs) (placed c ps)
    fit_covers l qs e = let f = fit_first c ls l qs ps e (branch_keeps ls ps b) in longer_stands l qs ps f.0 f.1

    -- so is a result that the fit does not replace
    pub closed_covers : (a : Best) → Sized n a → NotAfter a (fit_of c ls) → NotAfter a (placed c ps)
    closed_covers a sa e = by (fit_of c ls) refl (fit_sized c ls) e
      where
        by : (f : Best) → fit_of c ls ≡ f → Sized n f → NotAfter a f → NotAfter a (placed c ps)
        by nothing q sf g = absurd (nothing_fits c ls q ps (branch_keeps ls ps b))
        by (found l qs) q sf g = covers_on ls ps b a (found l qs) sa sf g (fit_covers l qs q)

    -- ---- beyond

    module _ (v : Valid c) (d : Direction) (m room : ℕ) (z : List ℕ) (other : HalfOn (axis_for (other_way d) c ls) m z) (above : AboveOn (axis_for d c ls) room) where
      -- every placement under the letters is longer than the room and the other half
      pub beyond_long : room + m < wirelength c ps
      beyond_long = by d other above
        where
          k : (e : Direction) → Keeps (axis_for e c ls) (corners_on e ps)
          k = keeps_splits c ls ps (branch_keeps ls ps b)

          by : (e : Direction) → HalfOn (axis_for (other_way e) c ls) m z → AboveOn (axis_for e c ls) room → room + m < wirelength c ps
          by horizontal o a = let s = lengths_split c ls ps v in let p = a.longer (corners_on horizontal ps) (k horizontal) in let q = o.least.least (corners_on vertical ps) (k vertical) in let w = o.long in omega arith
          by vertical o a = let s = lengths_split c ls ps v in let p = a.longer (corners_on vertical ps) (k vertical) in let q = o.least.least (corners_on horizontal ps) (k horizontal) in let w = o.long in omega arith

      pub beyond_covers : (l : ℕ) (qs : List Spot) → l ≤ room + m → NotAfter (found l qs) (placed c ps)
      beyond_covers l qs h = let q = beyond_long in longer_stands l qs ps (omega arith) (λ e. absurd (omega arith))

  -- ---- a letter of a pair

  module _ (ls : List Letter) (s : ℕ) (ps : List Spot) (b : in_branch c ls ps ≡ true) (m : Letter) where
    long : length ps ≡ n
    long = passes_long c (in_branch c ls) (branch_inside c ls) ps b

    -- a placement of the branch is in the branch of the letter and keeps its difference, or it keeps its opposite
    pub letter_or_opposite : ((in_branch c (set ls s m) ps ≡ true) × (keeps_one ps (asks_at c s m) ≡ true)) ⊎ (keeps_one ps (opposite_at c s m) ≡ true)
    letter_or_opposite = by (opposite c ps long s m)
      where
        by : (keeps_at c (past c ps) m (pairs c ps) s ≡ true) ⊎ (keeps_one ps (opposite_at c s m) ≡ true) → ((in_branch c (set ls s m) ps ≡ true) × (keeps_one ps (asks_at c s m) ≡ true)) ⊎ (keeps_one ps (opposite_at c s m) ≡ true)
        by (inl r) = inl (and_both (legal c ps) (keeps_letters c (set ls s m) ps) (branch_legal ls ps b) (keeps_set c ls ps (branch_keeps ls ps b) (past c ps) s m r), sym (place_difference c ps long s m) ∙ r)
        by (inr r) = inr r

  -- ---- the answer

  real_sized : (r : Best) → Real c r → Sized n r
  real_sized nothing h = tt
  real_sized (found l ps) h = passes_long c (legal c) (legal_inside c) ps h.0

  pub better_real : (a b : Best) → Real c a → Real c b → Real c (better a b)
  better_real a nothing p q = p
  better_real nothing (found l ps) p q = q
  better_real (found m qs) (found l ps) p q = by (replaces l ps m qs)
    where
      by : (t : Bool) → Real c (pick t (found l ps) (found m qs))
      by true = q
      by false = p

  -- a legal result that is not after the chip's earliest least placement is that placement
  pub real_answer : (r : Best) → Real c r → ((l : ℕ) (ps : List Spot) → earliest_least c ≡ found l ps → NotAfter r (placed c ps)) → r ≡ earliest_least c
  real_answer r h f = by (earliest_least c) refl r h f
    where
      by : (e : Best) → earliest_least c ≡ e → (r : Best) → Real c r → ((l : ℕ) (ps : List Spot) → e ≡ found l ps → NotAfter r (placed c ps)) → r ≡ e
      by nothing q nothing h f = refl
      by nothing q (found l ps) h f = absurd (nothing_legal c q ps h.0)
      by (found l ps) q r h f =
          let e = earliest_least_found c l ps q in
          let s = earliest_stands c (legal c) (legal_inside c) l ps e in
          after_antisym n r (found l ps) (real_sized r h) (passes_long c (legal c) (legal_inside c) ps e.passed)
          (subst (λ (t : ℕ). NotAfter r (found t ps)) (sym e.long) (f l ps refl)) (first s r h)
        where
          first : Stands c (legal c) l ps → (r : Best) → Real c r → NotAfter (found l ps) r
          first s nothing h = refl
          first s (found k qs) h = ap (λ (t : Bool). pick t (found k qs) (found l ps)) (ap (λ (t : ℕ). replaces t qs l ps) h.1 ∙ s.stands qs h.0)
