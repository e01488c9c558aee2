-- A child as a node: its letters, the bounds, the fit, the lengths of its halves, and the differences.
use Prim.Native.Nat.{ℕ, zero, suc, ◌+◌, ◌≤◌, ◌<◌}
use mathlib.Core.Path.{◌≡◌, refl, sym, ap, subst, ◌∙◌}
use mathlib.Core.Bool.{Bool, true, false}
use mathlib.Core.List.{List}
use native.Mathlib.Omega.{arith}
use lib.Dec.{ltb}
use lib.ListN.{length, set, length-set}
use borrow.Author.Tests.{ltb-true, ltb-false}
use Rattle.model.specs.declared.Chip.{Chip as HeldChip}
use Rattle.model.specs.declared.Spot.{Spot}
use Rattle.model.specs.declared.Record.{Record as HeldRecord}
use Rattle.model.specs.declared.Outcome.{Outcome}
use Rattle.model.specs.declared.Outcome.TheVariants as outcome
use Rattle.model.specs.Meaning.{Chip, chip_of, outcome_of, record_of}
use Rattle.chip_text.specs.Passed.{Passed}
use Rattle.placement.specs.Letters.{Letter, dot}
use Rattle.placement.specs.Least.{Best, nothing, found, fit_of}
use Rattle.axis_bounds.specs.declared.Slot.{Slot}
use Rattle.axis_bounds.specs.Axis.{Axis, length_on}
use Rattle.axis_bounds.specs.Half.{HalfOn}
use Rattle.fit_slots.specs.declared.Direction.{Direction}
use Rattle.fit_slots.specs.declared.Direction.TheVariants.{Horizontal as horizontal, Vertical as vertical}
use Rattle.fit_slots.specs.Slots.{asked, couples}
use Rattle.fit_slots.specs.Axes.{axis_for, corners_on}
use Rattle.fit_slots.proofs.Counting.{letters_count}
use Rattle.search_halves.specs.Half.{half}
use Rattle.search_halves.proofs.Halving.{half_one, fit_half, fit_sum, other_axis}
use Rattle.search_kept.specs.Differences.{limited}
use Rattle.search_tables.specs.Tables.{Arced, with_bound}
use Rattle.search_tables.proofs.LetterBounds.{arced_letter, arced_other}
use Rattle.search_best.specs.Best.{result_of, best_of}
use Rattle.search_node.specs.Node.{length_of, FitHeld, NodeOk, Open}
use Rattle.search_node.specs.Letters.{byte_of, letters_in, Lettered, letter_at, way_at, Asks}
use Rattle.search_left.specs.Left.{child_list, child_at}
use Rattle.search_letters.specs.Turns.{LeftOk}
use Rattle.search.specs.Search.{NextX, NextY, NextOf, NextOk}
use Rattle.search_node.specs.declared.Node.{Node}
use Rattle.search_left.specs.declared.Left.{Left}
use Rattle.search_node.proofs.Lettering.{letters_set, letters_long, lettered_set}
use Rattle.search_left.proofs.Differing.{across_not_up, adds_across, adds_up}
use Rattle.search_node.proofs.Asking.{way_across, way_up, way_of_law}

-- ---- what a child takes

module _ (node : Node) (t : Left) (s i : ℕ) (u : Slot) (f : HeldRecord) (r : Node) (e : f ≡ child_at (child_list t) i) where
  pub of_across : i < 2 → NextX node t f s i u r → NextOf node t s i u r
  of_across h x = record { across = λ _. rw e at x; up = λ g. absurd (omega arith) }

  pub of_up : 2 ≤ i → NextY node t f s i u r → NextOf node t s i u r
  of_up h y = record { across = λ g. absurd (omega arith); up = λ _. rw e at y }

-- ---- the length of a record's placement

found_length : (r : HeldRecord) (l : ℕ) (ps : List Spot) → best_of r ≡ found l ps → length_of r.outcome ≡ l
unfolding best_of record_of
found_length r l ps e = by r.outcome e
  where
    by : (o : Outcome) → result_of (outcome_of o r.spots) ≡ found l ps → length_of o ≡ l
    by outcome.None q = let z : ◌≡◌ {A = ℕ} 0 1 = cc in absurd (omega arith)
    by (outcome.Least m n) q = cc

-- the letter asks nothing in the other direction
other_nothing : (i : ℕ) → i < 4 → (d : Direction) → (way_at i ≡ d → ⊥) → asked d (letter_at i) ≡ asked d dot
other_nothing zero h horizontal n = absurd (n refl)
other_nothing zero h vertical n = refl
other_nothing (suc zero) h horizontal n = absurd (n refl)
other_nothing (suc zero) h vertical n = refl
other_nothing (suc (suc zero)) h horizontal n = refl
other_nothing (suc (suc zero)) h vertical n = absurd (n refl)
other_nothing (suc (suc (suc zero))) h horizontal n = refl
other_nothing (suc (suc (suc zero))) h vertical n = absurd (n refl)
other_nothing (suc (suc (suc (suc i)))) h d n = absurd (omega arith)

module _ (c : HeldChip) (p : ℕ) (node : Node) (t : Left) (b : HeldRecord) (s i : ℕ) (u : Slot) (ok : Passed c) (at : NodeOk c p node) (free : Open c p node s) (asks : Asks c s i u) (okay : LeftOk c p node s 4 t b) (some : best_of (child_at (child_list t) i) ≡ nothing → ⊥) where
  abbrev C : Chip
  C = chip_of c

  abbrev ls : List Letter
  ls = letters_in node.letters p

  abbrev new : List ℕ
  new = set node.letters s (byte_of i)

  abbrev ls' : List Letter
  ls' = letters_in new p

  is : ls' ≡ set ls s (letter_at i)
  is = letters_set node.letters p s (byte_of i) free.place

  long : length ls ≡ p
  long = let f = at.letters.few in let w = at.whole in letters_long node.letters p (omega arith)

  enough : length ls ≡ length (couples C)
  enough = long ∙ (at.letters.count ∙ sym (letters_count C))

  -- the bounds of the letter's direction, and of the other
  arced : (d : Direction) (arcs : List ℕ) → way_at i ≡ d → Arced d C ls arcs → Arced d C ls' (with_bound arcs u)
  arced d arcs e a = subst (λ (x : List Letter). Arced d C x (with_bound arcs u)) (sym is)
      (subst (λ (x : Slot). Arced d C (set ls s (letter_at i)) (with_bound arcs x)) (sym asks.slot)
      (let q = free.place in let l = long in arced_letter d C ok.valid ls enough s (letter_at i) (omega arith) free.undecided arcs a (way_of_law i asks.four ∙ e)))

  kept_arcs : (d : Direction) (arcs : List ℕ) → (way_at i ≡ d → ⊥) → Arced d C ls arcs → Arced d C ls' arcs
  kept_arcs d arcs n a = subst (λ (x : List Letter). Arced d C x arcs) (sym is) (arced_other d C ls s (letter_at i) arcs (other_nothing i asks.four d n) free.undecided a)

  -- the child's fit
  abbrev f : HeldRecord
  f = child_at (child_list t) i

  fit : FitHeld c new p f
  fit = record { is = okay.fit i asks.four some; counted = okay.counted i asks.four }

  lettered : Lettered c new p
  lettered = lettered_set c node.letters p s i at.letters free.place asks.four

  whole : length new ≡ 120
  whole = length-set node.letters s (byte_of i) ∙ at.whole

  -- the fits of the node and of the child, and the length of a half that the letter does not touch
  module _ (l : ℕ) (ps : List Spot) (e : best_of f ≡ found l ps) (k : ℕ) (qs : List Spot) (g : best_of node.here ≡ found k qs) where
    child_fit : fit_of C ls' ≡ found l ps
    child_fit = sym fit.is ∙ e

    node_fit : fit_of C ls ≡ found k qs
    node_fit = sym at.fit.is ∙ g

    same_half : (d : Direction) → (way_at i ≡ d → ⊥) → length_on (axis_for d C ls) (corners_on d qs) ≡ length_on (axis_for d C ls') (corners_on d ps)
    same_half d n = by (half_one (axis_for d C ls') (half (length_on (axis_for d C ls) (corners_on d qs)) (corners_on d qs)) (half (length_on (axis_for d C ls') (corners_on d ps)) (corners_on d ps)) old (fit_half C ls' ok.valid l ps child_fit d))
      where
        axis : axis_for d C ls' ≡ axis_for d C ls
        axis = ap (axis_for d C) is ∙ other_axis d C ls s (letter_at i) (other_nothing i asks.four d n ∙ ap (asked d) (sym free.undecided))

        old : HalfOn (axis_for d C ls') (length_on (axis_for d C ls) (corners_on d qs)) (corners_on d qs)
        old = subst (λ (a : Axis). HalfOn a (length_on (axis_for d C ls) (corners_on d qs)) (corners_on d qs)) (sym axis) (fit_half C ls ok.valid k qs node_fit d)

        by : {l m : ℕ} {y z : List ℕ} → half l y ≡ half m z → l ≡ m
        by q = cc

  -- the length of a half that the letter does not touch, as the node has it
  untouched : (d : Direction) → (way_at i ≡ d → ⊥) → (m : ℕ) → ((k : ℕ) (qs : List Spot) → best_of node.here ≡ found k qs → m ≡ length_on (axis_for d C ls) (corners_on d qs)) → (l : ℕ) (ps : List Spot) → best_of f ≡ found l ps → m ≡ length_on (axis_for d C ls') (corners_on d ps)
  untouched d n m h l ps e = by (best_of node.here) refl
    where
      by : (a : Best) → best_of node.here ≡ a → m ≡ length_on (axis_for d C ls') (corners_on d ps)
      by nothing q = absurd (free.found q)
      by (found k qs) q = h k qs q ∙ same_half l ps e k qs q d n

  child_sum : (l : ℕ) (ps : List Spot) → best_of f ≡ found l ps → l ≡ length_on (axis_for horizontal C ls') (corners_on horizontal ps) + length_on (axis_for vertical C ls') (corners_on vertical ps)
  child_sum l ps e = fit_sum C ls' ok.valid l ps (sym fit.is ∙ e)

  module _ (r : Node) (g : HeldRecord) (e : g ≡ child_at (child_list t) i) where
    child_length : (l : ℕ) (ps : List Spot) → best_of f ≡ found l ps → length_of g.outcome ≡ l
    child_length l ps q = ap (λ (y : HeldRecord). length_of y.outcome) e ∙ found_length f l ps q

    pub next_across : i < 2 → NextX node t g s i u r → NextOk c p node t s i u r
    next_across h x = record {
      node = record {
        letters = rw x.letters lettered;
        whole = ap length x.letters ∙ whole;
        across = rw (x.letters, x.ax) (arced horizontal node.ax (sym (way_across i h)) at.across);
        up = rw (x.letters, x.ay) (kept_arcs vertical node.ay not_up at.up);
        fit = rw (x.letters, x.here, e) fit;
        halves = rw (x.letters, x.here, e) (record { x = own; y = other });
      };
      letters = x.letters;
      adds = adds_across t.kx t.ky (limited u) i h r.kx r.ky x.kx x.ky;
    }
      where
        not_up : way_at i ≡ vertical → ⊥
        not_up q = across_not_up (way_across i h ∙ q)

        other : (l : ℕ) (ps : List Spot) → best_of f ≡ found l ps → r.ly ≡ length_on (axis_for vertical C ls') (corners_on vertical ps)
        other l ps q = x.ly ∙ untouched vertical not_up node.ly at.halves.y l ps q

        own : (l : ℕ) (ps : List Spot) → best_of f ≡ found l ps → r.lx ≡ length_on (axis_for horizontal C ls') (corners_on horizontal ps)
        own l ps q = let a = child_sum l ps q in let b = other l ps q in let d = child_length l ps q in let m = x.ly in let z = x.lx in omega arith

    pub next_up : 2 ≤ i → NextY node t g s i u r → NextOk c p node t s i u r
    next_up h y = record {
      node = record {
        letters = rw y.letters lettered;
        whole = ap length y.letters ∙ whole;
        across = rw (y.letters, y.ax) (kept_arcs horizontal node.ax not_across at.across);
        up = rw (y.letters, y.ay) (arced vertical node.ay (sym (way_up i h)) at.up);
        fit = rw (y.letters, y.here, e) fit;
        halves = rw (y.letters, y.here, e) (record { x = other; y = own });
      };
      letters = y.letters;
      adds = adds_up t.kx t.ky (limited u) i h r.kx r.ky y.kx y.ky;
    }
      where
        not_across : way_at i ≡ horizontal → ⊥
        not_across q = across_not_up (sym (way_up i h ∙ q))

        other : (l : ℕ) (ps : List Spot) → best_of f ≡ found l ps → r.lx ≡ length_on (axis_for horizontal C ls') (corners_on horizontal ps)
        other l ps q = y.lx ∙ untouched horizontal not_across node.lx at.halves.x l ps q

        own : (l : ℕ) (ps : List Spot) → best_of f ≡ found l ps → r.ly ≡ length_on (axis_for vertical C ls') (corners_on vertical ps)
        own l ps q = let a = child_sum l ps q in let b = other l ps q in let d = child_length l ps q in let m = y.lx in let z = y.ly in omega arith

  pub next_ok : (r : Node) → NextOf node t s i u r → NextOk c p node t s i u r
  next_ok r n = by (ltb i 2) refl
    where
      by : (b : Bool) → ltb i 2 ≡ b → NextOk c p node t s i u r
      by true e = let h = ltb-true i 2 e in next_across r f refl h (n.across h)
      by false e = let h = ltb-false i 2 e in next_up r f refl h (n.up h)
