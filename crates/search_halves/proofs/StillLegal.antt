-- Two macros of one size exchanged: a legal placement stays legal.
use Prim.Native.Nat.{ℕ, zero, suc, ◌<◌}
use mathlib.Core.Path.{◌≡◌, refl, sym, ap, subst, ◌∙◌}
use mathlib.Core.Bool.{true, ◌&&◌}
use mathlib.Core.List.{List, [], ◌∷◌}
use native.Mathlib.Decide.{dec_lt, ℕ_discrete}
use native.Mathlib.Omega.{arith}
use lib.Dec.{eqb}
use lib.ListN.{length, get_or}
use borrow.Author.Tests.{eq-eqb}
use Rattle.num_text.specs.Number.{all_of}
use Rattle.model.specs.declared.Mac.{Mac}
use Rattle.model.specs.declared.Spot.{Spot}
use Rattle.model.specs.Meaning.{Chip, blank_mac, blank_spot}
use Rattle.text_grammar.proofs.Lacks.{and_left, and_right, and_both}
use Rattle.geometry.specs.declared.Box.{Box}
use Rattle.geometry.specs.Box.{box_at, blank_box, clear_of, apart, in_die}
use Rattle.geometry.proofs.Swap.{apart_swap}
use Rattle.placement.proofs.Boxes.{boxes_long, boxes_at_law}
use Rattle.placement.specs.Legal.{boxes, fix_boxes, all_apart, within, legal}
use Rattle.placement.specs.Integers.{gap_of}
use Rattle.search_halves.specs.Exchange.{turned, exchanged}
use Rattle.search_halves.proofs.Exchanging.{by_turned, turned_below, turned_apart, exchanged_long, exchanged_at}

-- ---- boxes by their numbers

abbrev box_no : List Box → ℕ → Box
box_no s k = get_or s k blank_box

module _ (c : Chip) where
  die_at : (s : List Box) → all_of (in_die c.die) s ≡ true → (k : ℕ) → k < length s → in_die c.die (box_no s k) ≡ true
  unfolding all_of
  die_at [] h k l = absurd (omega arith)
  die_at (a ∷ s) h zero l = and_left (in_die c.die a) (all_of (in_die c.die) s) h
  die_at (a ∷ s) h (suc k) l = die_at s (and_right (in_die c.die a) (all_of (in_die c.die) s) h) k (omega arith)

  die_all : (s : List Box) → ((k : ℕ) → k < length s → in_die c.die (box_no s k) ≡ true) → all_of (in_die c.die) s ≡ true
  unfolding all_of
  die_all [] h = refl
  die_all (a ∷ s) h = and_both (in_die c.die a) (all_of (in_die c.die) s) (h 0 (omega arith)) (die_all s (λ k l. h (suc k) (omega arith)))

  from_at : (a : Box) (s : List Box) → clear_of (gap_of c) a s ≡ true → (k : ℕ) → k < length s → apart (gap_of c) a (box_no s k) ≡ true
  unfolding clear_of
  from_at a [] h k l = absurd (omega arith)
  from_at a (b ∷ s) h zero l = and_left (apart (gap_of c) a b) (clear_of (gap_of c) a s) h
  from_at a (b ∷ s) h (suc k) l = from_at a s (and_right (apart (gap_of c) a b) (clear_of (gap_of c) a s) h) k (omega arith)

  from_all : (a : Box) (s : List Box) → ((k : ℕ) → k < length s → apart (gap_of c) a (box_no s k) ≡ true) → clear_of (gap_of c) a s ≡ true
  unfolding clear_of
  from_all a [] h = refl
  from_all a (b ∷ s) h = and_both (apart (gap_of c) a b) (clear_of (gap_of c) a s) (h 0 (omega arith)) (from_all a s (λ k l. h (suc k) (omega arith)))

  -- each two, and each with the fixes
  pub record EachApart (s : List Box) : Type 0 where
    pub two : (k l : ℕ) → k < l → l < length s → apart (gap_of c) (box_no s k) (box_no s l) ≡ true
    pub fix : (k : ℕ) → k < length s → clear_of (gap_of c) (box_no s k) (fix_boxes c) ≡ true

  pub apart_each : (s : List Box) → all_apart c s ≡ true → EachApart s
  unfolding all_apart
  apart_each [] h = record { two = λ k l p q. absurd (omega arith); fix = λ k p. absurd (omega arith) }
  apart_each (a ∷ s) h = record { two = both (apart_each s rest); fix = fixes (apart_each s rest) }
    where
      front : clear_of (gap_of c) a s ≡ true
      front = and_left (clear_of (gap_of c) a s) (clear_of (gap_of c) a (fix_boxes c) && all_apart c s) h

      rest : all_apart c s ≡ true
      rest = and_right (clear_of (gap_of c) a (fix_boxes c)) (all_apart c s) (and_right (clear_of (gap_of c) a s) (clear_of (gap_of c) a (fix_boxes c) && all_apart c s) h)

      both : EachApart s → (k l : ℕ) → k < l → l < length (a ∷ s) → apart (gap_of c) (box_no (a ∷ s) k) (box_no (a ∷ s) l) ≡ true
      both ih k zero p q = absurd (omega arith)
      both ih zero (suc l) p q = from_at a s front l (omega arith)
      both ih (suc k) (suc l) p q = ih.two k l (omega arith) (omega arith)

      fixes : EachApart s → (k : ℕ) → k < length (a ∷ s) → clear_of (gap_of c) (box_no (a ∷ s) k) (fix_boxes c) ≡ true
      fixes ih zero q = and_left (clear_of (gap_of c) a (fix_boxes c)) (all_apart c s) (and_right (clear_of (gap_of c) a s) (clear_of (gap_of c) a (fix_boxes c) && all_apart c s) h)
      fixes ih (suc k) q = ih.fix k (omega arith)

  pub each_apart : (s : List Box) → EachApart s → all_apart c s ≡ true
  unfolding all_apart
  each_apart [] h = refl
  each_apart (a ∷ s) h =
      and_both (clear_of (gap_of c) a s) (clear_of (gap_of c) a (fix_boxes c) && all_apart c s)
      (from_all a s (λ k l. h.two 0 (suc k) (omega arith) (omega arith)))
      (and_both (clear_of (gap_of c) a (fix_boxes c)) (all_apart c s) (h.fix 0 (omega arith))
      (each_apart s (record { two = λ k l p q. h.two (suc k) (suc l) (omega arith) (omega arith); fix = λ k q. h.fix (suc k) (omega arith) })))

-- ---- the exchange

module _ (c : Chip) (i j : ℕ) (p : i < length c.macs) (q : j < length c.macs) (size : get_or c.macs i blank_mac ≡ get_or c.macs j blank_mac) (ps : List Spot) (long : length ps ≡ length c.macs) where
  abbrev n : ℕ
  n = length c.macs

  abbrev qs : List Spot
  qs = exchanged i j ps

  abbrev B : ℕ → Box
  B k = box_no (boxes c.macs ps) k

  abbrev D : ℕ → Box
  D k = box_no (boxes c.macs qs) k

  long_other : length qs ≡ n
  long_other = exchanged_long i j ps (subst (λ (t : ℕ). i < t) (sym long) p) (subst (λ (t : ℕ). j < t) (sym long) q) ∙ long

  size_turned : (k : ℕ) → get_or c.macs k blank_mac ≡ get_or c.macs (turned i j k) blank_mac
  size_turned = by_turned i j (λ a b. get_or c.macs a blank_mac ≡ get_or c.macs b blank_mac) size (sym size) (λ k x y. refl)

  -- the boxes are the same, in other places
  box_turned : (k : ℕ) → k < n → D k ≡ B (turned i j k)
  box_turned k l =
      boxes_at_law c.macs qs long_other k l
      ∙ (ap (λ (s : Spot). box_at (get_or c.macs k blank_mac) s) (exchanged_at i j ps (subst (λ (t : ℕ). i < t) (sym long) p) (subst (λ (t : ℕ). j < t) (sym long) q) k)
      ∙ (ap (λ (m : Mac). box_at m (get_or ps (turned i j k) blank_spot)) (size_turned k)
      ∙ sym (boxes_at_law c.macs ps long (turned i j k) (turned_below i j n p q k l))))

  count : length (boxes c.macs ps) ≡ n
  count = boxes_long c.macs ps long

  count_other : length (boxes c.macs qs) ≡ n
  count_other = boxes_long c.macs qs long_other

  any_two : EachApart c (boxes c.macs ps) → (k l : ℕ) → k < n → l < n → (k ≡ l → ⊥) → apart (gap_of c) (B k) (B l) ≡ true
  any_two h k l x y d = by (dec_lt k l)
    where
      by : Dec (k < l) → apart (gap_of c) (B k) (B l) ≡ true
      by (yes t) = h.two k l t (let e = count in omega arith)
      by (no t) = apart_swap (gap_of c) (B k) (B l) ∙ h.two l k (by' (ℕ_discrete k l)) (let e = count in omega arith)
        where
          by' : Dec (k ≡ l) → l < k
          by' (yes e) = absurd (d e)
          by' (no e) = omega arith

  each_other : EachApart c (boxes c.macs ps) → EachApart c (boxes c.macs qs)
  each_other h = record {
    two = λ k l x y. let e = count_other in
        rw (box_turned k (omega arith), box_turned l (omega arith))
        (any_two h (turned i j k) (turned i j l) (turned_below i j n p q k (omega arith)) (turned_below i j n p q l (omega arith)) (turned_apart i j k l (λ t. omega arith)));
    fix = λ k x. let e = count_other in
        rw (box_turned k (omega arith)) (h.fix (turned i j k) (let r = turned_below i j n p q k (omega arith) in let t = count in omega arith));
  }

  within_other : within c ps ≡ true → within c qs ≡ true
  unfolding within
  within_other h = and_both (eqb (length qs) (length c.macs)) (all_of (in_die c.die) (boxes c.macs qs)) (eq-eqb (length qs) n long_other)
      (die_all c (boxes c.macs qs) (λ k l. let e = count_other in rw (box_turned k (omega arith))
      (die_at c (boxes c.macs ps) (and_right (eqb (length ps) (length c.macs)) (all_of (in_die c.die) (boxes c.macs ps)) h) (turned i j k) (let r = turned_below i j n p q k (omega arith) in let t = count in omega arith))))

  pub still_legal : legal c ps ≡ true → legal c (exchanged i j ps) ≡ true
  unfolding legal
  still_legal h = and_both (within c qs) (all_apart c (boxes c.macs qs)) (within_other (and_left (within c ps) (all_apart c (boxes c.macs ps)) h))
      (each_apart c (boxes c.macs qs) (each_other (apart_each c (boxes c.macs ps) (and_right (within c ps) (all_apart c (boxes c.macs ps)) h))))
