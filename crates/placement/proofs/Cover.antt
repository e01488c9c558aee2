-- A placement is legal exactly when it keeps letters without a dot: `cover_legal`. Two boxes are apart when one of the four letters is kept, and the pairs that must be apart are the pairs that have a letter. Deciding more letters keeps fewer placements: `keeps_fewer`.
use mathlib.Core.Path.{◌≡◌, refl, sym, ap, ◌∙◌}
use mathlib.Core.Bool.{Bool, true, false, ◌&&◌, ◌||◌, false≢true, true≢false, or-true, and_assoc, and_comm}
use mathlib.Core.List.{List, [], ◌∷◌, ◌++◌}
use mathlib.Core.Logic.{◌⊎◌, inl, inr, ◌↔◌}
use Prim.{Unit, tt}
use Rattle.model.specs.declared.Spot.{Spot}
use Rattle.model.specs.Meaning.{Chip}
use Rattle.text_grammar.proofs.Lacks.{and_left, and_right, and_both}
use Rattle.text_grammar.proofs.Every.{Every}
use Rattle.placement.proofs.OrderLaws.{or_says}
use Rattle.geometry.specs.declared.Box.{Box}
use Rattle.geometry.specs.Box.{clear_of, apart, below, left_of}
use Rattle.placement.specs.Legal.{boxes, fix_boxes, all_apart, within, legal}
use Rattle.placement.specs.Integers.{gap_of}
use Rattle.placement.specs.Letters.{Letter, left, right, low, high, dot}
use Rattle.placement.specs.Pairs.{keeps, Pair, with, pairs_of, with_each, pairs, keeps_all, keeps_letters}

or_first : (p q : Bool) → p ≡ true → (p || q) ≡ true
or_first p q e = ap (λ (t : Bool). t || q) e

or_second : (p q : Bool) → q ≡ true → (p || q) ≡ true
or_second p q e = ap (λ (t : Bool). p || t) e ∙ or-true p

and_still : (p q r s : Bool) → (p ≡ true → r ≡ true) → (q ≡ true → s ≡ true) → (p && q) ≡ true → (r && s) ≡ true
and_still p q r s f g e = and_both r s (f (and_left p q e)) (g (and_right p q e))

-- tests of four parts in another order
regroup : (a b d e : Bool) → (a && (b && (d && e))) ≡ ((a && d) && (b && e))
regroup true b d e = sym (and_assoc b d e) ∙ (ap (λ (t : Bool). t && e) (and_comm b d) ∙ and_assoc d b e)
regroup false b d e = refl

-- every pair is apart
abbrev pub all_pairs : Chip → List Pair → Bool
all_pairs c [] = true
all_pairs c (q ∷ qs) = apart (gap_of c) q.first q.second && all_pairs c qs

module _ (c : Chip) where
  pairs_append : (qs rs : List Pair) → all_pairs c (qs ++ rs) ≡ (all_pairs c qs && all_pairs c rs)
  pairs_append [] rs = refl
  pairs_append (q ∷ qs) rs = ap (λ (b : Bool). apart (gap_of c) q.first q.second && b) (pairs_append qs rs) ∙ sym (and_assoc (apart (gap_of c) q.first q.second) (all_pairs c qs) (all_pairs c rs))

  from_pairs : (a : Box) (s : List Box) → clear_of (gap_of c) a s ≡ all_pairs c (with a s)
  unfolding clear_of
  from_pairs a [] = refl
  from_pairs a (b ∷ s) = ap (λ (t : Bool). apart (gap_of c) a b && t) (from_pairs a s)

  apart_pairs : (s : List Box) → all_apart c s ≡ (all_pairs c (pairs_of s) && all_pairs c (with_each s (fix_boxes c)))
  unfolding all_apart pairs_of with_each
  apart_pairs [] = refl
  apart_pairs (a ∷ s) = rw (apart_pairs s, from_pairs a s, from_pairs a (fix_boxes c), pairs_append (with a s) (pairs_of s), pairs_append (with a (fix_boxes c)) (with_each s (fix_boxes c)))
      (regroup (all_pairs c (with a s)) (all_pairs c (with a (fix_boxes c))) (all_pairs c (pairs_of s)) (all_pairs c (with_each s (fix_boxes c))))

  pub placement_pairs : (ps : List Spot) → all_apart c (boxes c.macs ps) ≡ all_pairs c (pairs c ps)
  unfolding pairs
  placement_pairs ps = apart_pairs (boxes c.macs ps) ∙ sym (pairs_append (pairs_of (boxes c.macs ps)) (with_each (boxes c.macs ps) (fix_boxes c)))

abbrev pub is_dot : Letter → Bool
is_dot left = false
is_dot right = false
is_dot low = false
is_dot high = false
is_dot dot = true

-- a letter that demands something
abbrev pub Says : Letter → Type 0
Says l = is_dot l ≡ false

abbrev pub NoDot : List Letter → Type 0
NoDot ls = Every Says ls

-- boxes are apart exactly when one of the four letters is kept
module _ (c : Chip) (a b : Box) where
  pub keeps_apart : (l : Letter) → Says l → keeps c l a b ≡ true → apart (gap_of c) a b ≡ true
  keeps_apart left n k = or_first (left_of (gap_of c) a b) _ k
  keeps_apart right n k = or_second (left_of (gap_of c) a b) _ (or_first (left_of (gap_of c) b a) _ k)
  keeps_apart low n k = or_second (left_of (gap_of c) a b) _ (or_second (left_of (gap_of c) b a) _ (or_first (below (gap_of c) a b) _ k))
  keeps_apart high n k = or_second (left_of (gap_of c) a b) _ (or_second (left_of (gap_of c) b a) _ (or_second (below (gap_of c) a b) _ k))
  keeps_apart dot n k = absurd (true≢false n)

  -- a letter that is kept
  abbrev pub Kept : Type 0
  Kept = (l : Letter) × Says l × (keeps c l a b ≡ true)

  pub apart_keeps : apart (gap_of c) a b ≡ true → Kept
  apart_keeps e = first (or_says (left_of (gap_of c) a b) (left_of (gap_of c) b a || (below (gap_of c) a b || below (gap_of c) b a)) e)
    where
      third : (below (gap_of c) a b ≡ true) ⊎ (below (gap_of c) b a ≡ true) → Kept
      third (inl k) = (low, refl, k)
      third (inr k) = (high, refl, k)

      second : (left_of (gap_of c) b a ≡ true) ⊎ ((below (gap_of c) a b || below (gap_of c) b a) ≡ true) → Kept
      second (inl k) = (right, refl, k)
      second (inr k) = third (or_says (below (gap_of c) a b) (below (gap_of c) b a) k)

      first : (left_of (gap_of c) a b ≡ true) ⊎ ((left_of (gap_of c) b a || (below (gap_of c) a b || below (gap_of c) b a)) ≡ true) → Kept
      first (inl k) = (left, refl, k)
      first (inr k) = second (or_says (left_of (gap_of c) b a) (below (gap_of c) a b || below (gap_of c) b a) k)

-- letters without a dot that fit
abbrev pub Some : (List Letter → Bool) → Type 0
Some fits = (ls : List Letter) × NoDot ls × (fits ls ≡ true)

module _ (c : Chip) where
  pairs_letters : (qs : List Pair) → all_pairs c qs ≡ true → Some (λ ls. keeps_all c ls qs)
  unfolding keeps_all
  pairs_letters [] e = ([], tt, refl)
  pairs_letters (q ∷ qs) e = by
      (apart_keeps c q.first q.second (and_left (apart (gap_of c) q.first q.second) (all_pairs c qs) e))
      (pairs_letters qs (and_right (apart (gap_of c) q.first q.second) (all_pairs c qs) e))
    where
      by : Kept c q.first q.second → Some (λ ls. keeps_all c ls qs) → Some (λ ls. keeps_all c ls (q ∷ qs))
      by (l, n, k) (ls, m, r) = (l ∷ ls, (n, m), and_both (keeps c l q.first q.second) (keeps_all c ls qs) k r)

  letters_pairs : (ls : List Letter) (qs : List Pair) → NoDot ls → keeps_all c ls qs ≡ true → all_pairs c qs ≡ true
  unfolding keeps_all
  letters_pairs [] [] n e = refl
  letters_pairs [] (q ∷ qs) n e = absurd (false≢true e)
  letters_pairs (l ∷ ls) [] n e = refl
  letters_pairs (l ∷ ls) (q ∷ qs) n e = and_still (keeps c l q.first q.second) (keeps_all c ls qs) _ _ (keeps_apart c q.first q.second l n.0) (letters_pairs ls qs n.1) e

  module _ (ps : List Spot) where
    pub legal_letters : legal c ps ≡ true → Some (λ ls. keeps_letters c ls ps)
    unfolding legal keeps_letters
    legal_letters e = by (pairs_letters (pairs c ps) (sym (placement_pairs c ps) ∙ and_right (within c ps) (all_apart c (boxes c.macs ps)) e))
      where
        by : Some (λ ls. keeps_all c ls (pairs c ps)) → Some (λ ls. keeps_letters c ls ps)
        by (ls, n, k) = (ls, n, and_still (within c ps) (all_apart c (boxes c.macs ps)) (within c ps) (keeps_all c ls (pairs c ps)) (λ w. w) (λ a. k) e)

    pub letters_legal : (ls : List Letter) → NoDot ls → keeps_letters c ls ps ≡ true → legal c ps ≡ true
    unfolding legal keeps_letters
    letters_legal ls n e = and_still (within c ps) (keeps_all c ls (pairs c ps)) (within c ps) (all_apart c (boxes c.macs ps)) (λ w. w) (λ k. placement_pairs c ps ∙ letters_pairs ls (pairs c ps) n k) e

    -- legal exactly when letters without a dot are kept
    pub cover_legal : (legal c ps ≡ true) ↔ Some (λ ls. keeps_letters c ls ps)
    cover_legal = (legal_letters, λ (ls, n, k). letters_legal ls n k)

-- at every place ls' has the letter of ls, or ls has a dot there
abbrev pub Decides : List Letter → List Letter → Type 0
Decides [] [] = Unit {0}
Decides [] (l ∷ ls) = ⊥
Decides (m ∷ ls') [] = ⊥
Decides (m ∷ ls') (l ∷ ls) = ((l ≡ dot) ⊎ (m ≡ l)) × Decides ls' ls

module _ (c : Chip) where
  one_fewer : (m l : Letter) (a b : Box) → (l ≡ dot) ⊎ (m ≡ l) → keeps c m a b ≡ true → keeps c l a b ≡ true
  one_fewer m l a b (inl d) k = ap (λ (t : Letter). keeps c t a b) d
  one_fewer m l a b (inr s) k = ap (λ (t : Letter). keeps c t a b) (sym s) ∙ k

  all_fewer : (ls' ls : List Letter) (qs : List Pair) → Decides ls' ls → keeps_all c ls' qs ≡ true → keeps_all c ls qs ≡ true
  unfolding keeps_all
  all_fewer [] [] qs d e = e
  all_fewer [] (l ∷ ls) qs d e = absurd d
  all_fewer (m ∷ ls') [] qs d e = absurd d
  all_fewer (m ∷ ls') (l ∷ ls) [] d e = e
  all_fewer (m ∷ ls') (l ∷ ls) (q ∷ qs) d e = and_still (keeps c m q.first q.second) (keeps_all c ls' qs) (keeps c l q.first q.second) (keeps_all c ls qs) (one_fewer m l q.first q.second d.0) (all_fewer ls' ls qs d.1) e

  pub keeps_fewer : (ls' ls : List Letter) (ps : List Spot) → Decides ls' ls → keeps_letters c ls' ps ≡ true → keeps_letters c ls ps ≡ true
  unfolding keeps_letters
  keeps_fewer ls' ls ps d e = and_still (within c ps) (keeps_all c ls' (pairs c ps)) (within c ps) (keeps_all c ls (pairs c ps)) (λ w. w) (all_fewer ls' ls (pairs c ps) d) e
