-- The pairs of a placement and their letters: a pair whose letter is kept and is no dot is apart, so a placement that keeps the letters is legal when each undecided pair is apart, and a pair that overlaps is undecided.
use Prim.Native.Nat.{ℕ, zero, suc, ◌<◌}
use Prim.{tt}
use mathlib.Core.Path.{◌≡◌, refl}
use mathlib.Core.Bool.{Bool, true, false, false≢true}
use mathlib.Core.List.{List, [], ◌∷◌}
use native.Mathlib.Omega.{arith}
use lib.ListN.{length, get_or, set}
use Rattle.model.specs.declared.Spot.{Spot}
use Rattle.model.specs.Meaning.{Chip}
use Rattle.text_grammar.proofs.Lacks.{and_left, and_right, and_both}
use Rattle.geometry.specs.declared.Box.{Box}
use Rattle.geometry.specs.Box.{apart}
use Rattle.placement.specs.Legal.{within, legal}
use Rattle.placement.specs.Integers.{gap_of}
use Rattle.placement.specs.Letters.{Letter, left, right, low, high, dot}
use Rattle.placement.specs.Pairs.{keeps, Pair, pairs, keeps_all, keeps_letters}
use Rattle.placement.proofs.Cover.{Says, NoDot, Kept, Some, keeps_apart, apart_keeps, legal_letters, letters_legal}
use Rattle.search_branches.proofs.Replaces.{true_false}

-- the pair at place s is apart, d standing past the end
abbrev pub apart_at : Chip → Pair → List Pair → ℕ → Bool
apart_at c d qs s = apart (gap_of c) (get_or qs s d).first (get_or qs s d).second

-- the pair at place s keeps the letter
abbrev pub keeps_at : Chip → Pair → Letter → List Pair → ℕ → Bool
keeps_at c d l qs s = keeps c l (get_or qs s d).first (get_or qs s d).second

module _ (c : Chip) where
  all_long : (ls : List Letter) (qs : List Pair) → keeps_all c ls qs ≡ true → length ls ≡ length qs
  unfolding keeps_all
  all_long [] [] e = refl
  all_long [] (q ∷ qs) e = absurd (false≢true e)
  all_long (l ∷ ls) [] e = absurd (false≢true e)
  all_long (l ∷ ls) (q ∷ qs) e = let h = all_long ls qs (and_right (keeps c l q.first q.second) (keeps_all c ls qs) e) in omega arith

  module _ (d : Pair) where
    all_at : (ls : List Letter) (qs : List Pair) (s : ℕ) → keeps_all c ls qs ≡ true → s < length ls → keeps_at c d (get_or ls s dot) qs s ≡ true
    unfolding keeps_all
    all_at [] qs s e h = absurd (omega arith)
    all_at (l ∷ ls) [] s e h = absurd (false≢true e)
    all_at (l ∷ ls) (q ∷ qs) zero e h = and_left (keeps c l q.first q.second) (keeps_all c ls qs) e
    all_at (l ∷ ls) (q ∷ qs) (suc s) e h = all_at ls qs s (and_right (keeps c l q.first q.second) (keeps_all c ls qs) e) (omega arith)

    all_set : (ls : List Letter) (qs : List Pair) (s : ℕ) (m : Letter) → keeps_all c ls qs ≡ true → keeps_at c d m qs s ≡ true → keeps_all c (set ls s m) qs ≡ true
    unfolding keeps_all
    all_set [] qs s m e k = e
    all_set (l ∷ ls) [] s m e k = absurd (false≢true e)
    all_set (l ∷ ls) (q ∷ qs) zero m e k = and_both (keeps c m q.first q.second) (keeps_all c ls qs) k (and_right (keeps c l q.first q.second) (keeps_all c ls qs) e)
    all_set (l ∷ ls) (q ∷ qs) (suc s) m e k = and_both (keeps c l q.first q.second) (keeps_all c (set ls s m) qs)
        (and_left (keeps c l q.first q.second) (keeps_all c ls qs) e) (all_set ls qs s m (and_right (keeps c l q.first q.second) (keeps_all c ls qs) e) k)

    one_letter : (a b : Box) (l : Letter) → keeps c l a b ≡ true → (l ≡ dot → apart (gap_of c) a b ≡ true) → Kept c a b
    one_letter a b left k f = (left, refl, k)
    one_letter a b right k f = (right, refl, k)
    one_letter a b low k f = (low, refl, k)
    one_letter a b high k f = (high, refl, k)
    one_letter a b dot k f = apart_keeps c a b (f refl)

    all_letters : (ls : List Letter) (qs : List Pair) → keeps_all c ls qs ≡ true → ((s : ℕ) → s < length ls → get_or ls s dot ≡ dot → apart_at c d qs s ≡ true) → Some (λ ms. keeps_all c ms qs)
    unfolding keeps_all
    all_letters [] [] e f = ([], tt, refl)
    all_letters [] (q ∷ qs) e f = absurd (false≢true e)
    all_letters (l ∷ ls) [] e f = absurd (false≢true e)
    all_letters (l ∷ ls) (q ∷ qs) e f = by
        (one_letter q.first q.second l (and_left (keeps c l q.first q.second) (keeps_all c ls qs) e) (f 0 (omega arith)))
        (all_letters ls qs (and_right (keeps c l q.first q.second) (keeps_all c ls qs) e) (λ s h. f (suc s) (omega arith)))
      where
        by : Kept c q.first q.second → Some (λ ms. keeps_all c ms qs) → Some (λ ms. keeps_all c ms (q ∷ qs))
        by (m, n, k) (ms, o, r) = (m ∷ ms, (n, o), and_both (keeps c m q.first q.second) (keeps_all c ms qs) k r)

no_dot_at : (ls : List Letter) (s : ℕ) → NoDot ls → s < length ls → Says (get_or ls s dot)
no_dot_at [] s n h = absurd (omega arith)
no_dot_at (l ∷ ls) zero n h = n.0
no_dot_at (l ∷ ls) (suc s) n h = no_dot_at ls s n.1 (omega arith)

dot_or_apart : (c : Chip) (a b : Box) (l : Letter) → keeps c l a b ≡ true → apart (gap_of c) a b ≡ false → l ≡ dot
dot_or_apart c a b left k f = absurd (true_false (apart (gap_of c) a b) (keeps_apart c a b left refl k) f)
dot_or_apart c a b right k f = absurd (true_false (apart (gap_of c) a b) (keeps_apart c a b right refl k) f)
dot_or_apart c a b low k f = absurd (true_false (apart (gap_of c) a b) (keeps_apart c a b low refl k) f)
dot_or_apart c a b high k f = absurd (true_false (apart (gap_of c) a b) (keeps_apart c a b high refl k) f)
dot_or_apart c a b dot k f = refl

module _ (c : Chip) (ls : List Letter) (ps : List Spot) (e : keeps_letters c ls ps ≡ true) where
  letters_all : keeps_all c ls (pairs c ps) ≡ true
  unfolding keeps_letters
  letters_all = and_right (within c ps) (keeps_all c ls (pairs c ps)) e

  letters_within : within c ps ≡ true
  unfolding keeps_letters
  letters_within = and_left (within c ps) (keeps_all c ls (pairs c ps)) e

  -- one letter for each pair
  pub letters_pairs_long : length ls ≡ length (pairs c ps)
  letters_pairs_long = all_long c ls (pairs c ps) letters_all

  -- d stands past the last pair
  module _ (d : Pair) where
    -- the letter at each place is kept
    pub keeps_at_law : (s : ℕ) → s < length ls → keeps_at c d (get_or ls s dot) (pairs c ps) s ≡ true
    keeps_at_law s = all_at c d ls (pairs c ps) s letters_all

    -- a letter that the pair at place s keeps may be put there
    pub keeps_set : (s : ℕ) (m : Letter) → keeps_at c d m (pairs c ps) s ≡ true → keeps_letters c (set ls s m) ps ≡ true
    unfolding keeps_letters
    keeps_set s m k = and_both (within c ps) (keeps_all c (set ls s m) (pairs c ps)) letters_within (all_set c d ls (pairs c ps) s m letters_all k)

    -- legal when each undecided pair is apart
    pub legal_by_pairs : ((s : ℕ) → s < length ls → get_or ls s dot ≡ dot → apart_at c d (pairs c ps) s ≡ true) → legal c ps ≡ true
    unfolding keeps_letters
    legal_by_pairs f = by (all_letters c d ls (pairs c ps) letters_all f)
      where
        by : Some (λ ms. keeps_all c ms (pairs c ps)) → legal c ps ≡ true
        by (ms, n, k) = letters_legal c ps ms n (and_both (within c ps) (keeps_all c ms (pairs c ps)) letters_within k)

    -- a pair that overlaps is undecided
    pub overlap_undecided : (s : ℕ) → s < length ls → apart_at c d (pairs c ps) s ≡ false → get_or ls s dot ≡ dot
    overlap_undecided s h f = dot_or_apart c (get_or (pairs c ps) s d).first (get_or (pairs c ps) s d).second (get_or ls s dot) (keeps_at_law s h) f

-- in a legal placement each pair is apart
pub legal_apart_at : (c : Chip) (ps : List Spot) (d : Pair) (s : ℕ) → legal c ps ≡ true → s < length (pairs c ps) → apart_at c d (pairs c ps) s ≡ true
legal_apart_at c ps d s e h = by (legal_letters c ps e)
  where
    by : Some (λ ls. keeps_letters c ls ps) → apart_at c d (pairs c ps) s ≡ true
    by (ls, n, k) =
        let q = letters_pairs_long c ls ps k in let b : s < length ls = omega arith in
        keeps_apart c (get_or (pairs c ps) s d).first (get_or (pairs c ps) s d).second (get_or ls s dot) (no_dot_at ls s n b) (keeps_at_law c ls ps k d s b)
