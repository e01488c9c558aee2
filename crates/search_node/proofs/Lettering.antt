-- Bytes and the letters that they stand for: a byte stored for a pair, dots at the start, and how many there are.
use Prim.Native.Nat.{ℕ, zero, suc, ◌≤◌, ◌<◌}
use mathlib.Core.Path.{◌≡◌, refl, ap, ◌∙◌}
use mathlib.Core.Bool.{true, false}
use mathlib.Core.List.{List, [], ◌∷◌, map}
use native.Mathlib.Omega.{arith}
use lib.ListN.{length, take, set, replicate, length-map}
use lib.Seq.{take-set-lt, length-take-le}
use Rattle.num_text.specs.Number.{all_of}
use Rattle.model.specs.declared.Chip.{Chip as HeldChip}
use Rattle.text_grammar.proofs.Lacks.{and_left, and_right, and_both}
use Rattle.placement.specs.Letters.{dot}
use Rattle.fit_slots.specs.Fit.{is_letter, are_letters, letter_of, letters_of, dots}
use Rattle.fit_slots.proofs.Strings.{take_dots, dots_letters}
use Rattle.search_branches.specs.Branch.{is_dot}
use Rattle.search_node.specs.Letters.{byte_of, letters_in, Lettered}

map_set : {A B : Type 0} (f : A → B) (l : List A) (i : ℕ) (a : A) → map f (set l i a) ≡ set (map f l) i (f a)
map_set f [] i a = refl
map_set f (b ∷ l) zero a = refl
map_set {B = B} f (b ∷ l) (suc i) a = ap (λ (t : List B). f b ∷ t) (map_set f l i a)

-- one letter stored for pair s
pub letters_set : (letters : List ℕ) (p s b : ℕ) → s < p → letters_in (set letters s b) p ≡ set (letters_in letters p) s (letter_of b)
letters_set letters p s b h = rw (take-set-lt p letters s b h) (map_set letter_of (take p letters) s b)

pub letters_long : (letters : List ℕ) (p : ℕ) → p ≤ length letters → length (letters_in letters p) ≡ p
letters_long letters p h = length-map (take p letters) letter_of ∙ length-take-le p letters h

-- ---- the four letters

is_letter_law : (i : ℕ) → i < 4 → is_letter (byte_of i) ≡ true
is_letter_law zero h = refl
is_letter_law (suc zero) h = refl
is_letter_law (suc (suc zero)) h = refl
is_letter_law (suc (suc (suc zero))) h = refl
is_letter_law (suc (suc (suc (suc i)))) h = absurd (omega arith)

pub no_dot : (i : ℕ) → i < 4 → is_dot (letter_of (byte_of i)) ≡ false
no_dot zero h = refl
no_dot (suc zero) h = refl
no_dot (suc (suc zero)) h = refl
no_dot (suc (suc (suc zero))) h = refl
no_dot (suc (suc (suc (suc i)))) h = absurd (omega arith)

are_set : (s : List ℕ) (i b : ℕ) → is_letter b ≡ true → are_letters s ≡ true → are_letters (set s i b) ≡ true
unfolding all_of
are_set [] i b h e = e
are_set (a ∷ s) zero b h e = and_both (is_letter b) (are_letters s) h (and_right (is_letter a) (are_letters s) e)
are_set (a ∷ s) (suc i) b h e = and_both (is_letter a) (are_letters (set s i b)) (and_left (is_letter a) (are_letters s) e) (are_set s i b h (and_right (is_letter a) (are_letters s) e))

-- with one of the four letters for pair s there is still one letter for each pair
pub lettered_set : (c : HeldChip) (letters : List ℕ) (p s i : ℕ) → Lettered c letters p → s < p → i < 4 → Lettered c (set letters s (byte_of i)) p
lettered_set c letters p s i h g k = record {
  count = h.count;
  few = h.few;
  bytes = rw (take-set-lt p letters s (byte_of i) g) (are_set (take p letters) s (byte_of i) (is_letter_law i k) h.bytes);
}

-- ---- dots

pub dots_in : (n p : ℕ) → p ≤ n → letters_in (dots n) p ≡ replicate p dot
dots_in n p h = ap letters_of (take_dots n p h) ∙ dots_letters p
