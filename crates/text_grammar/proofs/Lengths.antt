-- Each item of an accepted text has at most 62 bytes, where the words are brief: `run_short`. A number below 10 to the k has at most k digits:
-- `digits_short`.
use mathlib.Core.Path.{◌≡◌}
use mathlib.Core.Bool.{Bool, true, false, ◌&&◌, false≢true}
use mathlib.Core.List.{List, [], ◌∷◌}
use Prim.Native.Nat.{ℕ, zero, suc, ◌*◌, ◌/◌, ◌≤◌, ◌<◌}
use native.Mathlib.Omega.{arith}
use lib.Dec.{leb}
use lib.IntN.{ℤ, pos, negsuc, nat_abs}
use lib.ListN.{length, length-append}
use lib.Signed.{le_z}
use borrow.Author.Tests.{leb-true}
use Rattle.num_text.specs.Number.{digits, number_text, all_of}
use Rattle.num_text.proofs.Digits.{digits_small, digits_large, by_digits}
use Rattle.text_grammar.specs.Line.{Sort, numbers, strings, Value, number, string, absent, value_text, is_of, Rule, Form, over, one, either, field_text, fields_text}
use Rattle.text_grammar.specs.Words.{Words, Item, item_text, items_text}
use Rattle.text_grammar.proofs.Lacks.{and_left, and_right}
use Rattle.text_grammar.specs.Reading.{Kind, accepted}
use Rattle.text_grammar.proofs.Items.{Within, WellFormed, run_items}
use Rattle.text_grammar.proofs.Run.{run_within}
use Rattle.text_grammar.proofs.Values.{Passes, Passing, passing}
use Rattle.text_grammar.proofs.Every.{Every}

-- ---- a number

abbrev pub ten_to : ℕ → ℕ
ten_to zero = 1
ten_to (suc k) = 10 * ten_to k

pub digits_short : (n k : ℕ) → n < ten_to (suc k) → length (digits n) ≤ suc k
digits_short = by_digits (λ n. (k : ℕ) → n < ten_to (suc k) → length (digits n) ≤ suc k) (λ n h k b. rw (digits_small n h) (omega arith)) large
  where
    large : (n : ℕ) → 10 ≤ n → ((k : ℕ) → n / 10 < ten_to (suc k) → length (digits (n / 10)) ≤ suc k) → (k : ℕ) → n < ten_to (suc k) → length (digits n) ≤ suc k
    large n h ih zero b = absurd (omega arith)
    large n h ih (suc k) b = let q = ih k (omega arith) in rw (digits_large n h, length-append) (omega arith)

pub number_short : (z : ℤ) (k : ℕ) → nat_abs z < ten_to (suc k) → length (number_text z) ≤ suc (suc k)
number_short (pos n) k h = let q = digits_short n k h in omega arith
number_short (negsuc n) k h = let q = digits_short (suc n) k h in omega arith

-- ---- a field

-- a range that is not wide, or short strings
abbrev narrow : Sort → Bool
narrow (numbers r) = leb (nat_abs r.least) 999999999 && leb (nat_abs r.most) 999999999
narrow (strings set lo hi) = leb hi 10

in_narrow : (l m z : ℤ) → nat_abs l ≤ 999999999 → nat_abs m ≤ 999999999 → le_z l z ≡ true → le_z z m ≡ true → nat_abs z < 1000000000
in_narrow l (pos m) (pos n) a b p q = let c = leb-true n m q in omega arith
in_narrow l (negsuc m) (pos n) a b p q = absurd (false≢true q)
in_narrow (negsuc l) m (negsuc n) a b p q = let c = leb-true n l p in omega arith
in_narrow (pos l) m (negsuc n) a b p q = absurd (false≢true p)

value_short : (o : Sort) (v : Value) → narrow o ≡ true → Passes o v → length (value_text v) ≤ 10
value_short (numbers r) (number z) h p =
    number_short z 8
    (in_narrow r.least r.most z (leb-true _ _ (and_left (leb (nat_abs r.least) 999999999) _ h)) (leb-true _ _ (and_right (leb (nat_abs r.least) 999999999) _ h))
    (and_left (le_z r.least z) (le_z z r.most) p) (and_right (le_z r.least z) (le_z z r.most) p))
value_short (numbers r) (string s) h p = absurd p
value_short (numbers r) absent h p = absurd p
value_short (strings set lo hi) (number z) h p = absurd p
value_short (strings set lo hi) (string s) h p =
    let a = leb-true (length s) hi (and_right (leb lo (length s)) _ (and_right (all_of (is_of set) s) _ p)) in
    let b = leb-true hi 10 h in
    omega arith
value_short (strings set lo hi) absent h p = absurd p

abbrev slim : Rule → Bool
slim r = leb (length r.mark) 4 && narrow r.sort

field_short : (r : Rule) (v : Value) (more : List ℕ) (n : ℕ) → slim r ≡ true → Passes r.sort v → length more ≤ 14 * n → length (field_text r v more) ≤ 14 * suc n
field_short r v more n h p l =
    let m = leb-true (length r.mark) 4 (and_left (leb (length r.mark) 4) (narrow r.sort) h) in
    let k = value_short r.sort v (and_right (leb (length r.mark) 4) (narrow r.sort) h) p in
    rw (length-append, length-append) (omega arith)

-- ---- a line

-- at most n fields, each of them slim
unfoldable pub brief : ℕ → Form → Bool
brief n over = true
brief zero (one r f) = false
brief (suc n) (one r f) = slim r && brief n f
brief zero (either r f g) = false
brief (suc n) (either r f g) = slim r && (brief n f && brief n g)

fields_short : (n : ℕ) (f : Form) (vs : List Value) → brief n f ≡ true → Passing f vs → length (fields_text f vs) ≤ 14 * n
unfolding fields_text brief
fields_short n over vs h p = omega arith
fields_short zero (one r f) vs h p = absurd (false≢true h)
fields_short (suc n) (one r f) [] h p = omega arith
fields_short (suc n) (one r f) (v ∷ vs) h p = field_short r v (fields_text f vs) n (and_left (slim r) (brief n f) h) p.0 (fields_short n f vs (and_right (slim r) (brief n f) h) p.1)
fields_short zero (either r f g) vs h p = absurd (false≢true h)
fields_short (suc n) (either r f g) [] h p = omega arith
fields_short (suc n) (either r f g) (absent ∷ vs) h p = let q = fields_short n g vs (and_right (brief n f) (brief n g) (and_right (slim r) (brief n f && brief n g) h)) p in omega arith
fields_short (suc n) (either r f g) (number z ∷ vs) h p = field_short r (number z) (fields_text f vs) n (and_left (slim r) _ h) p.0 (fields_short n f vs (and_left (brief n f) (brief n g) (and_right (slim r) _ h)) p.1)
fields_short (suc n) (either r f g) (string s ∷ vs) h p = field_short r (string s) (fields_text f vs) n (and_left (slim r) _ h) p.0 (fields_short n f vs (and_left (brief n f) (brief n g) (and_right (slim r) _ h)) p.1)

module _ {W : Type 0} (d : Words W) where
  -- a word of at most 5 bytes, with at most 4 fields
  abbrev pub brief_word : W → Bool
  brief_word w = leb (length (d.spell w)) 5 && brief 4 (d.form w)

  module _ (all : (w : W) → brief_word w ≡ true) where
    item_short : (i : Item W) → Within d i → length (item_text d i) ≤ 62
    unfolding item_text
    item_short i e =
        let w : W = i.word in
        let a = leb-true (length (d.spell w)) 5 (and_left (leb (length (d.spell w)) 5) (brief 4 (d.form w)) (all w)) in
        let f = fields_short 4 (d.form w) i.values (and_right (leb (length (d.spell w)) 5) (brief 4 (d.form w)) (all w)) (passing (d.form w) i.values i.values e) in
        rw (length-append, length-append) (omega arith)

    items_short : (is : List (Item W)) → Every (Within d) is → length (items_text d is) ≤ 62 * length is
    unfolding items_text
    items_short [] e = omega arith
    items_short (i ∷ is) e = let a = item_short i e.0 in let b = items_short is e.1 in rw length-append (omega arith)

-- the text of items that are accepted, of a kind of text whose words are brief
pub run_short : {W S : Type 0} (k : Kind W S) → ((w : W) → brief_word k.words w ≡ true) → (s t : S) (n : ℕ) (is : List (Item W)) → WellFormed k is → run_items k s n is ≡ accepted t → length (items_text k.words is) ≤ 62 * length is
run_short k all s t n is f e = items_short k.words all is (run_within k s t n is f e)
