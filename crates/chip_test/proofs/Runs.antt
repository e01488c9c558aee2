-- Runs of items by the first refusal of their tests: one item, lists one after the other, and the items that a count stands for.
use Rattle.std.specs.Prelude.{Ok, Err, Result}
use mathlib.Core.Path.{◌≡◌, ap, subst, ◌∙◌}
use mathlib.Core.List.{List, [], ◌∷◌, ◌++◌, map, append_assoc}
use Prim.Native.Nat.{ℕ, zero, suc, ◌+◌, ◌≤◌, ◌<◌}
use native.Mathlib.Decide.{dec_lt}
use native.Mathlib.Omega.{arith}
use lib.ListN.{length, get_or, drop, length-append, drop_of_length-le, get_or-eq_default}
use lib.Seq.{drop-cons}
use Rattle.model.specs.declared.Refusal.{Refusal}
use Rattle.model.specs.Meaning.{first_of}
use Rattle.model.specs.Step.{next}
use Rattle.text_grammar.specs.Reading.{refused}
use Rattle.text_grammar.proofs.Items.{item_step, run_items}
use Rattle.chip_text.specs.Kind.{Part, chip_kind}
use Rattle.chip_text.specs.Text.{Item}
use Rattle.chip_items.specs.Tests.{on_fault, then_tested, tests}
use Rattle.chip_test.proofs.Steps.{Steps, goes, stops}

-- a run of the items is from s on a line leads to a state that P holds of, whatever follows them, or is refused
pub data Run (P : Part → Type 0) (s : Part) (line : ℕ) (is : List Item) : Result (Unit {0}) Refusal → Type 0 where
  passes : (t : Part) → ((rest : List Item) → run_items chip_kind s line (is ++ rest) ≡ run_items chip_kind t (line + length is) rest) → P t → Run P s line is (Ok tt)
  refuses : (w : Refusal) → ((rest : List Item) → run_items chip_kind s line (is ++ rest) ≡ refused w.no w.line) → Run P s line is (Err w)

on_line : (s : Part) (is : List Item) {a b : ℕ} → a ≡ b → run_items chip_kind s a is ≡ run_items chip_kind s b is
on_line s is e = ap (λ (n : ℕ). run_items chip_kind s n is) e

module _ {P : Part → Type 0} where
  pub run_none : (s : Part) (line : ℕ) → P s → Run P s line [] (Ok tt)
  run_none s line p = passes s (λ rest. on_line s rest (omega arith)) p

  after_step : (s t : Part) (line : ℕ) (i : Item) (is : List Item) (r : Result (Unit {0}) Refusal) → item_step chip_kind s i ≡ next t → Run P t (suc line) is r → Run P s line (i ∷ is) r
  unfolding run_items
  after_step s t line i is r e (passes u f p) = passes u (λ rest. rw e (f rest ∙ on_line u rest (omega arith))) p
  after_step s t line i is r e (refuses w f) = refuses w (λ rest. rw e (f rest))

  pub run_item : {Q : Part → Type 0} (s : Part) (line : ℕ) (i : Item) (is : List Item) (n : ℕ) (r : Result (Unit {0}) Refusal) → Steps Q (item_step chip_kind s i) n → ((t : Part) → Q t → Run P t (suc line) is r) → Run P s line (i ∷ is) (on_fault n line r)
  unfolding run_items
  run_item s line i is n r (goes t e q) k = after_step s t line i is r e (k t q)
  run_item s line i is n r (stops m e) k = refuses (record { no = suc m; line = line }) (λ rest. rw e)

  after_run : (s t : Part) (line : ℕ) (is js : List Item) (r : Result (Unit {0}) Refusal) → ((rest : List Item) → run_items chip_kind s line (is ++ rest) ≡ run_items chip_kind t (line + length is) rest) → Run P t (line + length is) js r → Run P s line (is ++ js) r
  after_run s t line is js r f (passes u g p) = passes u (λ rest. rw (append_assoc is js rest, length-append is js) (f (js ++ rest) ∙ (g rest ∙ on_line u rest (omega arith)))) p
  after_run s t line is js r f (refuses w g) = refuses w (λ rest. rw append_assoc (f (js ++ rest) ∙ g rest))

  pub run_then : {Q : Part → Type 0} (s : Part) (line : ℕ) (is js : List Item) (q r : Result (Unit {0}) Refusal) → Run Q s line is q → ((t : Part) → Q t → Run P t (line + length is) js r) → Run P s line (is ++ js) (then_tested q r)
  run_then s line is js q r (passes t f p) k = after_run s t line is js r f (k t p)
  run_then s line is js q r (refuses w f) k = refuses w (λ rest. rw append_assoc (f (js ++ rest)))

-- an item too many, and those after it
pub too_many : {P Q : Part → Type 0} (s : Part) (line : ℕ) (i : Item) (is : List Item) (n : ℕ) (r : Result (Unit {0}) Refusal) → n ≡ 6 → Steps Q (item_step chip_kind s i) n → Run P s line (i ∷ is) (on_fault n line r)
unfolding run_items
too_many s line i is n r e (goes t g p) = absurd (omega arith)
too_many s line i is n r e (stops m g) = refuses (record { no = suc m; line = line }) (λ rest. rw g)

-- the items that a count stands for, of a list xs: item i has the fault f i, and one item past the list is too many
module _ {A : Type 0} (item : A → Item) (blank : A) (xs : List A) (P : ℕ → Part → Type 0) (f : ℕ → ℕ) (line : ℕ)
    (bound : (i : ℕ) (s : Part) → P i s → i ≤ length xs)
    (step : (i : ℕ) (s : Part) → P i s → Steps (P (suc i)) (item_step chip_kind s (item (get_or xs i blank))) (f i))
    (full : f (length xs) ≡ 6) where
  pub run_many : (n i m : ℕ) (s : Part) → m ≡ i + n → P i s → Run (P m) s (line + i) (map item (first_of blank n (drop i xs))) (tests f line i n)
  unfolding tests first_of
  run_many zero i m s e p = let q : m ≡ i = omega arith in rw q (run_none s (line + i) p)
  run_many (suc n) i m s e p = by (dec_lt i (length xs)) (λ t q. run_many n (suc i) m t (omega arith) q)
    where
      by : Dec (i < length xs) → ((t : Part) → P (suc i) t → Run (P m) t (line + suc i) (map item (first_of blank n (drop (suc i) xs))) (tests f line (suc i) n)) → Run (P m) s (line + i) (map item (first_of blank (suc n) (drop i xs))) (tests f line i (suc n))
      by (yes l) ih = let a : line + suc i ≡ suc (line + i) = omega arith in rw (drop-cons xs i blank l) (run_item s (line + i) _ _ (f i) _ (step i s p) (λ t q. subst (λ (at : ℕ). Run (P m) t at (map item (first_of blank n (drop (suc i) xs))) (tests f line (suc i) n)) a (ih t q)))
      by (no l) ih =
          let b : i ≤ length xs = bound i s p in
          let q : i ≡ length xs = omega arith in
          rw (drop_of_length-le xs {i = i} (omega arith)) (too_many s (line + i) (item blank) [] (f i) _ (ap f q ∙ full) (rw (get_or-eq_default xs blank {n = i} (omega arith)) at (step i s p)))
