-- Lines written one after the other.
use mathlib.Core.Path.{◌≡◌, refl, sym, ap, ◌∙◌}
use mathlib.Core.List.{List, [], ◌∷◌, ◌++◌, append_assoc, append-nil}
use Prim.Native.Nat.{ℕ, zero, suc, ◌+◌, ◌≤◌, ◌<◌, ◌^◌}
use native.Mathlib.Numerals.{add-one}
use native.Mathlib.Omega.{arith}
use lib.ListN.{length}
use Rattle.num_text.specs.Held.{Wrote}
use Rattle.num_text.proofs.Wrote.{wrote_none, wrote_then}
use Rattle.text_grammar.specs.Words.{Words, Item, item_text, items_text}
use Rattle.text_line.specs.declared.Spelling.{Spelling}
use Rattle.text_line.specs.declared.Layout.{Layout}
use Rattle.text_line.specs.Held.{spelled}
use Rattle.text_line.specs.Layout.{layout_for, values_in}
use Rattle.text_line.proofs.Find.{spelled_text}
use Rattle.text_line.proofs.Layouts.{Laying}
use Rattle.text_put.specs.LineText.{line_text}
use Rattle.text_put.specs.Run.{run}

pub run_last : {A : Type 0} (f : ℕ → A) (q i : ℕ) → run f q (suc i) ≡ run f q i ++ (f (q + i) ∷ [])
unfolding run
run_last f q zero = let e : q ≡ q + 0 = omega arith in ap (λ (n : ℕ). f n ∷ []) e
run_last f q (suc i) = let e : suc q + i ≡ q + suc i = omega arith in ap (λ (t : List _). f q ∷ t) (run_last f (suc q) i ∙ ap (λ (n : ℕ). run f (suc q) i ++ (f n ∷ [])) e)

module _ {W : Type 0} (d : Words W) where
  -- the line of a word whose layout is its form
  module _ (plain : (w : W) → Laying (d.form w)) where
    line_is : (w : W) (vs : List ℕ) → line_text (spelled (d.spell w)) (layout_for (d.form w)) [] vs ≡ item_text d (record { word = w; values = values_in (d.form w) [] vs })
    unfolding line_text item_text
    line_is w vs = rw (spelled_text (d.spell w), (plain w).means)

    pub item_written : (w : W) (p : Spelling) (l : Layout) (vs b a : List ℕ) (at r : ℕ) (i : Item W) → p ≡ spelled (d.spell w) → l ≡ layout_for (d.form w) → record { word = w; values = values_in (d.form w) [] vs } ≡ i → Wrote b a (line_text p l [] vs) at r → Wrote b a (item_text d i) at r
    item_written w p l vs b a at r i e f g v = rw (← g, ← line_is w vs, ← e, ← f) v

  pub items_append : (is js : List (Item W)) → items_text d (is ++ js) ≡ items_text d is ++ items_text d js
  unfolding items_text
  items_append [] js = refl
  items_append (i ∷ is) js = rw (items_append is js) (sym (append_assoc (item_text d i) (items_text d is) (items_text d js)))

  pub items_none : (b : List ℕ) (at : ℕ) → at < 2 ^ 64 → Wrote b b (items_text d []) at at
  unfolding items_text
  items_none b at h = wrote_none b at (omega arith)

  pub items_one : (b a : List ℕ) (i : Item W) (at r : ℕ) → Wrote b a (item_text d i) at r → Wrote b a (items_text d (i ∷ [])) at r
  unfolding items_text
  items_one b a i at r w = rw (append-nil (item_text d i)) w

  module _ (b m a : List ℕ) (is : List (Item W)) (at k r : ℕ) (f : length b < 2 ^ 64) (p : Wrote b m (items_text d is) at k) where
    pub items_then : (js : List (Item W)) → Wrote m a (items_text d js) k r → Wrote b a (items_text d (is ++ js)) at r
    items_then js q = rw (items_append is js) (wrote_then b m a _ _ at k r f p q)

    pub then_line : (i : Item W) → Wrote m a (item_text d i) k r → Wrote b a (items_text d (is ++ (i ∷ []))) at r
    then_line i q = items_then (i ∷ []) (items_one m a i k r q)

  -- items by their numbers
  module _ (f : ℕ → Item W) (q : ℕ) (b : List ℕ) (at : ℕ) where
    pub run_none : at < 2 ^ 64 → Wrote b b (items_text d (run f q 0)) at at
    unfolding run
    run_none h = items_none b at h

    pub run_more : (m a : List ℕ) (i k r : ℕ) → length b < 2 ^ 64 → Wrote b m (items_text d (run f q i)) at k → Wrote m a (item_text d (f (q + i))) k r → Wrote b a (items_text d (run f q (i + 1))) at r
    run_more m a i k r h v w = rw (add-one, run_last f q i) (then_line b m a (run f q i) at k r h v (f (q + i)) w)

    pub run_all : (a : List ℕ) (n i r : ℕ) → i ≤ n → n ≤ i → Wrote b a (items_text d (run f q i)) at r → Wrote b a (items_text d (run f q n)) at r
    run_all a n i r g h w = let e : n ≡ i = omega arith in rw e w
