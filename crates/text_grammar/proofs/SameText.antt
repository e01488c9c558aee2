-- Lines are told from their text, where their values pass their tests: two lists of items with the same text are the same (`items_same`).
use mathlib.Core.Path.{◌≡◌, refl, sym, ap, ◌∙◌}
use mathlib.Core.Bool.{true}
use mathlib.Core.List.{List, [], ◌∷◌}
use Prim.Native.Nat.{ℕ}
use Rattle.model.specs.Step.{Step, next, on_next}
use Rattle.text_grammar.specs.Line.{comma, Line, lines, up_to, from, fields, fields_text}
use Rattle.text_grammar.specs.Words.{Words, word_in, Item, items_text}
use Rattle.text_grammar.proofs.Lacks.{lacks}
use Rattle.text_grammar.proofs.Cut.{up_to_clean, from_clean}
use Rattle.text_grammar.proofs.FieldsText.{fields_stop, fields_read}
use Rattle.text_grammar.proofs.Words.{Told}
use Rattle.text_grammar.proofs.Every.{Every}
use Rattle.text_grammar.proofs.Items.{Formed, Within, line_bytes, item_lines}

module _ {W : Type 0} (d : Words W) where
  -- the item of a line's bytes, and the items of lines
  abbrev item_in : List ℕ → Step (Item W)
  item_in b = on_next (word_in d d.all (up_to comma b)) (λ w. on_next (fields (d.form w) (from comma b)) (λ vs. next (record { word = w; values = vs })))

  items_in : List Line → Step (List (Item W))
  items_in [] = next []
  items_in (l ∷ ls) = on_next (item_in l.bytes) (λ i. on_next (items_in ls) (λ is. next (i ∷ is)))

  module _ (told : Told d) where
    item_back : (i : Item W) → Formed d i → Within d i → item_in (line_bytes d i) ≡ next i
    item_back i f g =
        let w : W = i.word in
        let t : List ℕ = fields_text (d.form w) i.values in
        let p : up_to comma t ≡ [] = fields_stop (d.form w) i.values (told.formed w) in
        let c : lacks comma (d.spell w) ≡ true = told.no_comma w in
        rw (up_to_clean comma (d.spell w) t c p, from_clean comma (d.spell w) t c p, told.found w, fields_read (d.form w) i.values (told.formed w) f, g)

    items_back : (is : List (Item W)) → Every (Formed d) is → Every (Within d) is → items_in (lines (items_text d is)) ≡ next is
    unfolding lines items_text items_in
    items_back [] f g = refl
    items_back (i ∷ is) f g = rw (item_lines d told i (items_text d is) f.0, item_back i f.0 g.0, items_back is f.1 g.1)

    pub items_same : (is js : List (Item W)) → Every (Formed d) is → Every (Within d) is → Every (Formed d) js → Every (Within d) js → items_text d is ≡ items_text d js → is ≡ js
    items_same is js f g h k e =
        let p : next is ≡ next js = sym (items_back is f g) ∙ (ap (λ (t : List ℕ). items_in (lines t)) e ∙ items_back js h k) in
        cc
