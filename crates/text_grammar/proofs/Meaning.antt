-- What a text means, for a kind of text whose accepted items are those of the meaning: an accepted text is its meaning's text (`read_text_law`,
-- `one_text`) and not too long (`read_short`), and reading the text of a meaning gives that meaning where it is accepted (`text_read`).
use mathlib.Core.Path.{◌≡◌, refl, sym, ap, ◌∙◌}
use mathlib.Core.List.{List}
use Prim.Native.Nat.{ℕ, ◌≤◌}
use lib.ListN.{length}
use Rattle.text_grammar.specs.Line.{lines}
use Rattle.text_grammar.specs.Words.{Item, items_text}
use Rattle.text_grammar.specs.Reading.{Kind, Reading, accepted, refused, part_read, read_lines, read_text}
use Rattle.text_grammar.proofs.Words.{Told}
use Rattle.text_grammar.proofs.Items.{WellFormed, run_items, no_refusal, read_items, items_read, read_text_length, read_text_lines}

-- where the part f of what a text means is a
pub part_accepted : {S A : Type 0} (f : S → A) (r : Reading S) (a : A) → part_read f r ≡ accepted a → (s : S) × (r ≡ accepted s) × (f s ≡ a)
part_accepted f (accepted s) a e = (s, refl, cc)
part_accepted f (refused n l) a e = no_refusal e

-- texts of the kind k, read from start on, mean the part `meaning` of what has been read, whose items are those of `items`
pub record Means {W S A : Type 0} (k : Kind W S) (start : S) (meaning : S → A) (items : A → List (Item W)) : Type 0 where
  pub told : Told k.words
  pub run : (s : S) (n : ℕ) (is : List (Item W)) → WellFormed k is → run_items k start n is ≡ accepted s → is ≡ items (meaning s)

module _ {W S A : Type 0} {k : Kind W S} {start : S} {meaning : S → A} {items : A → List (Item W)} (m : Means k start meaning items) where
  -- the lines of an accepted text lead to a state with its meaning
  accepted_lines : (t : List ℕ) (a : A) → part_read meaning (read_text k start t) ≡ accepted a → (s : S) × (read_lines k start 1 (lines t) ≡ accepted s) × (meaning s ≡ a)
  accepted_lines t a e = let b = part_accepted meaning (read_text k start t) a e in (b.0, read_text_lines k start t b.0 b.1, b.2)

  pub read_short : (t : List ℕ) (a : A) → part_read meaning (read_text k start t) ≡ accepted a → length t ≤ k.most_bytes
  read_short t a e = let b = part_accepted meaning (read_text k start t) a e in read_text_length k start t b.0 b.1

  pub read_text_law : (t : List ℕ) (a : A) → part_read meaning (read_text k start t) ≡ accepted a → t ≡ items_text k.words (items a)
  read_text_law t a e =
      let b = accepted_lines t a e in
      let i = items_read k m.told start b.0 1 t b.1 in
      i.text ∙ ap (items_text k.words) (m.run b.0 1 i.items i.formed i.run ∙ ap items b.2)

  pub one_text : (s t : List ℕ) (a : A) → part_read meaning (read_text k start s) ≡ accepted a → part_read meaning (read_text k start t) ≡ accepted a → s ≡ t
  one_text s t a e f = read_text_law s a e ∙ sym (read_text_law t a f)

  -- where items tell what they are the items of
  pub text_read : ((a b : A) → items a ≡ items b → a ≡ b) → (a b : A) → WellFormed k (items a) → part_read meaning (read_text k start (items_text k.words (items a))) ≡ accepted b → b ≡ a
  text_read same a b f e =
      let c = accepted_lines (items_text k.words (items a)) b e in
      same b a (sym (m.run c.0 1 (items a) f (sym (read_items k m.told start 1 (items a) f) ∙ c.1) ∙ ap items c.2))
