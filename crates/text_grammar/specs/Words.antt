-- The words of a kind of text: their spelling and the fields of their lines; lines as items.
use Rattle.std.specs.Prelude.{ℕ, List, [], ◌∷◌, ◌++◌, Bool, true, false, ◌&&◌, ◌||◌, eqb, get_or, ℤ, pos, nat_abs}
use Rattle.model.specs.Step.{Step, next, fault}
use Rattle.text_grammar.specs.Line.{Value, number, string, absent, Form, line_feed, fields_text}

-- two texts are the same bytes
unfoldable pub same : List ℕ → List ℕ → Bool
same [] [] = true
same [] (b ∷ t) = false
same (a ∷ s) [] = false
same (a ∷ s) (b ∷ t) = eqb a b && same s t

-- the words of a kind of text: all of them, the bytes of each, and the fields of a line that begins with it
pub record Words (W : Type 0) : Type 0 where
  pub all : List W
  pub spell : W → List ℕ
  pub form : W → Form

-- a line as a word and the values of its fields
pub record Item (W : Type 0) : Type 0 where
  pub word : W
  pub values : List Value

module _ {W : Type 0} (d : Words W) where
  -- a and b are the same word
  abbrev pub is_word : W → W → Bool
  is_word a b = same (d.spell a) (d.spell b)

  -- w is among the words ws
  unfoldable pub is_in : W → List W → Bool
  is_in w [] = false
  is_in w (a ∷ ws) = is_word w a || is_in w ws

  -- the first word of ws that the bytes s spell; an unknown word is fault 2
  unfoldable pub word_in : List W → List ℕ → Step W
  word_in [] s = fault 2
  word_in (w ∷ ws) s = elim (same (d.spell w) s) [ true ↦ next w | false ↦ word_in ws s ]

  -- the text of a line
  unfoldable pub item_text : Item W → List ℕ
  item_text i = d.spell i.word ++ (fields_text (d.form i.word) i.values ++ (line_feed ∷ []))

  -- the text of lines
  unfoldable pub items_text : List (Item W) → List ℕ
  items_text [] = []
  items_text (i ∷ is) = item_text i ++ items_text is

-- the number that a value is
abbrev pub number_in : Value → ℤ
number_in (number z) = z
number_in (string s) = pos 0
number_in absent = pos 0

-- value i of a line's values as a number, and the same of a field that can't be negative
abbrev pub value : List Value → ℕ → ℤ
value vs i = number_in (get_or vs i absent)

abbrev pub size : List Value → ℕ → ℕ
size vs i = nat_abs (value vs i)
