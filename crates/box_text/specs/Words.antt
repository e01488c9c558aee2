-- The line of a net's box (document 02, Card 2): `box,n,1,l,0,r,0,b,0,t,1` (net, left, right, bottom, top).
use Rattle.std.specs.Prelude.{ℕ, List, [], ◌∷◌}
use Rattle.model.specs.Limits.{boxed_net, box_end}
use Rattle.text_grammar.specs.Line.{Form, over, named}
use Rattle.text_grammar.specs.Words.{Words}

-- the one word of such lines
pub data BoxWord : Type 0 where
  box : BoxWord

-- its bytes
abbrev pub spell : BoxWord → List ℕ
spell box = 98 ∷ 111 ∷ 120 ∷ []

-- the field names n, l, r, b and t
abbrev pub by_n : List ℕ
by_n = 110 ∷ []

abbrev pub by_l : List ℕ
by_l = 108 ∷ []

abbrev pub by_r : List ℕ
by_r = 114 ∷ []

abbrev pub by_b : List ℕ
by_b = 98 ∷ []

abbrev pub by_t : List ℕ
by_t = 116 ∷ []

-- its fields with their ranges
abbrev pub form : BoxWord → Form
form box = named by_n boxed_net (named by_l box_end (named by_r box_end (named by_b box_end (named by_t box_end over))))

abbrev pub box_words : Words BoxWord
box_words = record { all = box ∷ []; spell = spell; form = form }
