-- The words of records, their spelling and their fields (document 01, "The search and its record").
use Rattle.std.specs.Prelude.{ℕ, List, [], ◌∷◌}
use Rattle.model.specs.Limits.{record_length, placed_macro, placed_corner}
use Rattle.record_text.specs.declared.RecordWord.{RecordWord}
use Rattle.record_text.specs.declared.RecordWord.TheVariants.{Least, None, At, Done}
use Rattle.text_grammar.specs.Line.{Form, over, named}
use Rattle.text_grammar.specs.Words.{Words}

-- the bytes of each word
abbrev pub spell : RecordWord → List ℕ
spell Least = 108 ∷ 101 ∷ 97 ∷ 115 ∷ 116 ∷ []
spell None = 110 ∷ 111 ∷ 110 ∷ 101 ∷ []
spell At = 97 ∷ 116 ∷ []
spell Done = 100 ∷ 111 ∷ 110 ∷ 101 ∷ []

-- the field names wl, m, x and y
abbrev pub by_wl : List ℕ
by_wl = 119 ∷ 108 ∷ []

abbrev pub by_m : List ℕ
by_m = 109 ∷ []

abbrev pub by_x : List ℕ
by_x = 120 ∷ []

abbrev pub by_y : List ℕ
by_y = 121 ∷ []

-- the fields of each line with their ranges
abbrev pub form : RecordWord → Form
form Least = named by_wl record_length over
form None = over
form At = named by_m placed_macro (named by_x placed_corner (named by_y placed_corner over))
form Done = over

abbrev pub record_words : Words RecordWord
record_words = record { all = Least ∷ None ∷ At ∷ Done ∷ []; spell = spell; form = form }
