-- The text of a line that is written.
use Rattle.std.specs.Prelude.{ℕ, List, [], ◌∷◌, ◌++◌}
use Rattle.text_grammar.specs.Line.{line_feed, fields_text}
use Rattle.text_line.specs.declared.Spelling.{Spelling}
use Rattle.text_line.specs.declared.Layout.{Layout}
use Rattle.text_line.specs.Held.{text_of}
use Rattle.text_line.specs.Layout.{form_of, values_of}

-- the word, the fields of the layout with the values that vs hold, and LF
unfoldable pub line_text : Spelling → Layout → List ℕ → List ℕ → List ℕ
line_text p l s vs = text_of p ++ (fields_text (form_of l.rules) (values_of l.rules s vs) ++ (line_feed ∷ []))
