-- The text of a field that is written.
use Rattle.std.specs.Prelude.{ℕ, List, ◌++◌}
use Rattle.text_grammar.specs.Line.{value_text}
use Rattle.text_line.specs.declared.Rule.{Rule as HeldRule}
use Rattle.text_line.specs.Layout.{mark_of, held_in}

-- the field with the rule r and the value that v holds: its mark, then the value; a string stands in the bytes s
abbrev pub held_text : List ℕ → HeldRule → ℕ → List ℕ
held_text s r v = mark_of r ++ value_text (held_in s r v)
