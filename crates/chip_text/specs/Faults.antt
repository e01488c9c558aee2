-- The last tests of a line, after its fields: the number of the first that fails, or 0.
use Rattle.std.specs.Prelude.{ℕ, List, map, leb}
use Rattle.model.specs.declared.Die.{Die}
use Rattle.model.specs.declared.Fix.{Fix}
use Rattle.geometry.specs.Box.{box_of, in_die, clear_of}
use Rattle.text_grammar.specs.Steps.{need}

-- a fix beside earlier ones: leaves the die 9, overlaps one of them 10
unfoldable pub placed_fault : Die → Fix → List Fix → ℕ
placed_fault d f fs =
    need (in_die d (box_of f)) 9
    (need (clear_of 0 (box_of f) (map box_of fs)) 10 0)

-- a pin of macro m in a chip with n macros: no such macro 8
unfoldable pub macro_fault : ℕ → ℕ → ℕ
macro_fault n m = need (leb m n) 8 0
