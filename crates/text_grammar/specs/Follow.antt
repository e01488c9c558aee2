-- What a reader knows of the next line by the word of the last: tables with an entry for each word, and more up to eight.
use Rattle.std.specs.Prelude.{Bool, true, false, List, map, replicate}
use Rattle.model.specs.Held.{filled}
use Rattle.text_grammar.specs.declared.Following.{Following}
use Rattle.text_grammar.specs.Words.{Words, is_in}

-- after a line that is neither a net nor the last
abbrev pub followed_by : List Bool → Following
followed_by bs = record { placed = bs; pinned = replicate 8 true; over = false }

-- after the last line
abbrev pub followed_by_none : Following
followed_by_none = record { placed = replicate 8 false; pinned = replicate 8 true; over = true }

-- the table of a test of words, with b past the last
abbrev pub table_of : {W : Type 0} → Words W → Bool → (W → Bool) → List Bool
table_of d b test = filled 8 b (map test d.all)

-- place: the words that may stand here, by their list
abbrev pub places_of : {W : Type 0} → Words W → List W → List Bool
places_of d ws = table_of d false (λ w. is_in d w ws)
