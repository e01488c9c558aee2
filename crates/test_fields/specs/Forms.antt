-- Three sample words: lines of two have choices, those of the third strings.
use Rattle.std.specs.Prelude.{ℕ, List, [], ◌∷◌, pos, negsuc}
use Rattle.model.specs.Limits.{Range}
use Rattle.text_grammar.specs.Line.{Form, over, either, one, named, field, numbers, strings}

-- `net`, `at`, `leaf`
abbrev pub net_name : List ℕ
net_name = 110 ∷ 101 ∷ 116 ∷ []

abbrev pub at_name : List ℕ
at_name = 97 ∷ 116 ∷ []

abbrev pub leaf_name : List ℕ
leaf_name = 108 ∷ 101 ∷ 97 ∷ 102 ∷ []

-- from 1 to 1,000; from 1 to 8; from 0 to 1,024; from -1 to 1; from 0 to 589,824,000
abbrev weight : Range
weight = record { least = pos 1; most = pos 1000 }

abbrev number_of : Range
number_of = record { least = pos 1; most = pos 8 }

abbrev corner : Range
corner = record { least = pos 0; most = pos 1024 }

abbrev turn : Range
turn = record { least = negsuc 0; most = pos 1 }

abbrev worth : Range
worth = record { least = pos 0; most = pos 589824000 }

-- w, or x and y
abbrev pub net_form : Form
net_form = either (field (119 ∷ []) (numbers weight)) over (named (120 ∷ []) weight (named (121 ∷ []) weight over))

-- n, x, y, and t or not
abbrev pub at_form : Form
at_form = named (110 ∷ []) number_of (named (120 ∷ []) corner (named (121 ∷ []) corner (either (field (116 ∷ []) (numbers turn)) over over)))

-- s, up to 92 of the letters LRBA; k, one of nfo; and v
abbrev pub leaf_form : Form
leaf_form =
    one (field (115 ∷ []) (strings (76 ∷ 82 ∷ 66 ∷ 65 ∷ []) 0 92))
    (one (field (107 ∷ []) (strings (110 ∷ 102 ∷ 111 ∷ []) 1 1))
    (named (118 ∷ []) worth over))
