-- The words of chip files, their spelling and their fields (document 01, "The chip file").
use Rattle.std.specs.Prelude.{ℕ, List, [], ◌∷◌}
use Rattle.model.specs.Limits.{die_side, fix_corner, fix_side, mac_side, net_weight, pin_macro, pin_place}
use Rattle.chip_text.specs.declared.ChipWord.{ChipWord}
use Rattle.chip_text.specs.declared.ChipWord.TheVariants.{Die, Fix, Mac, Net, Pin, End}
use Rattle.text_grammar.specs.Line.{Form, over, named}
use Rattle.text_grammar.specs.Words.{Words}

-- the bytes of each word
abbrev pub spell : ChipWord → List ℕ
spell Die = 100 ∷ 105 ∷ 101 ∷ []
spell Fix = 102 ∷ 105 ∷ 120 ∷ []
spell Mac = 109 ∷ 97 ∷ 99 ∷ []
spell Net = 110 ∷ 101 ∷ 116 ∷ []
spell Pin = 112 ∷ 105 ∷ 110 ∷ []
spell End = 101 ∷ 110 ∷ 100 ∷ []

-- the field names w, h, x, y and m
abbrev pub by_w : List ℕ
by_w = 119 ∷ []

abbrev pub by_h : List ℕ
by_h = 104 ∷ []

abbrev pub by_x : List ℕ
by_x = 120 ∷ []

abbrev pub by_y : List ℕ
by_y = 121 ∷ []

abbrev pub by_m : List ℕ
by_m = 109 ∷ []

-- the fields of each line with their ranges
abbrev pub form : ChipWord → Form
form Die = named by_w die_side (named by_h die_side over)
form Fix = named by_x fix_corner (named by_y fix_corner (named by_w fix_side (named by_h fix_side over)))
form Mac = named by_w mac_side (named by_h mac_side over)
form Net = named by_w net_weight over
form Pin = named by_m pin_macro (named by_x pin_place (named by_y pin_place over))
form End = over

abbrev pub chip_words : Words ChipWord
chip_words = record { all = Die ∷ Fix ∷ Mac ∷ Net ∷ Pin ∷ End ∷ []; spell = spell; form = form }
