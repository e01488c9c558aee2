-- How the program holds the spelling of a word and a number of a field.
use Rattle.std.specs.Prelude.{ℕ, zero, suc, List, ℤ, pos, length, take}
use Rattle.std.proofs.Math.IntN.{sub_ℕ}
use Rattle.model.specs.Held.{filled}
use Rattle.text_line.specs.declared.Spelling.{Spelling}

-- the bytes of a spelling, and the spelling of some bytes: they, then 0 up to five
abbrev pub text_of : Spelling → List ℕ
text_of p = take p.size p.bytes

abbrev pub spelled : List ℕ → Spelling
spelled s = record { bytes = filled 5 0 s; size = length s }

-- the number that v means, held u higher
abbrev pub lowered : ℕ → ℕ → ℤ
lowered zero v = pos v
lowered (suc u) v = sub_ℕ v (suc u)
