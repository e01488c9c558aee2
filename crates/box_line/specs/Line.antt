-- The parts of the line of a net's box, as the program writes them one after the other.
use Rattle.std.specs.Prelude.{ℕ, List, ◌∷◌, ◌++◌}
use Rattle.std.proofs.Math.IntN.{sub_ℕ}
use Rattle.num_text.specs.Number.{digits, number_text}
use Rattle.model.specs.Meaning.{pin_up}
use Rattle.measure_nets.specs.declared.NetBox.{NetBox as HeldBox}

-- `box,n,` and the number of a net
abbrev pub box_net : ℕ → List ℕ
box_net n = 98 ∷ 111 ∷ 120 ∷ 44 ∷ 110 ∷ 44 ∷ digits n

-- `,l,` or so, and an end of a box as held
abbrev pub box_side : ℕ → ℕ → List ℕ
box_side name v = 44 ∷ name ∷ 44 ∷ number_text (sub_ℕ v pin_up)

-- the first fields of a line: the number of the net, left and right
abbrev pub box_across : ℕ → HeldBox → List ℕ
box_across n b = (box_net n ++ box_side 108 b.left) ++ box_side 114 b.right
