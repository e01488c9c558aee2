-- The box of a net as the program holds it: each end pinUp higher.
use Rattle.std.proofs.Math.IntN.{sub_ℕ}
use Rattle.model.specs.Meaning.{pin_up}
use Rattle.placement.specs.Integers.{NetBox}
use Rattle.measure_nets.specs.declared.NetBox.{NetBox as HeldBox}

-- the box that a value means
abbrev pub box_of : HeldBox → NetBox
box_of b = record { left = sub_ℕ b.left pin_up; right = sub_ℕ b.right pin_up; bottom = sub_ℕ b.bottom pin_up; top = sub_ℕ b.top pin_up }
