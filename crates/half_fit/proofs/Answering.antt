-- What the tests show, as the answer of a half fit.
use Rattle.std.proofs.Common.{ℕ, List}
use Rattle.axis_bounds.specs.Half.{AboveOn}
use Rattle.half_arrays.specs.Arrays.{axis_on}
use Rattle.half_arrays.proofs.Arcs.{keeps_on}
use Rattle.half_fit.specs.Chain.{Empty}

-- bounds that nothing keeps: whatever keeps them is longer than any room
pub none_beyond : (tab arcs : List ℕ) (room : ℕ) → Empty arcs → AboveOn (axis_on tab arcs) room
none_beyond tab arcs room e = record { longer = λ y k. absurd (e.none y (keeps_on tab arcs y k)) }
