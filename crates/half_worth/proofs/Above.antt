-- Amounts worth more than the room: whatever keeps the bounds is longer.
use Prim.Native.Nat.{ℕ, ◌+◌, ◌-◌, ◌<◌}
use mathlib.Core.Path.{◌≡◌}
use mathlib.Core.Bool.{Bool, true}
use mathlib.Core.List.{List}
use native.Mathlib.Omega.{arith}
use lib.Dec.{ltb}
use borrow.Author.Tests.{ltb-true}
use Rattle.axis_bounds.specs.Half.{AboveOn}
use Rattle.half_arrays.specs.Says.{Says}
use Rattle.half_arrays.specs.Arrays.{axis_on}
use Rattle.half_arrays.specs.State.{flow_at, hi_at, lo_at}
use Rattle.half_worth.specs.Amounts.{Passes, gained, lost}
use Rattle.half_worth.specs.Tests.{WorthSums}
use Rattle.half_worth.proofs.Duality.{worth_most}

-- amounts over the arrays that pass and are worth more than the room
pub passes_above : (tab arcs : List ℕ) (f h l : ℕ → ℕ) (room : ℕ) → Passes tab f h l → lost tab f l + room < gained tab arcs f h → AboveOn (axis_on tab arcs) room
passes_above tab arcs f h l room s w = record { longer = λ y k. let q = worth_most tab arcs f h l s y k in omega arith }

pub shows_above : (tab arcs st : List ℕ) (o room more less : ℕ) (b : Bool) → WorthSums tab arcs st o more less → Says b (Passes tab (flow_at st o) (hi_at st o) (lo_at st o)) → b ≡ true → Says (ltb room (more - less)) (AboveOn (axis_on tab arcs) room)
shows_above tab arcs st o room more less b w s e = record { then = λ t. passes_above tab arcs (flow_at st o) (hi_at st o) (lo_at st o) room (s.then e) (let lt = ltb-true room (more - less) t in let g = w.more in let l = w.less in omega arith) }
