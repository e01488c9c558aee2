-- A macro that is larger than the die: its two slots are a chain.
use mathlib.Core.Path.{◌≡◌, refl, ◌∙◌}
use mathlib.Core.List.{List}
use Prim.Native.Nat.{ℕ, ◌+◌, ◌*◌, ◌<◌}
use native.Mathlib.Omega.{arith}
use lib.ListN.{length, set, replicate, length-set}
use lib.Seq.{get_or-set_same, get_or-set_other}
use Rattle.axis_bounds.specs.declared.Axis.{Axis as HeldAxis}
use Rattle.axis_bounds.specs.Axis.{axis_of}
use Rattle.axis_bounds.specs.Held.{Held}
use Rattle.axis_bounds.proofs.Answers.{oversize_on}
use Rattle.axis_graph.specs.Limits.{slot_room}
use Rattle.axis_graph.specs.Graph.{at}
use Rattle.axis_graph.specs.Above.{FirstAbove}
use Rattle.axis_graph.specs.Service.{UnsolvableOk}
use Rattle.num_laws.proofs.Stores.{zero_at}
use Rattle.axis_held.proofs.HeldAxes.{Shaped}
use Rattle.axis_held.proofs.HeldGraphs.{n_is, size_is, side_is}

-- 1 stored at k and at the next place
module _ (f : List ℕ) (k : ℕ) where
  first_one : k + 1 < length f → at (set (set f k 1) (k + 1) 1) k ≡ 1
  first_one l = get_or-set_other (set f k 1) (k + 1) k 1 0 (λ e. omega arith) ∙ get_or-set_same f k 1 0 (omega arith)

  second_one : k + 1 < length f → at (set (set f k 1) (k + 1) 1) (k + 1) ≡ 1
  second_one l = get_or-set_same (set f k 1) (k + 1) 1 0 (let e = length-set f k 1 in omega arith)

  no_other : (s : ℕ) → (s ≡ k → ⊥) → (s ≡ k + 1 → ⊥) → at (set (set f k 1) (k + 1) 1) s ≡ at f s
  no_other s p q = get_or-set_other (set f k 1) (k + 1) s 1 0 q ∙ get_or-set_other f k s 1 0 p

module _ (a : HeldAxis) (sh : Shaped a) (h : Held a) where
  -- macro i is larger than the die
  pub large_chain : (i : ℕ) → i < a.n → FirstAbove a.side a.sizes a.n i → UnsolvableOk a (replicate 8 0) (set (set (replicate slot_room 0) (2 * i) 1) (2 * i + 1) 1)
  large_chain i l f =
      record {
        held = h;
        unsolved = oversize_on (axis_of a) h.fine i (set (set (replicate slot_room 0) (2 * i) 1) (2 * i + 1) 1) (let e = n_is a sh h in omega arith) (let e = size_is a sh h i l in let d = side_is a sh h in let q = f.above l in omega arith)
            (first_one (replicate slot_room 0) (2 * i) few)
            (second_one (replicate slot_room 0) (2 * i) few)
            (λ s p q. no_other (replicate slot_room 0) (2 * i) s p q ∙ zero_at slot_room s);
        none = refl;
      }
    where
      few : 2 * i + 1 < slot_room
      few = let m = h.macs in omega arith
