-- The answer of a branch, and when a branch has its answer at once.
use Rattle.std.specs.Prelude.{ℕ, ◌≡◌, true, List}
use Rattle.std.specs.declared.ops.ControlFlow.{ControlFlow}
use Rattle.std.specs.ControlFlow.{MatchControlFlow}
use Rattle.model.specs.declared.Chip.{Chip as HeldChip}
use Rattle.model.specs.declared.Spot.{Spot}
use Rattle.model.specs.declared.Record.{Record as HeldRecord}
use Rattle.model.specs.Meaning.{chip_of}
use Rattle.search_branches.specs.Branch.{in_branch}
use Rattle.search_halves.specs.Result.{placed, NotAfter, Real}
use Rattle.search_best.specs.Best.{best_of, Counted}
use Rattle.search_node.specs.Letters.{letters_in}
use Rattle.search_node.specs.Node.{Given, Turn}
use Rattle.search_node.specs.declared.Node.{Node}
use Rattle.search_node.specs.declared.Parts.{Parts}
use Rattle.search_left.specs.Left.{KeepsBoth}
use Rattle.search_choose.specs.declared.Choice.{Choice}

-- r is the best so far or a better one: a legal placement, and not after any legal placement under the letters that keeps the differences
pub record Searched (c : HeldChip) (letters : List ℕ) (p : ℕ) (kx ky : List ℕ) (best r : HeldRecord) : Type 0 where
  pub counted : Counted c.n r
  pub first : NotAfter (best_of r) (best_of best)
  pub real : Real (chip_of c) (best_of best) → Real (chip_of c) (best_of r)
  pub covers : (ps : List Spot) → in_branch (chip_of c) (letters_in letters p) ps ≡ true → KeepsBoth kx ky ps → NotAfter (best_of r) (placed (chip_of c) ps)

-- a closed branch has its answer
pub record ClosedBy (parts : Parts) (p : ℕ) (node : Node) (best r : HeldRecord) : Type 0 where
  pub searched : (c : HeldChip) (tx ty : List ℕ) → Given c parts p tx ty node best → Searched c node.letters p node.kx node.ky best r

-- of an open branch a pair is undecided
pub record OpenAt (parts : Parts) (p : ℕ) (node : Node) (best : HeldRecord) (r : Choice) : Type 0 where
  pub turn : (c : HeldChip) (tx ty : List ℕ) → Given c parts p tx ty node best → Turn c p node r.s r.at

-- the branch is closed, or a pair of it is decided next
abbrev pub StepOk : Parts → ℕ → Node → HeldRecord → ControlFlow HeldRecord Choice → Type 0
StepOk parts p node best r = MatchControlFlow r (OpenAt parts p node best) (ClosedBy parts p node best)
