-- The chip that is lent as an array.
use Prim.Native.Nat.{ℕ}
use mathlib.Core.Path.{◌≡◌}
use mathlib.Core.List.{List}
use Rattle.model.specs.declared.Chip.{Chip as HeldChip}
use Rattle.model.specs.declared.Record.{Record as HeldRecord}
use Rattle.search_node.specs.Node.{FitHeld, Given}
use Rattle.search_node.specs.declared.Node.{Node}
use Rattle.search_node.specs.declared.Parts.{Parts}
use Rattle.search_close.specs.Step.{Searched}

module _ (a c : HeldChip) (e : a ≡ c) where
  pub lent_given : (parts : Parts) (tx ty : List ℕ) (p : ℕ) (node : Node) (best : HeldRecord) → Given c parts p tx ty node best → Given a parts p tx ty node best
  lent_given parts tx ty p node best g = rw e g

  pub lent_held : (letters : List ℕ) (p : ℕ) (r : HeldRecord) → FitHeld a letters p r → FitHeld c letters p r
  lent_held letters p r h = rw e at h

  pub lent_searched : (letters : List ℕ) (p : ℕ) (kx ky : List ℕ) (best r : HeldRecord) → Searched a letters p kx ky best r → Searched c letters p kx ky best r
  lent_searched letters p kx ky best r h = rw e at h
