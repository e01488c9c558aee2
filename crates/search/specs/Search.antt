-- The search: the best so far while a node's children are visited, what a child takes from its node, and the root.
use Rattle.std.specs.Prelude.{ℕ, ◌-◌, ◌≤◌, ◌<◌, ◌≡◌, true, List, set, replicate}
use Rattle.model.specs.declared.Chip.{Chip as HeldChip}
use Rattle.model.specs.declared.Spot.{Spot}
use Rattle.model.specs.declared.Record.{Record as HeldRecord}
use Rattle.model.specs.Meaning.{chip_of, blank_spot}
use Rattle.placement.specs.Legal.{legal}
use Rattle.axis_bounds.specs.declared.Slot.{Slot}
use Rattle.fit_slots.specs.declared.Direction.TheVariants.{Vertical as vertical}
use Rattle.fit_slots.specs.Fit.{dots}
use Rattle.search_halves.specs.Result.{NotAfter, Real}
use Rattle.search_kept.specs.Differences.{Adds, limited}
use Rattle.search_tables.specs.Tables.{with_bound}
use Rattle.search_best.specs.Best.{best_of, Counted}
use Rattle.search_node.specs.Letters.{byte_of, way_at}
use Rattle.search_node.specs.Node.{length_of, NodeOk}
use Rattle.search_node.specs.declared.Node.{Node}
use Rattle.search_left.specs.Left.{KeepsBoth, AddsOn, child_list, child_at}
use Rattle.search_left.specs.declared.Left.{Left}
use Rattle.search_join.specs.Joined.{spots_with}
use Rattle.search_order.specs.Order.{Ordered}

-- ---- the children of a node

-- b is the best or a better one
pub record Grown (c : HeldChip) (best b : HeldRecord) : Type 0 where
  pub counted : Counted c.n b
  pub first : NotAfter (best_of b) (best_of best)
  pub real : Real (chip_of c) (best_of best) → Real (chip_of c) (best_of b)

-- what a child takes from its node: its letters, the bounds, the differences and the lengths, of a letter in x and in y
pub record NextX (above : Node) (t : Left) (f : HeldRecord) (s i : ℕ) (u : Slot) (r : Node) : Type 0 where
  pub letters : r.letters ≡ set above.letters s (byte_of i)
  pub here : r.here ≡ f
  pub ax : r.ax ≡ with_bound above.ax u
  pub ay : r.ay ≡ above.ay
  pub kx : Adds t.kx (limited u) r.kx
  pub ky : r.ky ≡ t.ky
  pub lx : r.lx ≡ length_of f.outcome - above.ly
  pub ly : r.ly ≡ above.ly

pub record NextY (above : Node) (t : Left) (f : HeldRecord) (s i : ℕ) (u : Slot) (r : Node) : Type 0 where
  pub letters : r.letters ≡ set above.letters s (byte_of i)
  pub here : r.here ≡ f
  pub ax : r.ax ≡ above.ax
  pub ay : r.ay ≡ with_bound above.ay u
  pub kx : r.kx ≡ t.kx
  pub ky : Adds t.ky (limited u) r.ky
  pub lx : r.lx ≡ above.lx
  pub ly : r.ly ≡ length_of f.outcome - above.lx

-- r is what child i takes from its node, whose fit stands in t
pub record NextOf (above : Node) (t : Left) (s i : ℕ) (u : Slot) (r : Node) : Type 0 where
  pub across : i < 2 → NextX above t (child_at (child_list t) i) s i u r
  pub up : 2 ≤ i → NextY above t (child_at (child_list t) i) s i u r

-- child i of a node, as a node: letter i decided, its difference kept
pub record NextOk (c : HeldChip) (p : ℕ) (above : Node) (t : Left) (s i : ℕ) (u : Slot) (r : Node) : Type 0 where
  pub node : NodeOk c p r
  pub letters : r.letters ≡ set above.letters s (byte_of i)
  pub adds : AddsOn (way_at i) t.kx t.ky (limited u) r.kx r.ky

-- ---- the root

-- corners with x 0 and the given y
abbrev pub upright_spots : List ℕ → List Spot
upright_spots at = spots_with vertical at (replicate 8 blank_spot)

-- a dot for each pair; every legal placement in which equal macros are ordered keeps the differences
pub record RootOk (c : HeldChip) (p : ℕ) (r : Node) : Type 0 where
  pub node : NodeOk c p r
  pub letters : r.letters ≡ dots 120
  pub keeps : (ps : List Spot) → legal (chip_of c) ps ≡ true → Ordered (chip_of c) ps → KeepsBoth r.kx r.ky ps
