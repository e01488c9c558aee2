-- A branch of the search: a chip whose test is passed, one letter for each pair, the fit of the letters as a record, with the lengths of its halves.
use Rattle.std.specs.Prelude.{ℕ, ◌-◌, ◌<◌, ◌≡◌, List, length, get_or, replicate}
use Rattle.model.specs.declared.Chip.{Chip as HeldChip}
use Rattle.model.specs.declared.Spot.{Spot}
use Rattle.model.specs.declared.Record.{Record as HeldRecord}
use Rattle.model.specs.declared.Outcome.{Outcome}
use Rattle.model.specs.declared.Outcome.TheVariants as outcome
use Rattle.model.specs.Meaning.{chip_of, blank_spot}
use Rattle.model.specs.Blocks.{blocks_of}
use Rattle.chip_text.specs.Passed.{Passed}
use Rattle.placement.specs.Letters.{dot}
use Rattle.placement.specs.Least.{nothing, found, fit_of}
use Rattle.axis_bounds.specs.Axis.{length_on}
use Rattle.fit_slots.specs.declared.Direction.TheVariants.{Horizontal as horizontal, Vertical as vertical}
use Rattle.fit_slots.specs.Axes.{axis_for, corners_on}
use Rattle.fit_pairs.specs.declared.Cursor.{Cursor}
use Rattle.search_tables.specs.Tables.{Tabled, Arced}
use Rattle.search_best.specs.Best.{best_of, Counted}
use Rattle.search_node.specs.Letters.{letters_in, Lettered, CursorAt}
use Rattle.search_node.specs.declared.Node.{Node}
use Rattle.search_node.specs.declared.Parts.{Parts}

-- ---- records

abbrev pub no_record : HeldRecord
no_record = record { outcome = outcome.None; spots = replicate 8 blank_spot }

-- the length of a placement, or 0
abbrev pub length_of : Outcome → ℕ
length_of outcome.None = 0
length_of (outcome.Least l n) = l

-- r holds the fit of the letters
pub record FitHeld (c : HeldChip) (letters : List ℕ) (p : ℕ) (r : HeldRecord) : Type 0 where
  pub is : best_of r ≡ fit_of (chip_of c) (letters_in letters p)
  pub counted : Counted c.n r

-- the length of the placement that a record holds, less that of its other half, is what a half may have; without a placement a length that none has
abbrev pub room_of : Outcome → ℕ → ℕ
room_of outcome.None other = 4000000000
room_of (outcome.Least m n) other = m - other

-- ---- a node

-- the arrays stand for the chip
pub record Arrayed (c : HeldChip) (tx ty : List ℕ) : Type 0 where
  pub x : Tabled horizontal (chip_of c) tx
  pub y : Tabled vertical (chip_of c) ty

-- the lengths of the halves of the fit
pub record Halved (c : HeldChip) (letters : List ℕ) (p : ℕ) (here : HeldRecord) (lx ly : ℕ) : Type 0 where
  pub x : (l : ℕ) (ps : List Spot) → best_of here ≡ found l ps → lx ≡ length_on (axis_for horizontal (chip_of c) (letters_in letters p)) (corners_on horizontal ps)
  pub y : (l : ℕ) (ps : List Spot) → best_of here ≡ found l ps → ly ≡ length_on (axis_for vertical (chip_of c) (letters_in letters p)) (corners_on vertical ps)

-- a branch of the search: its letters, their bounds, their fit and the lengths of its halves
pub record NodeOk (c : HeldChip) (p : ℕ) (node : Node) : Type 0 where
  pub letters : Lettered c node.letters p
  pub whole : length node.letters ≡ 120
  pub across : Arced horizontal (chip_of c) (letters_in node.letters p) node.ax
  pub up : Arced vertical (chip_of c) (letters_in node.letters p) node.ay
  pub fit : FitHeld c node.letters p node.here
  pub halves : Halved c node.letters p node.here node.lx node.ly

-- pair s of a node is undecided, and the node has a fit
pub record Open (c : HeldChip) (p : ℕ) (node : Node) (s : ℕ) : Type 0 where
  pub place : s < p
  pub undecided : get_or (letters_in node.letters p) s dot ≡ dot
  pub found : best_of node.here ≡ nothing → ⊥

-- ---- what is given

-- a branch of a chip whose test is passed, with the arrays of the chip, and the best so far
pub record Given (c : HeldChip) (parts : Parts) (p : ℕ) (tx ty : List ℕ) (node : Node) (best : HeldRecord) : Type 0 where
  pub passed : Passed c
  pub reads : parts.blocks ≡ blocks_of c
  pub arrays : Arrayed c tx ty
  pub branch : NodeOk c p node
  pub counted : Counted c.n best

-- pair s of the branch is undecided, and the cursor is at it
pub record Turn (c : HeldChip) (p : ℕ) (node : Node) (s : ℕ) (at : Cursor) : Type 0 where
  pub free : Open c p node s
  pub on : CursorAt c s at
