-- The letters of a pair, tried one by one: which are closed, and what is left of the branch.
use Rattle.std.specs.Prelude.{ℕ, ◌+◌, ◌<◌, ◌≡◌, true, cond, List, ◌⊎◌, ltb, set}
use Rattle.model.specs.declared.Chip.{Chip as HeldChip}
use Rattle.model.specs.declared.Spot.{Spot}
use Rattle.model.specs.declared.Record.{Record as HeldRecord}
use Rattle.model.specs.Meaning.{Chip, chip_of}
use Rattle.chip_text.specs.Passed.{Passed}
use Rattle.placement.specs.Letters.{Letter}
use Rattle.placement.specs.Least.{nothing, fit_of}
use Rattle.axis_bounds.specs.declared.Slot.{Slot}
use Rattle.fit_pairs.specs.declared.Cursor.{Cursor}
use Rattle.search_branches.specs.Branch.{in_branch}
use Rattle.search_halves.specs.Kept.{keeps_one, opposite_at}
use Rattle.search_halves.specs.Result.{placed, NotAfter}
use Rattle.search_tables.specs.Tables.{Tabled}
use Rattle.search_best.specs.Best.{best_of, Counted}
use Rattle.search_node.specs.Letters.{byte_of, letters_in, letter_at, way_at, Asks}
use Rattle.search_node.specs.Node.{no_record, Arrayed, NodeOk, Open, Given, Turn}
use Rattle.search_node.specs.declared.Node.{Node}
use Rattle.search_node.specs.declared.Parts.{Parts}
use Rattle.search_left.specs.Left.{KeepsBoth, child_list, child_at}
use Rattle.search_left.specs.declared.Left.{Left}
use Rattle.search_join.specs.Joined.{ChildHeld}

-- ---- what is left

-- no letter is tried
pub record Untried (node : Node) (t : Left) : Type 0 where
  pub none : (j : ℕ) → child_at (child_list t) j ≡ no_record
  pub x : t.kx ≡ node.kx
  pub y : t.ky ≡ node.ky

-- whatever keeps the differences keeps the opposite of letter j
pub record Shut (c : Chip) (ls : List Letter) (s : ℕ) (kx ky : List ℕ) (j : ℕ) : Type 0 where
  pub keeps : (ps : List Spot) → in_branch c ls ps ≡ true → KeepsBoth kx ky ps → keeps_one ps (opposite_at c s (letter_at j)) ≡ true

-- the letters below i are tried; b is the best so far: what it may be after keeps the differences, and of the letters tried those that hold a
-- placement are open
pub record LeftOk (c : HeldChip) (p : ℕ) (node : Node) (s i : ℕ) (t : Left) (b : HeldRecord) : Type 0 where
  pub counted : (j : ℕ) → j < 4 → Counted c.n (child_at (child_list t) j)
  pub fit : (j : ℕ) → j < 4 → (best_of (child_at (child_list t) j) ≡ nothing → ⊥)
      → best_of (child_at (child_list t) j) ≡ fit_of (chip_of c) (letters_in (set node.letters s (byte_of j)) p)
  pub shut : (j : ℕ) → j < i → j < 4 → best_of (child_at (child_list t) j) ≡ nothing → Shut (chip_of c) (letters_in node.letters p) s t.kx t.ky j
  pub covers : (ps : List Spot) → in_branch (chip_of c) (letters_in node.letters p) ps ≡ true → KeepsBoth node.kx node.ky ps
      → NotAfter (best_of b) (placed (chip_of c) ps) ⊎ KeepsBoth t.kx t.ky ps

-- ---- what is answered

-- a node's bounds in the direction of letter i, and the length of the half in the other
abbrev pub own_arcs : Node → ℕ → List ℕ
own_arcs node i = cond (ltb i 2) node.ax node.ay

abbrev pub other_length : Node → ℕ → ℕ
other_length node i = cond (ltb i 2) node.ly node.lx

-- r is the fit of a branch with letter i for pair s, or no placement where nothing there replaces the best; tab: the nets of the letter's direction
pub record ChildOn (c : HeldChip) (p : ℕ) (tab : List ℕ) (node : Node) (s i : ℕ) (t : Slot) (best r : HeldRecord) : Type 0 where
  pub held : Passed c → NodeOk c p node → Open c p node s → Asks c s i t → Tabled (way_at i) (chip_of c) tab
      → ChildHeld c (set node.letters s (byte_of i)) p best r

-- the same, from the nets of both directions
pub record ChildOf (c : HeldChip) (p : ℕ) (tx ty : List ℕ) (node : Node) (s i : ℕ) (t : Slot) (best r : HeldRecord) : Type 0 where
  pub held : Passed c → Arrayed c tx ty → NodeOk c p node → Open c p node s → Asks c s i t → ChildHeld c (set node.letters s (byte_of i)) p best r

-- r is what is left once letter i is tried, where the letters below i were tried and t was left
pub record TriedOne (c : HeldChip) (parts : Parts) (p : ℕ) (tx ty : List ℕ) (node : Node) (s : ℕ) (at : Cursor) (i : ℕ) (best : HeldRecord)
    (t r : Left) : Type 0 where
  pub left : Given c parts p tx ty node best → Turn c p node s at → i < 4 → LeftOk c p node s i t best → LeftOk c p node s (i + 1) r best

-- t is what is left once the letters below i are tried
pub record Tried (c : HeldChip) (parts : Parts) (p : ℕ) (tx ty : List ℕ) (node : Node) (s : ℕ) (at : Cursor) (i : ℕ) (best : HeldRecord)
    (t : Left) : Type 0 where
  pub left : Given c parts p tx ty node best → Turn c p node s at → LeftOk c p node s i t best
