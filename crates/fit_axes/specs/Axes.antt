-- What a direction reads of a chip that is held as a value, the axis made from it for the solver, and what its solution tells of the chip.
use Rattle.std.specs.Prelude.{ℕ, ◌≤◌, ◌≡◌, List, length, get_or, take}
use Rattle.model.specs.declared.Net.{Net}
use Rattle.model.specs.declared.Pin.{Pin}
use Rattle.model.specs.declared.Chip.{Chip}
use Rattle.model.specs.Meaning.{chip_of}
use Rattle.model.specs.Limits.{most_macs}
use Rattle.chip_text.specs.Valid.{HeldValid, Valid}
use Rattle.chip_text.proofs.Passing.{Whole}
use Rattle.axis_bounds.specs.declared.Slot.{Slot}
use Rattle.axis_bounds.specs.declared.AxisNet.{AxisNet}
use Rattle.axis_bounds.specs.declared.AxisPin.{AxisPin}
use Rattle.axis_bounds.specs.declared.Axis.{Axis as HeldAxis}
use Rattle.axis_bounds.specs.Axis.{axis_of}
use Rattle.axis_bounds.specs.Held.{Held}
use Rattle.axis_bounds.specs.Answer.{SolvedOn, UnsolvedOn}
use Rattle.axis_graph.specs.declared.Verdict.{Verdict}
use Rattle.axis_graph.specs.declared.Verdict.TheVariants as verdict
use Rattle.axis_graph.specs.Limits.{slot_room}
use Rattle.fit_slots.specs.declared.Direction.{Direction}
use Rattle.fit_slots.specs.declared.Direction.TheVariants.{Horizontal as horizontal, Vertical as vertical}
use Rattle.fit_slots.specs.Fit.{letters_of, letter_count}
use Rattle.fit_slots.specs.Slots.{couples}
use Rattle.fit_slots.specs.Axes.{held_slots, axis_for}

-- a pin's x or y, 4,096 higher
abbrev pub held_up : Direction → Pin → ℕ
held_up horizontal p = p.xup
held_up vertical p = p.yup

abbrev pub held_pin : Direction → Pin → AxisPin
held_pin d p = record { node = p.m; up = held_up d p }

abbrev pub held_net : Net → AxisNet
held_net t = record { weight = t.weight; pins = t.pins }

-- the chip that c holds is accepted, its arrays are as long as its type says, and s has one letter for each of its pairs
pub record Taken (c : Chip) (s : List ℕ) : Type 0 where
  pub fine : HeldValid c
  pub valid : Valid (chip_of c)
  pub whole : Whole c
  pub letters : length s ≡ letter_count (chip_of c)

-- the slots of the pairs in direction d, one for each letter
pub record PairsMade (c : Chip) (s : List ℕ) (d : Direction) (r : List Slot) : Type 0 where
  pub made : Taken c s → take (length s) r ≡ held_slots d (letters_of s) (couples (chip_of c))

-- r holds the axis of direction d of the chip that c holds, with the letters s, and the solver takes it
pub record AxisFor (c : Chip) (s : List ℕ) (d : Direction) (r : HeldAxis) : Type 0 where
  pub axis : axis_of r ≡ axis_for d (chip_of c) (letters_of s)
  pub held : Held r
  pub macs : r.n ≡ c.n

pub record AxisMade (c : Chip) (s : List ℕ) (d : Direction) (r : HeldAxis) : Type 0 where
  pub made : Taken c s → AxisFor c s d r

-- direction d is solved: the macros' coordinates, 0 past the last, and the amounts
pub record SolvedBy (c : Chip) (s : List ℕ) (d : Direction) (at f : List ℕ) : Type 0 where
  pub solved : SolvedOn (axis_for d (chip_of c) (letters_of s)) (take c.n at) f
  pub rest : (i : ℕ) → c.n ≤ i → get_or at i 0 ≡ 0
  pub long : length at ≡ most_macs
  pub room : length f ≡ slot_room

pub record UnsolvedBy (c : Chip) (s : List ℕ) (d : Direction) (f : List ℕ) : Type 0 where
  pub unsolved : UnsolvedOn (axis_for d (chip_of c) (letters_of s)) f
  pub room : length f ≡ slot_room

-- what the solver says of direction d
abbrev pub Directed : Chip → List ℕ → Direction → Verdict → List ℕ → List ℕ → Type 0
Directed c s d verdict.Solved at f = SolvedBy c s d at f
Directed c s d verdict.Unsolvable at f = UnsolvedBy c s d f
Directed c s d verdict.Malformed at f = ⊥

pub record Solves (c : Chip) (s : List ℕ) (d : Direction) (v : Verdict) (at f : List ℕ) : Type 0 where
  pub told : Taken c s → Directed c s d v at f
