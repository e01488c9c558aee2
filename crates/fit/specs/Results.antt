-- What is known of the directions of a fit, and the answer with the list that it leaves.
use Rattle.std.specs.Prelude.{ℕ, ◌≡◌, true, List}
use Rattle.model.specs.declared.Chip.{Chip as HeldChip}
use Rattle.model.specs.Meaning.{chip_of}
use Rattle.axis_graph.specs.declared.Verdict.{Verdict}
use Rattle.fit_slots.specs.declared.Direction.TheVariants.{Vertical as vertical}
use Rattle.fit_slots.specs.Fit.{Fit, Filled}
use Rattle.fit_axes.specs.Axes.{Taken, Directed}
use Rattle.fit_lists.specs.Lists.{is_solved}
use Rattle.fit.specs.declared.FitAnswer.{FitAnswer}
use Rattle.fit.specs.Answer.{answer_for}

-- what the solver says of the vertical direction, where the horizontal one, with verdict v, is solved
pub record Second (c : HeldChip) (s : List ℕ) (v w : Verdict) (at f : List ℕ) : Type 0 where
  pub told : Taken c s → is_solved v ≡ true → Directed c s vertical w at f

-- the answer of a fit, and the list
pub record Answered (c : HeldChip) (s : List ℕ) (f : Fit) (r : FitAnswer) (before after : List ℕ) : Type 0 where
  pub answer : r ≡ answer_for f
  pub list : Filled (chip_of c) s f before after
