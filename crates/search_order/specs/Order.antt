-- The order of equal macros.
use Rattle.std.specs.Prelude.{ℕ, ◌≤◌, ◌<◌, List, get_or}
use Rattle.model.specs.declared.Spot.{Spot}
use Rattle.model.specs.Meaning.{Chip, blank_spot}
use Rattle.fit_slots.specs.declared.Direction.TheVariants.{Horizontal as horizontal}
use Rattle.search_halves.specs.Kept.{value_on}
use Rattle.search_halves.specs.Exchange.{Alike}
use Rattle.search_kept.specs.Differences.{KeptBy}

-- of two equal macros the earlier one does not lie further right
pub record Ordered (c : Chip) (ps : List Spot) : Type 0 where
  pub le : (i j : ℕ) → i < j → Alike c i j → (get_or ps i blank_spot).x ≤ (get_or ps j blank_spot).x

-- a placement that keeps the table e and orders equal macros keeps the table r
pub record OrderKept (c : Chip) (e r : List ℕ) : Type 0 where
  pub to : (ps : List Spot) → Ordered c ps → KeptBy e (value_on horizontal ps) → KeptBy r (value_on horizontal ps)
