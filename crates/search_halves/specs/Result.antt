-- Results of a search as they stand to each other: a placement as a result, which of two does not come after the other, and a result that is a legal placement.
use Prim.{Unit}
use Rattle.std.specs.Prelude.{◌≡◌, true, List}
use Rattle.model.specs.declared.Spot.{Spot}
use Rattle.model.specs.Meaning.{Chip}
use Rattle.placement.specs.Legal.{legal}
use Rattle.placement.specs.Length.{wirelength}
use Rattle.placement.specs.Least.{Best, nothing, found}
use Rattle.search_branches.specs.Branch.{better}

-- a placement with its own length
abbrev pub placed : Chip → List Spot → Best
placed c ps = found (wirelength c ps) ps

-- b does not replace a
abbrev pub NotAfter : Best → Best → Type 0
NotAfter a b = better a b ≡ a

-- nothing, or a legal placement with its own length
abbrev pub Real : Chip → Best → Type 0
Real c nothing = Unit {0}
Real c (found l ps) = (legal c ps ≡ true) × (l ≡ wirelength c ps)
