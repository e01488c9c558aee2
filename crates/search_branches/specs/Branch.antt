-- A branch of the search: the legal placements that keep some letters; the better of two results.
use Rattle.std.specs.Prelude.{ℕ, suc, List, [], ◌∷◌, Bool, true, false, ◌&&◌, ◌||◌, ltb, eqb}
use Rattle.model.specs.declared.Spot.{Spot}
use Rattle.model.specs.Meaning.{Chip}
use Rattle.placement.specs.Legal.{legal}
use Rattle.placement.specs.Order.{before}
use Rattle.placement.specs.Letters.{Letter, dot, left, right, low, high}
use Rattle.placement.specs.Pairs.{keeps_letters}
use Rattle.placement.specs.Least.{Best, nothing, found}

-- a placement of length l, or an equally long one that comes earlier: document 01, "the best placement so far is replaced by a shorter one, or by
-- an equally short one that comes earlier"
abbrev pub replaces : ℕ → List Spot → ℕ → List Spot → Bool
replaces l ps m qs = ltb l m || (eqb l m && before ps qs)

abbrev pub pick : Bool → Best → Best → Best
pick true a b = a
pick false a b = b

-- the best so far, replaced by the other where that is shorter, or equally short and earlier
abbrev pub better : Best → Best → Best
better a nothing = a
better nothing (found l ps) = found l ps
better (found m qs) (found l ps) = pick (replaces l ps m qs) (found l ps) (found m qs)

-- a legal placement that keeps the letters
abbrev pub in_branch : Chip → List Letter → List Spot → Bool
in_branch c ls ps = legal c ps && keeps_letters c ls ps

abbrev pub is_dot : Letter → Bool
is_dot left = false
is_dot right = false
is_dot low = false
is_dot high = false
is_dot dot = true

-- the number of undecided pairs
unfoldable pub undecided : List Letter → ℕ
undecided [] = 0
undecided (left ∷ ls) = undecided ls
undecided (right ∷ ls) = undecided ls
undecided (low ∷ ls) = undecided ls
undecided (high ∷ ls) = undecided ls
undecided (dot ∷ ls) = suc (undecided ls)
