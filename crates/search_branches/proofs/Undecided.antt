-- The number of undecided pairs: a letter in the place of a dot lowers it.
use Prim.Native.Nat.{ℕ, zero, suc, ◌+◌, ◌<◌}
use mathlib.Core.Path.{◌≡◌, refl, ap}
use mathlib.Core.Bool.{false, true≢false}
use mathlib.Core.List.{List, [], ◌∷◌}
use native.Mathlib.Omega.{arith}
use lib.ListN.{length, get_or, set}
use Rattle.placement.specs.Letters.{Letter, left, right, low, high, dot}
use Rattle.search_branches.specs.Branch.{is_dot, undecided}

-- 1 for a dot, 0 for a letter that demands something
abbrev dots : Letter → ℕ
dots left = 0
dots right = 0
dots low = 0
dots high = 0
dots dot = 1

undecided_first : (l : Letter) (ls : List Letter) → undecided (l ∷ ls) ≡ dots l + undecided ls
unfolding undecided
undecided_first left ls = omega arith
undecided_first right ls = omega arith
undecided_first low ls = omega arith
undecided_first high ls = omega arith
undecided_first dot ls = omega arith

dots_none : (l : Letter) → is_dot l ≡ false → dots l ≡ 0
dots_none left n = refl
dots_none right n = refl
dots_none low n = refl
dots_none high n = refl
dots_none dot n = absurd (true≢false n)

dots_one : (l : Letter) → l ≡ dot → dots l ≡ 1
dots_one l e = ap dots e

-- a letter in the place of a dot leaves one dot fewer
pub undecided_set : (ls : List Letter) (s : ℕ) (l : Letter) → s < length ls → get_or ls s dot ≡ dot → is_dot l ≡ false → suc (undecided (set ls s l)) ≡ undecided ls
undecided_set [] s l h e n = absurd (omega arith)
undecided_set (m ∷ ls) zero l h e n = let a = undecided_first m ls in let b = undecided_first l ls in let d = dots_one m e in let z = dots_none l n in omega arith
undecided_set (m ∷ ls) (suc s) l h e n = let i = undecided_set ls s l (omega arith) e n in let a = undecided_first m ls in let b = undecided_first m (set ls s l) in omega arith

pub undecided_less : (ls : List Letter) (s : ℕ) (l : Letter) → s < length ls → get_or ls s dot ≡ dot → is_dot l ≡ false → undecided (set ls s l) < undecided ls
undecided_less ls s l h e n = let i = undecided_set ls s l h e n in omega arith
