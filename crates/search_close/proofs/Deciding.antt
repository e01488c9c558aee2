-- What the choice means for letters that a placement keeps: the chosen pair is undecided, and where none is chosen the placement is legal.
use Prim.Native.Nat.{ℕ, ◌<◌}
use mathlib.Core.Path.{◌≡◌}
use mathlib.Core.Bool.{true}
use mathlib.Core.List.{List}
use native.Mathlib.Omega.{arith}
use lib.ListN.{length, get_or}
use Rattle.model.specs.declared.Spot.{Spot}
use Rattle.model.specs.Meaning.{Chip}
use Rattle.placement.specs.Legal.{legal}
use Rattle.placement.specs.Letters.{Letter, dot}
use Rattle.placement.specs.Pairs.{keeps_letters}
use Rattle.search_branches.proofs.Overlaps.{legal_by_pairs, overlap_undecided}
use Rattle.search_choose.specs.Choice.{no_pair, Chosen}

module _ (c : Chip) (ls : List Letter) (ps : List Spot) (p r : ℕ) (k : keeps_letters c ls ps ≡ true) (e : p ≡ length ls) (h : Chosen c ps p r) where
  pub chosen_undecided : r < p → get_or ls r dot ≡ dot
  chosen_undecided g = overlap_undecided c ls ps k no_pair r (omega arith) (h.overlap g)

  pub chosen_legal : r ≡ p → legal c ps ≡ true
  chosen_legal g = legal_by_pairs c ls ps k no_pair (λ s b d. h.none g s (omega arith))
