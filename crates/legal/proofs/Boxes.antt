-- The macros at their positions, stored one by one.
use mathlib.Core.Path.{◌≡◌, sym, ◌∙◌}
use mathlib.Core.List.{List}
use Prim.Native.Nat.{ℕ, ◌+◌, ◌≤◌, ◌<◌}
use native.Mathlib.Omega.{arith}
use lib.ListN.{length, get_or, take, set}
use Rattle.model.specs.declared.Mac.{Mac}
use Rattle.model.specs.declared.Spot.{Spot}
use Rattle.model.specs.Meaning.{blank_mac, blank_spot}
use Rattle.geometry.specs.declared.Box.{Box}
use Rattle.geometry.specs.Box.{box_at}
use Rattle.geometry.proofs.Stored.{one_stored, all_stored}
use Rattle.placement.specs.Legal.{boxes}
use Rattle.placement.proofs.Boxes.{boxes_long, boxes_at_law}

-- the first i boxes are stored
module _ (ms : List Mac) (ps : List Spot) (bs : List Box) (i : ℕ) (l : length ms ≡ 8) (m : length ps ≡ 8) (n : length bs ≡ 8) (e : take i bs ≡ take i (boxes ms ps)) where
  eight : length (boxes ms ps) ≡ 8
  eight = boxes_long ms ps (omega arith) ∙ l

  pub mac_stored : (b : Box) → b ≡ box_at (get_or ms i blank_mac) (get_or ps i blank_spot) → i < 8 → take (i + 1) (set bs i b) ≡ take (i + 1) (boxes ms ps)
  mac_stored b q h = one_stored (boxes ms ps) bs i eight n h b (q ∙ sym (boxes_at_law ms ps (omega arith) i (omega arith))) e

  pub macs_stored : i ≤ 8 → 8 ≤ i → bs ≡ boxes ms ps
  macs_stored h g = all_stored (boxes ms ps) bs i eight n h g e
