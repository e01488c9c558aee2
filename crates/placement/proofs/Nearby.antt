-- Placements within the die of a valid chip, so legal ones too: each coordinate is at most 1,024.
use Prim.Native.Nat.{ℕ, zero, suc, ◌+◌, ◌≤◌, ◌<◌}
use mathlib.Core.Path.{◌≡◌}
use mathlib.Core.Bool.{true}
use mathlib.Core.List.{List, [], ◌∷◌, zip_with}
use native.Mathlib.Nat.{le_of_suc-le-suc}
use native.Mathlib.Omega.{arith}
use lib.Dec.{leb, eqb}
use lib.ListN.{length, get_or}
use borrow.Author.Tests.{leb-true, eqb-true}
use Rattle.num_text.specs.Number.{all_of}
use Rattle.model.specs.declared.Mac.{Mac}
use Rattle.model.specs.declared.Spot.{Spot}
use Rattle.model.specs.Meaning.{Chip, blank_spot}
use Rattle.text_grammar.proofs.Lacks.{and_left, and_right}
use Rattle.chip_text.specs.Valid.{Valid}
use Rattle.geometry.specs.Box.{box_at, in_die}
use Rattle.placement.specs.Legal.{boxes, all_apart, within, legal}
use Rattle.placement.specs.Corners.{CornersWithin}

module _ (c : Chip) where
  -- a macro in the die has its corner there
  pub corner_inside : (m : Mac) (p : Spot) → in_die c.die (box_at m p) ≡ true → (p.x ≤ c.die.w) × (p.y ≤ c.die.h)
  corner_inside m p h =
      let u = leb-true (p.x + m.w) c.die.w (and_left (leb (p.x + m.w) c.die.w) (leb (p.y + m.h) c.die.h) h) in
      let v = leb-true (p.y + m.h) c.die.h (and_right (leb (p.x + m.w) c.die.w) (leb (p.y + m.h) c.die.h) h) in
      (omega arith, omega arith)

  corner_in : (ms : List Mac) (ps : List Spot) → length ps ≡ length ms → all_of (in_die c.die) (boxes ms ps) ≡ true → (i : ℕ) → i < length ps → ((get_or ps i blank_spot).x ≤ c.die.w) × ((get_or ps i blank_spot).y ≤ c.die.h)
  unfolding zip_with all_of
  corner_in ms [] e h i g = absurd (omega arith)
  corner_in [] (p ∷ ps) e h i g = absurd (omega arith)
  corner_in (m ∷ ms) (p ∷ ps) e h zero g = corner_inside m p (and_left (in_die c.die (box_at m p)) (all_of (in_die c.die) (boxes ms ps)) h)
  corner_in (m ∷ ms) (p ∷ ps) e h (suc i) g = corner_in ms ps (omega arith) (and_right (in_die c.die (box_at m p)) (all_of (in_die c.die) (boxes ms ps)) h) i (le_of_suc-le-suc g)

  module _ (ps : List Spot) (h : within c ps ≡ true) where
    pub within_long : length ps ≡ length c.macs
    unfolding within
    within_long = eqb-true (length ps) (length c.macs) (and_left (eqb (length ps) (length c.macs)) (all_of (in_die c.die) (boxes c.macs ps)) h)

    pub boxes_inside : all_of (in_die c.die) (boxes c.macs ps) ≡ true
    unfolding within
    boxes_inside = and_right (eqb (length ps) (length c.macs)) (all_of (in_die c.die) (boxes c.macs ps)) h

    pub within_near : Valid c → CornersWithin ps
    within_near v = record {
      x = λ i g. let q = (corner_in c.macs ps within_long boxes_inside i g).0 in let d = v.die_w.high in omega arith;
      y = λ i g. let q = (corner_in c.macs ps within_long boxes_inside i g).1 in let d = v.die_h.high in omega arith;
    }

  -- a legal placement is within the die
  pub legal_inside : (ps : List Spot) → legal c ps ≡ true → within c ps ≡ true
  unfolding legal
  legal_inside ps h = and_left (within c ps) (all_apart c (boxes c.macs ps)) h

  pub legal_near : (ps : List Spot) → legal c ps ≡ true → Valid c → CornersWithin ps
  legal_near ps h = within_near ps (legal_inside ps h)
