-- Equal macros: of two macros of one size whose exchange leaves the nets the same, the earlier one does not lie further right in the earliest least placement.
use Prim.Native.Nat.{ℕ, ◌≤◌, ◌<◌}
use mathlib.Core.Path.{◌≡◌, sym, ap, ◌∙◌}
use mathlib.Core.Bool.{true, false≢true}
use mathlib.Core.List.{List}
use native.Mathlib.Decide.{dec_le}
use native.Mathlib.Omega.{arith}
use lib.ListN.{length, get_or}
use Rattle.model.specs.declared.Spot.{Spot}
use Rattle.model.specs.Meaning.{Chip, blank_spot}
use Rattle.chip_text.specs.Valid.{Valid}
use Rattle.placement.specs.Legal.{legal}
use Rattle.placement.specs.Order.{before}
use Rattle.placement.proofs.OrderLaws.{before_irreflexive, before_transitive}
use Rattle.placement.specs.Demand.{EarliestLeast}
use Rattle.search_branches.proofs.Unions.{passes_long}
use Rattle.placement.proofs.Nearby.{legal_inside}
use Rattle.search_halves.specs.Exchange.{exchanged, Alike}
use Rattle.search_halves.proofs.Exchanging.{exchanged_earlier}
use Rattle.search_halves.proofs.StillLegal.{still_legal}
use Rattle.search_halves.proofs.SameLength.{same_length}

module _ (c : Chip) (v : Valid c) (l : ℕ) (ps : List Spot) (e : EarliestLeast c (legal c) l ps) where
  long : length ps ≡ length c.macs
  long = passes_long c (legal c) (legal_inside c) ps e.passed

  -- the earlier of two equal macros does not lie further right
  pub equal_macros : (i j : ℕ) → i < j → Alike c i j → (get_or ps i blank_spot).x ≤ (get_or ps j blank_spot).x
  equal_macros i j h alike = by (dec_le (get_or ps i blank_spot).x (get_or ps j blank_spot).x)
    where
      qs : List Spot
      qs = exchanged i j ps

      earlier : (get_or ps j blank_spot).x < (get_or ps i blank_spot).x → before qs ps ≡ true
      earlier x = exchanged_earlier i j ps h (let a = alike.second in let b = long in omega arith) x

      never : before qs ps ≡ true → ⊥
      never b = false≢true (sym (before_irreflexive ps) ∙ before_transitive ps qs ps
          (e.earliest qs (still_legal c i j alike.first alike.second alike.size ps long e.passed) (e.long ∙ sym (same_length c v i j alike ps long))
          (λ s. false≢true (sym (before_irreflexive ps) ∙ (ap (λ (t : List Spot). before t ps) (sym s) ∙ b)))) b)

      by : Dec ((get_or ps i blank_spot).x ≤ (get_or ps j blank_spot).x) → (get_or ps i blank_spot).x ≤ (get_or ps j blank_spot).x
      by (yes q) = q
      by (no n) = absurd (never (earlier (omega arith)))
