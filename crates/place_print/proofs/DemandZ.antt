-- Demand 3 over whole-number placements: whatever is written for a text is such a record (`place_means_integers`), and it is `none` exactly where no whole-number placement is legal.
use Prim.Native.Nat.{ℕ}
use mathlib.Core.Path.{◌≡◌, refl, ap}
use mathlib.Core.Bool.{true}
use mathlib.Core.List.{List}
use mathlib.Core.Logic.{◌⊎◌, inl, inr}
use Rattle.model.specs.Meaning.{Chip, none}
use Rattle.text_grammar.specs.Writing.{wrote}
use Rattle.placement.specs.Least.{Best, nothing, found, earliest_least, best_record, chip_record}
use Rattle.placement.specs.Integers.{Corner, legal_z, integers}
use Rattle.placement.proofs.Demand.{earliest_least_integers, nothing_legal_integers}
use Rattle.placement.proofs.Integers.{naturals, legal_same, natural_legal}
use Rattle.search.specs.Place.{place_text}
use Rattle.search.proofs.Demand3.{none_illegal, illegal_none, place_means}
use Rattle.place_print.specs.DemandZ.{SaysNoneZ, SaysLeastZ, PlacedZ}

-- the record of every chip says one or the other
pub record_says : (c : Chip) → SaysNoneZ c (chip_record c) ⊎ SaysLeastZ c (chip_record c)
unfolding chip_record
record_says c = by (earliest_least c) refl
  where
    by : (b : Best) → earliest_least c ≡ b → SaysNoneZ c (best_record (earliest_least c)) ⊎ SaysLeastZ c (best_record (earliest_least c))
    by nothing e = inl (record { is = ap best_record e; illegal = nothing_legal_integers c e })
    by (found l ps) e = inr (record { length = l; placement = ps; is = ap best_record e; first = earliest_least_integers c l ps e })

pub place_means_integers : (text out : List ℕ) (k : ℕ) → (place_text text out).answer ≡ wrote k → PlacedZ text out k (place_text text out).buffer
place_means_integers text out k e =
    let p = place_means text out k e in
    record { chip = p.chip; read = p.read; result = chip_record p.chip; count = p.count; room = p.room; bytes = p.bytes; says = record_says p.chip }

-- `none` exactly when no whole-number placement is legal
pub none_illegal_integers : (c : Chip) → chip_record c ≡ none → (qs : List Corner) → legal_z c qs ≡ true → ⊥
none_illegal_integers c e qs l = none_illegal c e (naturals qs) (natural_legal c qs l)

pub illegal_none_integers : (c : Chip) → ((qs : List Corner) → legal_z c qs ≡ true → ⊥) → chip_record c ≡ none
illegal_none_integers c h = illegal_none c (λ qs l. h (integers qs) (rw (legal_same c qs) l))
