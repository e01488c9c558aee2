-- The record of a valid chip is accepted when it is read: at most 8 macros, each at 0..1,024, and a wirelength of at most 589,824,000.
use mathlib.Core.Path.{◌≡◌, refl}
use native.Mathlib.Omega.{arith}
use Rattle.model.specs.Meaning.{Chip}
use Rattle.text_grammar.specs.Reading.{accepted}
use Rattle.chip_text.specs.Valid.{Valid}
use Rattle.record_text.specs.Text.{read_record, record_text}
use Rattle.record_test.proofs.InRange.{none_accepted, least_accepted}
use Rattle.placement.specs.Least.{Best, nothing, found, earliest_least, best_record, chip_record}
use Rattle.placement.proofs.Demand.{earliest_least_found}
use Rattle.placement.proofs.LengthBound.{wirelength_bound}
use Rattle.placement.proofs.Nearby.{within_long, within_near, legal_inside}

module _ (c : Chip) (v : Valid c) where
  best_read : (b : Best) → earliest_least c ≡ b → read_record (record_text (best_record b)) ≡ accepted (best_record b)
  best_read nothing e = none_accepted
  best_read (found wl ps) e =
      let f = earliest_least_found c wl ps e in
      let inside = legal_inside c ps f.passed in
      let k = within_long c ps inside in
      let m = v.mac_count in
      let near = within_near c ps inside v in
      let w = wirelength_bound c ps v near in
      let u = f.long in
      least_accepted wl ps (omega arith) (omega arith) (λ i h. (near.x i h, near.y i h))

  pub chip_record_read : read_record (record_text (chip_record c)) ≡ accepted (chip_record c)
  unfolding chip_record
  chip_record_read = best_read (earliest_least c) refl
