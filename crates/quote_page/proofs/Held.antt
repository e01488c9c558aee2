-- A chip held as a value is within the page's limits exactly when its meaning is, for every value: counts that its arrays do not hold are beyond them.
use Prim.Native.Nat.{ℕ, ◌≤◌, ◌<◌, min}
use native.Mathlib.Decide.{dec_le}
use native.Mathlib.Omega.{arith}
use mathlib.Core.Path.{◌≡◌, sym, ◌∙◌}
use mathlib.Core.Bool.{Bool}
use lib.Dec.{leb}
use lib.ListN.{length}
use borrow.Author.Tests.{le-leb, lt-leb}
use Rattle.model.specs.declared.Chip.{Chip as HeldChip}
use Rattle.model.specs.Meaning.{first_of, blank_fix, blank_mac, blank_net, nets_of, chip_of}
use Rattle.model.proofs.FirstOf.{first_length}
use Rattle.chip_text.specs.Kind.{pin_count, counts_of}
use Rattle.chip_text.specs.Valid.{pins_before}
use Rattle.chip_text.proofs.HeldNets.{pins_mean, taken_first}
use Rattle.chip_text.proofs.Passing.{Whole}
use Rattle.quote_page.specs.Page.{within_page}

-- ---- a chip held as a value

-- numbers that are equal up to m are at most l, below m, alike
same_leb : (m a b l : ℕ) → l < m → min m a ≡ min m b → leb a l ≡ leb b l
same_leb m a b l h e = by (dec_le a l)
  where
    by : Dec (a ≤ l) → leb a l ≡ leb b l
    by (yes p) = le-leb a l p ∙ sym (le-leb b l (omega arith))
    by (no p) = lt-leb a l (omega arith) ∙ sym (lt-leb b l (omega arith))

pub page_held : (c : HeldChip) → Whole c → (q : ℕ) → q ≡ min 129 (pins_before c.t c.nets) → (r : Bool) → r ≡ within_page (record { fixes = c.k; macs = c.n; nets = c.t; pins = q }) → r ≡ within_page (counts_of (chip_of c))
unfolding chip_of
page_held c w q e r s =
    let f = first_length blank_fix c.k c.fixes in
    let m = first_length blank_mac c.n c.macs in
    let p = pins_mean (first_of blank_net c.t c.nets) c.pins in
    let b = taken_first c.t c.nets in
    let x = w.fixes in
    let y = w.macs in
    let z = w.pins in
    s
    ∙ rw (
      same_leb 9 c.n (length (first_of blank_mac c.n c.macs)) 4 (omega arith) (omega arith),
      same_leb 9 c.k (length (first_of blank_fix c.k c.fixes)) 2 (omega arith) (omega arith),
      same_leb 129 q (pin_count (nets_of (first_of blank_net c.t c.nets) c.pins)) 16 (omega arith) (omega arith),
    )
