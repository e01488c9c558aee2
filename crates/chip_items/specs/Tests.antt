-- What testing a chip item by item answers: the first refusal.
use Rattle.model.specs.declared.Refusal.{Refusal}
use Rattle.std.specs.Prelude.{ℕ, zero, suc, ◌+◌, not, get_or, Ok, Err, Result}
use Rattle.model.specs.declared.Chip.{Chip as HeldChip}
use Rattle.model.specs.Meaning.{blank_net}
use Rattle.text_grammar.specs.Steps.{need}
use Rattle.chip_faults.specs.declared.Row.{Row}
use Rattle.chip_faults.specs.declared.Row.TheVariants as row
use Rattle.chip_faults.specs.Faults.{die_fault, bare_before, net_fault, row_fault}

-- a fault on that line, or what follows where there is none (0)
abbrev pub on_fault : ℕ → ℕ → Result (Unit {0}) Refusal → Result (Unit {0}) Refusal
on_fault zero line more = more
on_fault (suc n) line more = Err (record { no = suc n; line = line })

-- the first refusal of two tests
abbrev pub then_tested : Result (Unit {0}) Refusal → Result (Unit {0}) Refusal → Result (Unit {0}) Refusal
then_tested (Ok _) more = more
then_tested (Err f) more = Err f

-- the items from item i on, n of them, with the faults f; item 0 stands on the line given
unfoldable pub tests : (ℕ → ℕ) → ℕ → ℕ → ℕ → Result (Unit {0}) Refusal
tests f line i zero = Ok tt
tests f line i (suc n) = on_fault (f i) (line + i) (tests f line (suc i) n)

-- the items of a list of the chip, `count` of them from item q on, the first on the line given
abbrev pub row_tested : HeldChip → Row → ℕ → ℕ → ℕ → Result (Unit {0}) Refusal
row_tested c w q line count = tests (λ i. row_fault c w (q + i)) line 0 count

-- net j on the line given, with its pins from pin q on
abbrev pub net_tested : HeldChip → ℕ → ℕ → ℕ → Result (Unit {0}) Refusal
net_tested c line q j = on_fault (net_fault c.nets j) line (row_tested c row.Pins q (line + 1) (get_or c.nets j blank_net).pins)

-- the nets from net j on, t of them, with their pins from pin q on, and the last line; net 0 stands on the line `first`
unfoldable pub nets_tested : HeldChip → ℕ → ℕ → ℕ → ℕ → Result (Unit {0}) Refusal
nets_tested c first q j zero = on_fault (need (not (bare_before c.nets j)) 7 0) (first + j + q) (Ok tt)
nets_tested c first q j (suc t) =
    then_tested (net_tested c (first + j + q) q j)
    (nets_tested c first (q + (get_or c.nets j blank_net).pins) (suc j) t)

-- all items of a chip in the order of the file, whatever the length of its text
unfoldable pub items_tested : HeldChip → Result (Unit {0}) Refusal
items_tested c =
    on_fault (die_fault c.die) 1
    (then_tested (row_tested c row.Fixes 0 2 c.k)
    (then_tested (row_tested c row.Macs 0 (c.k + 2) c.n)
    (nets_tested c (c.k + 2 + c.n) 0 0 c.t)))
