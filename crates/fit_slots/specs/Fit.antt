-- What a fit answers. Document 01, "The fit" and "Refusal table": the refusal of the chip, tested as its text would be; then the first of 11, 12,
-- 15 whose test fails; else a placement with its length, or no fit.
use Rattle.std.specs.Prelude.{ℕ, ◌+◌, ◌*◌, ◌/◌, ◌-◌, ◌≡◌, List, [], ◌∷◌, map, Bool, ◌||◌, cond, leb, eqb, length, take, drop, replicate}
use Rattle.num_text.specs.Number.{all_of}
use Rattle.model.specs.declared.Spot.{Spot}
use Rattle.model.specs.Meaning.{Chip}
use Rattle.refusals.specs.Tests.{Test, test, first_failed, unless_failed}
use Rattle.text_grammar.specs.Reading.{Reading, accepted, refused}
use Rattle.chip_text.specs.Kind.{pin_count}
use Rattle.chip_text.specs.Text.{read_chip, chip_text}
use Rattle.placement.specs.Letters.{Letter, left, right, low, high, dot}
use Rattle.placement.specs.Least.{Best, nothing, found, fit_of}
use Rattle.fit_slots.specs.Amounts.{Flow, Chain}

-- a fit: refused with number and line, no fit, or the wirelength, the number of slots and the placement
pub data Fit : Type 0 where
  refused_by : ℕ → ℕ → Fit
  no_fit : Fit
  placed : ℕ → ℕ → List Spot → Fit

-- the bytes L, R, B, A and the dot
abbrev pub is_letter : ℕ → Bool
is_letter b = eqb b 76 || (eqb b 82 || (eqb b 66 || (eqb b 65 || eqb b 46)))

-- every byte is a letter
abbrev pub are_letters : List ℕ → Bool
are_letters s = all_of is_letter s

-- the letter of a byte
abbrev pub letter_of : ℕ → Letter
letter_of b = cond (eqb b 76) left (cond (eqb b 82) right (cond (eqb b 66) low (cond (eqb b 65) high dot)))

-- the letters of a string
abbrev pub letters_of : List ℕ → List Letter
letters_of s = map letter_of s

-- "With n macros, k fixes there are p = n(n−1)/2 + n·k letters"
abbrev pub letters_for : ℕ → ℕ → ℕ
letters_for n k = n * (n - 1) / 2 + n * k

-- the number of letters of a chip
abbrev pub letter_count : Chip → ℕ
letter_count c = letters_for (length c.macs) (length c.fixes)

-- p dots
abbrev pub dots : ℕ → List ℕ
dots p = replicate p 46

-- the letters that a string stands for where there are p pairs: its own. Document 02, Card 12: "For the fit the empty string now means that every pair
-- is undecided, equal to a string of dots."
abbrev pub stands_for : ℕ → List ℕ → List ℕ
stands_for p [] = dots p
stands_for p (b ∷ s) = b ∷ s

-- the same where the pairs are those of a chip
abbrev pub string_for : Chip → List ℕ → List ℕ
string_for c s = stands_for (letter_count c) s

-- 2n + p + 2q slots for each of the two directions
abbrev pub slot_count : Chip → ℕ
slot_count c = 2 * (2 * length c.macs + letter_count c + 2 * pin_count c.nets)

-- what a fit answers for what was found
abbrev pub best_fit : ℕ → Best → Fit
best_fit slots nothing = no_fit
best_fit slots (found l ps) = placed l slots ps

-- the fit of one letter for each pair
abbrev pub fit_each : Chip → List ℕ → Fit
fit_each c s = best_fit (slot_count c) (fit_of c (letters_of s))

-- 11 where there is not one letter for each of the pairs, 12 where a byte is no letter, 15 where the lent list is shorter than the slots
abbrev pub tests_by : ℕ → ℕ → List ℕ → ℕ → List Test
tests_by pair_count slots s room =
    test 11 (eqb (length s) pair_count)
    ∷ test 12 (are_letters s)
    ∷ test 15 (leb slots room)
    ∷ []

-- those of a chip
abbrev pub fit_tests : Chip → List ℕ → ℕ → List Test
fit_tests c s room = tests_by (letter_count c) (slot_count c) s room

-- the fit of a chip that was read: its refusal, those of the tests, or the placement
abbrev pub fit_chip : Reading Chip → List ℕ → ℕ → Fit
fit_chip (refused number line) s room = refused_by number line
fit_chip (accepted c) s room = unless_failed refused_by (first_failed (fit_tests c s room)) (fit_each c s)

-- the fit of a chip and a letter string, by the letters that it stands for, with a list of that many slots lent
unfoldable pub fit_letters : Chip → List ℕ → ℕ → Fit
fit_letters c s room = fit_chip (read_chip (chip_text c)) (string_for c s) room

-- ---- what the lent list holds for letters: before was in it at entry, after at exit

-- the slots past the last are not touched
pub record Kept (count : ℕ) (before after : List ℕ) : Type 0 where
  pub long : length after ≡ length before
  pub rest : drop count after ≡ drop count before

-- after a placement: a flow of its length, and the rest as it was
pub record Fitted (c : Chip) (s : List ℕ) (l count : ℕ) (before after : List ℕ) : Type 0 where
  pub flow : Flow c (letters_of s) (take count after) l
  pub kept : Kept count before after

-- after no fit: a closed chain, and the rest as it was
pub record Refuted (c : Chip) (s : List ℕ) (before after : List ℕ) : Type 0 where
  pub chain : Chain c (letters_of s) (take (slot_count c) after)
  pub kept : Kept (slot_count c) before after

-- what the list holds by what the fit answers; after a refusal what it held before
abbrev pub Filled : Chip → List ℕ → Fit → List ℕ → List ℕ → Type 0
Filled c s (refused_by number line) before after = after ≡ before
Filled c s no_fit before after = Refuted c s before after
Filled c s (placed l count ps) before after = Fitted c s l count before after
