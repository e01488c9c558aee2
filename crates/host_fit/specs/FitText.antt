-- What a fit answers and leaves in the two lent lists, over the bytes and numbers that a host hands over.
use Rattle.model.specs.declared.Refusal.{Refusal}
use Rattle.fit.specs.declared.Fitted.{Fitted}
use Rattle.std.specs.Prelude.{ℕ, ◌*◌, ◌≡◌, List, [], ◌∷◌, ◌++◌, leb, length, drop, Result, Ok, Err, Option, Some, None}
use Rattle.model.specs.Meaning.{Chip}
use Rattle.refusals.specs.Tests.{Test, test, first_failed, unless_failed}
use Rattle.text_grammar.specs.Reading.{Reading, accepted, refused}
use Rattle.chip_text.specs.Text.{read_chip}
use Rattle.placement.specs.Order.{keys}
use Rattle.fit_slots.specs.Fit.{Fit, refused_by, no_fit, placed, fit_each, string_for, fit_tests, Filled}
use Rattle.host_codes.specs.declared.Code.{Code}
use Rattle.host_codes.specs.Code.{Outcome, granted, denied, code, of_fit}
use Rattle.host_codes.specs.Code as coded

-- the tests of a fit, the last being 15 for the slots, and 15 for the positions, by the lengths of the two lists
abbrev pub lent_tests : Chip → List ℕ → ℕ → ℕ → List Test
lent_tests c s slots places = fit_tests c s slots ++ (test 15 (leb (2 * length c.macs) places) ∷ [])

-- the fit of one letter for each pair, with lists of those lengths lent for the slots and the positions
abbrev pub fit_lent : Chip → List ℕ → ℕ → ℕ → Fit
fit_lent c s slots places = unless_failed refused_by (first_failed (lent_tests c s slots places)) (fit_each c s)

-- the text is read first; then the letters that the string stands for are fitted
abbrev pub fit_read : Reading Chip → List ℕ → ℕ → ℕ → Fit
fit_read (accepted c) s slots places = fit_lent c (string_for c s) slots places
fit_read (refused number line) s slots places = refused_by number line

abbrev pub fit_text : List ℕ → List ℕ → ℕ → ℕ → Fit
fit_text text s slots places = fit_read (read_chip text) s slots places

-- document 01's number and values for each case of the program's answer of a fit
abbrev pub of_outcome : Result (Option Fitted) Refusal → Outcome
of_outcome (Ok (Some f)) = granted f.length
of_outcome (Ok None) = denied 0
of_outcome (Err f) = coded.refused f.no f.line

-- the list of slots: before was in it at entry, after at exit
abbrev pub SlotsFilled : Reading Chip → List ℕ → Fit → List ℕ → List ℕ → Type 0
SlotsFilled (accepted c) s f before after = Filled c (string_for c s) f before after
SlotsFilled (refused number line) s f before after = after ≡ before

-- numbers at the front of a list, the rest as it was
abbrev pub over : List ℕ → List ℕ → List ℕ
over xs before = xs ++ drop (length xs) before

-- the list of positions: the corners of a placement, and the rest as it was
abbrev pub places_after : Fit → List ℕ → List ℕ
places_after (placed wl slots ps) before = over (keys ps) before
places_after no_fit before = before
places_after (refused_by number line) before = before

-- the answer and both lists of a fit
pub record FitDone (read : Reading Chip) (s : List ℕ) (r : Code) (slots slotsAfter places placesThen : List ℕ) : Type 0 where
  pub answer : r ≡ code (of_fit (fit_read read s (length slots) (length places)))
  pub filled : SlotsFilled read s (fit_read read s (length slots) (length places)) slots slotsAfter
  pub corners : placesThen ≡ places_after (fit_read read s (length slots) (length places)) places
