-- The refusal number of measuring and of fitting a chip text is 1 to 15, and that of the quoting page is one of these or 22; so it is never 0 or 255, the two
-- numbers of the C interface that are no refusal.
use Prim.Native.Nat.{ℕ, suc, ◌*◌}
use mathlib.Core.Path.{◌≡◌, refl, ap, ◌∙◌}
use mathlib.Core.Logic.{◌⊎◌, inl, inr}
use mathlib.Core.Bool.{Bool, true, false, cond}
use mathlib.Core.List.{List, [], ◌∷◌}
use lib.Dec.{eqb}
use lib.ListN.{length}
use Rattle.model.specs.Meaning.{Chip}
use Rattle.refusals.specs.Tests.{Test, test, first_failed}
use Rattle.text_grammar.specs.Reading.{Reading, accepted, refused}
use Rattle.text_grammar.specs.Writing.{not_written}
use Rattle.chip_text.specs.Kind.{counts_of}
use Rattle.chip_text.specs.Text.{read_chip}
use Rattle.placement.specs.Least.{fit_of}
use Rattle.measure_held.specs.Answer.{refused as not_measured}
use Rattle.measure.specs.Measuring.{measure_passed}
use Rattle.fit_slots.specs.Fit.{refused_by, letters_of, slot_count, string_for}
use Rattle.search.specs.Place.{place_read}
use Rattle.quote_page.specs.Page.{within_page, page_read}
use Rattle.quote.specs.Quote.{quote_text}
use Rattle.text_grammar.proofs.Numbers.{Numbered}
use Rattle.chip_text.proofs.Numbers.{chip_number}
use Rattle.place_print.proofs.Refusals.{wider, place_number, tabled, first_told, measured_told, passed_told, fit_told}
use Rattle.host_measure.specs.MeasureText.{corners_of, measure_read, measure_text}
use Rattle.host_fit.specs.FitText.{lent_tests, fit_read, fit_text}

-- the tests of measuring on a chip that was read
abbrev counted : Chip → List ℕ → List Test
counted c list = test 13 (eqb (length list) (2 * length c.macs)) ∷ []

pub measure_text_number : (text list : List ℕ) (n l : ℕ) → measure_text text list ≡ not_measured n l → Numbered 15 n
unfolding tabled
measure_text_number text list n l e = by (read_chip text) refl e (λ c. first_told (counted c list) refl)
  where
    by : (r : Reading Chip) → read_chip text ≡ r → measure_read r list ≡ not_measured n l → ((c : Chip) (j : ℕ) → first_failed (counted c list) ≡ suc j → Numbered 15 (suc j)) → Numbered 15 n
    by (accepted c) t q told = measured_told (first_failed (counted c list)) (told c) (measure_passed c (corners_of list)) n l (passed_told c (corners_of list) n l) q
    by (refused k m) t q told = wider k n (chip_number text k m t) cc

pub fit_text_number : (text s : List ℕ) (slots places n l : ℕ) → fit_text text s slots places ≡ refused_by n l → Numbered 15 n
unfolding tabled
fit_text_number text s slots places n l e = by (read_chip text) refl e (λ c. first_told (lent_tests c (string_for c s) slots places) refl)
  where
    by : (r : Reading Chip) → read_chip text ≡ r → fit_read r s slots places ≡ refused_by n l → ((c : Chip) (j : ℕ) → first_failed (lent_tests c (string_for c s) slots places) ≡ suc j → Numbered 15 (suc j)) → Numbered 15 n
    by (accepted c) t q told = fit_told (first_failed (lent_tests c (string_for c s) slots places)) (told c) (slot_count c) (fit_of c (letters_of (string_for c s))) n l q
    by (refused k m) t q told = wider k n (chip_number text k m t) cc

pub quote_text_number : (text out : List ℕ) (n l : ℕ) → (quote_text text out).answer ≡ not_written n l → Numbered 15 n ⊎ (n ≡ 22)
quote_text_number text out n l e = by (read_chip text) refl e
  where
    by : (r : Reading Chip) → read_chip text ≡ r → (place_read (page_read r) out).answer ≡ not_written n l → Numbered 15 n ⊎ (n ≡ 22)
    by (accepted c) t q = on (within_page (counts_of c)) q
      where
        on : (b : Bool) → (place_read (cond b (accepted c) (refused 22 0)) out).answer ≡ not_written n l → Numbered 15 n ⊎ (n ≡ 22)
        on true h = inl (place_number out n l text (ap (λ (r : Reading Chip). (place_read r out).answer) t ∙ h))
        on false h = inr cc
    by (refused k m) t q = inl (wider k n (chip_number text k m t) cc)
