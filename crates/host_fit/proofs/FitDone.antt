-- The fit of a chip text: what is refused before it, and what the two lent lists hold, in the form of the needs.
use Rattle.std.specs.Prelude.{Result, Ok, Err, Option, Some, None}
use Prim.Native.Nat.{ℕ, zero, suc, ◌+◌, ◌*◌, ◌≤◌, ◌<◌}
use mathlib.Core.Path.{◌≡◌, refl, sym, ap, subst, ◌∙◌}
use mathlib.Core.Bool.{Bool, true, false}
use Prim.{Unit, tt}
use mathlib.Core.List.{List, [], ◌∷◌, ◌++◌}
use native.Mathlib.Omega.{arith}
use lib.Dec.{eqb, leb, ltb}
use lib.ListN.{length, take, drop}
use lib.Seq.{sets, sets-eq}
use borrow.Author.Tests.{le-leb, lt-leb, ltb-true, ltb-false}
use Rattle.model.specs.declared.Chip.{Chip as HeldChip}
use Rattle.model.specs.declared.Refusal.{Refusal}
use Rattle.model.specs.declared.Spot.{Spot}
use Rattle.model.specs.Meaning.{Chip, chip_of}
use Rattle.refusals.specs.Tests.{Test, test, first_failed, unless_failed}
use Rattle.refusals.proofs.FirstFailed.{passes_last}
use Rattle.text_grammar.specs.Reading.{Reading, accepted, refused}
use Rattle.chip_text.specs.Text.{read_chip}
use Rattle.chip_text.specs.Passed.{Passed}
use Rattle.placement.proofs.OrderLaws.{length_keys}
use Rattle.placement.specs.Order.{keys}
use Rattle.placement.specs.Least.{Best, nothing, found, fit_of}
use Rattle.fit_slots.specs.Fit.{Fit, refused_by, no_fit, placed, are_letters, letters_of, letter_count, slot_count, best_fit, fit_each, string_for, fit_tests, fit_chip, fit_letters, Filled}
use Rattle.search_branches.proofs.Betters.{Sized}
use Rattle.search_branches.proofs.Closing.{fit_sized}
use Rattle.fit.specs.declared.Fitted.{Fitted}
use Rattle.fit.specs.declared.FitAnswer.{FitAnswer}
use Rattle.fit.specs.Answer.{outcome_of, positions_of, answer_for}
use Rattle.fit.proofs.Outcomes.{take_filled, is_placed, is_none, is_refused}
use Rattle.host_codes.specs.declared.Code.{Code}
use Rattle.host_codes.specs.Code.{code, refused as refused_code, of_fit}
use Rattle.host_fit.specs.FitText.{of_outcome, over, fit_read, places_after, FitDone}
use Rattle.host_fit.specs.Refusing.{Refusing}

outcome_fit : (f : Fit) → of_outcome (outcome_of f) ≡ of_fit f
outcome_fit (refused_by number line) = refl
outcome_fit no_fit = refl
outcome_fit (placed wl slots ps) = refl

-- ---- a placement has a corner for each macro

abbrev SizedFit : ℕ → Fit → Type 0
SizedFit n (refused_by number line) = Unit {0}
SizedFit n no_fit = Unit {0}
SizedFit n (placed wl slots ps) = length ps ≡ n

module _ (n : ℕ) where
  sized_unless : (number : ℕ) (f : Fit) → SizedFit n f → SizedFit n (unless_failed refused_by number f)
  sized_unless zero f h = h
  sized_unless (suc number) f h = tt

  sized_best : (slots : ℕ) (b : Best) → Sized n b → SizedFit n (best_fit slots b)
  sized_best slots nothing h = tt
  sized_best slots (found wl ps) h = h

module _ (c : HeldChip) (ok : Passed c) (s : List ℕ) where
  abbrev C : Chip
  C = chip_of c

  twice : c.n + c.n ≡ 2 * length C.macs
  twice = let e = ok.macs in omega arith

  -- the letters that the string stands for
  abbrev t : List ℕ
  t = string_for C s

  -- the first of a fit's tests that fails, or the fit
  abbrev unless : ℕ → Fit
  unless number = unless_failed refused_by number (fit_each C t)

  fit_is : (room : ℕ) → fit_letters C s room ≡ unless (first_failed (fit_tests C t room))
  unfolding fit_letters
  fit_is room = ap (λ (r : Reading Chip). fit_chip r t room) (sym ok.read)

  fit_placed_sized : (room : ℕ) → SizedFit (length C.macs) (fit_letters C s room)
  fit_placed_sized room =
      let n = length C.macs in
      subst (SizedFit n) (sym (fit_is room))
      (sized_unless n (first_failed (fit_tests C t room)) (fit_each C t) (sized_best n (slot_count C) (fit_of C (letters_of t)) (fit_sized C (letters_of t))))

  -- ---- the list of positions is too short

  -- the tests where the last one fails
  abbrev failing : Bool → Bool → List Test
  failing a b = test 11 a ∷ test 12 b ∷ test 15 false ∷ []

  -- 15 for the one list or the other
  either : (a b d : Bool) → first_failed (test 11 a ∷ test 12 b ∷ test 15 d ∷ test 15 false ∷ []) ≡ first_failed (failing a b)
  unfolding first_failed
  either true true true = refl
  either true true false = refl
  either true false d = refl
  either false b d = refl

  module _ (room : ℕ) (h : room < c.n + c.n) where
    abbrev first : ℕ
    first = first_failed (failing (eqb (length t) (letter_count C)) (are_letters t))

    one_slot : fit_letters C s 1 ≡ unless first
    one_slot =
        let many : 1 < slot_count C = let e = twice in omega arith in
        fit_is 1 ∙ ap (λ (b : Bool). unless (first_failed (test 11 (eqb (length t) (letter_count C)) ∷ test 12 (are_letters t) ∷ test 15 b ∷ []))) (lt-leb (slot_count C) 1 many)

    too_short : (slots : ℕ) → fit_read (accepted C) s slots room ≡ unless first
    too_short slots =
        ap (λ (b : Bool). unless (first_failed (fit_tests C t slots ++ (test 15 b ∷ [])))) (lt-leb (2 * length C.macs) room (let e = twice in omega arith))
        ∙ ap unless (either (eqb (length t) (letter_count C)) (are_letters t) (leb (slot_count C) slots))

    -- a refusal leaves both lists
    slots_stay : (a b : Bool) (l : List ℕ) → Filled C t (unless (first_failed (failing a b))) l l
    unfolding first_failed
    slots_stay true true l = refl
    slots_stay true false l = refl
    slots_stay false b l = refl

    places_stay : (a b : Bool) (l : List ℕ) → l ≡ places_after (unless (first_failed (failing a b))) l
    unfolding first_failed
    places_stay true true l = refl
    places_stay true false l = refl
    places_stay false b l = refl

    short_by : (one : ℕ) → one ≡ 1 → (a : FitAnswer) → a ≡ answer_for (fit_letters C s one) → (r : Code) → r ≡ code (of_outcome a.outcome) → (slots places : List ℕ) → length places ≡ room → FitDone (accepted C) s r slots slots places places
    short_by one m a q r e = by
      where
        told : a.outcome ≡ outcome_of (fit_letters C s 1)
        told = ap (λ (t : FitAnswer). t.outcome) q ∙ ap (λ (k : ℕ). outcome_of (fit_letters C s k)) m

        by : (slots places : List ℕ) → length places ≡ room → FitDone (accepted C) s r slots slots places places
        by slots places l =
            let same : fit_read (accepted C) s (length slots) (length places) ≡ unless first = ap (fit_read (accepted C) s (length slots)) l ∙ too_short (length slots) in
            record {
              answer = e ∙ (ap (λ (t : Result (Option Fitted) Refusal). code (of_outcome t)) told ∙ (ap code (outcome_fit (fit_letters C s 1)) ∙ ap (λ (f : Fit). code (of_fit f)) (one_slot ∙ sym same)));
              filled = subst (λ (f : Fit). Filled C t f slots slots) (sym same) (slots_stay (eqb (length t) (letter_count C)) (are_letters t) slots);
              corners = places_stay (eqb (length t) (letter_count C)) (are_letters t) places ∙ ap (λ (f : Fit). places_after f places) (sym same);
            }

  pub short_done : (room one : ℕ) → one ≡ 1 → (a : FitAnswer) → a ≡ answer_for (fit_letters C s one) → (r : Code) → r ≡ code (of_outcome a.outcome) → Refusing c s room r
  short_done room one m a q r e = record { done = λ h. short_by room h one m a q r e }

  -- ---- there is room for the positions

  module _ (slots slotsAfter places : List ℕ) (h : c.n + c.n ≤ length places) (a : FitAnswer) (q : a ≡ answer_for (fit_letters C s (length slots))) (w : Filled C t (fit_letters C s (length slots)) slots slotsAfter) (r : Code) where
    abbrev F : Fit
    F = fit_letters C s (length slots)

    same_fit : fit_read (accepted C) s (length slots) (length places) ≡ F
    same_fit =
        ap unless (passes_last (fit_tests C t (length slots)) 15 (leb (2 * length C.macs) (length places)) (le-leb (2 * length C.macs) (length places) (let e = twice in omega arith)))
        ∙ sym (fit_is (length slots))

    outcome_is : a.outcome ≡ outcome_of F
    outcome_is = ap (λ (t : FitAnswer). t.outcome) q

    done_by : (placesThen : List ℕ) → r ≡ code (of_fit F) → placesThen ≡ places_after F places → FitDone (accepted C) s r slots slotsAfter places placesThen
    done_by placesThen e p = record {
      answer = e ∙ ap (λ (f : Fit). code (of_fit f)) (sym same_fit);
      filled = subst (λ (f : Fit). Filled C t f slots slotsAfter) (sym same_fit) w;
      corners = p ∙ ap (λ (f : Fit). places_after f places) (sym same_fit);
    }

    coded : (o : Result (Option Fitted) Refusal) → a.outcome ≡ o → r ≡ code (of_outcome o) → r ≡ code (of_fit F)
    coded o k e = e ∙ (ap (λ (t : Result (Option Fitted) Refusal). code (of_outcome t)) (sym k ∙ outcome_is) ∙ ap code (outcome_fit F))

    pub long_placed : (f : Fitted) → a.outcome ≡ Ok (Some f) → r ≡ code (of_outcome (Ok (Some f))) → (placesThen : List ℕ) → placesThen ≡ sets places 0 (keys (take c.n a.spots)) → FitDone (accepted C) s r slots slotsAfter places placesThen
    long_placed f k e placesThen p = done_by placesThen (coded (Ok (Some f)) k e) (p ∙ (ap (λ (t : List Spot). sets places 0 (keys t)) spots ∙ (front ∙ ap (λ (g : Fit). places_after g places) (sym is))))
      where
        is : F ≡ placed f.length f.slots (positions_of F)
        is = is_placed a.outcome F outcome_is f k

        sized : length (positions_of F) ≡ c.n
        sized = subst (SizedFit (length C.macs)) is (fit_placed_sized (length slots)) ∙ ok.macs

        spots : take c.n a.spots ≡ positions_of F
        spots = ap (λ (t : FitAnswer). take c.n t.spots) q ∙ take_filled c.n (positions_of F) sized

        -- the numbers stand at the front of the list, which is long enough
        front : sets places 0 (keys (positions_of F)) ≡ over (keys (positions_of F)) places
        front =
            let N : List ℕ = keys (positions_of F) in
            let k = length_keys (positions_of F) in
            let m = sized in
            let z : 0 + length N ≡ length N = omega arith in
            sets-eq N places 0 (omega arith) ∙ ap (λ (i : ℕ). N ++ drop i places) z

    pub long_none : a.outcome ≡ Ok None → r ≡ code (of_outcome (Ok None)) → FitDone (accepted C) s r slots slotsAfter places places
    long_none k e = done_by places (coded (Ok None) k e) (ap (λ (f : Fit). places_after f places) (sym (is_none a.outcome F outcome_is k)))

    pub long_refused : (f : Refusal) → a.outcome ≡ Err f → r ≡ code (refused_code f.no f.line) → FitDone (accepted C) s r slots slotsAfter places places
    long_refused f k e = done_by places (coded (Err f) k e) (ap (λ (g : Fit). places_after g places) (sym (is_refused a.outcome F outcome_is f k)))

module _ (room n : ℕ) (b : Bool) (q : b ≡ ltb room (2 * n)) where
  -- the test of the list's length
  pub is_less : b ≡ true → room < n + n
  is_less t = let h = ltb-true room (2 * n) (sym q ∙ t) in omega arith

  pub is_enough : b ≡ false → n + n ≤ room
  is_enough t = let h = ltb-false room (2 * n) (sym q ∙ t) in omega arith

pub refused_done : (c : HeldChip) (s : List ℕ) (room : ℕ) (r : Code) → Refusing c s room r → room < c.n + c.n → (slots places : List ℕ) → room ≡ length places → FitDone (accepted (chip_of c)) s r slots slots places places
refused_done c s room r d l slots places e = d.done l slots places (sym e)

-- ---- the chip of a text

module _ (text s slots slotsAfter places placesThen : List ℕ) (r : Code) where
  pub fit_read_law : (c : HeldChip) → read_chip text ≡ accepted (chip_of c) → FitDone (accepted (chip_of c)) s r slots slotsAfter places placesThen → FitDone (read_chip text) s r slots slotsAfter places placesThen
  fit_read_law c e d = subst (λ (t : Reading Chip). FitDone t s r slots slotsAfter places placesThen) (sym e) d
