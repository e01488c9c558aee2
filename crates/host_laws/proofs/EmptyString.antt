-- Document 02, Card 12, in its own words: "For the fit the empty string now means that every pair is undecided, equal to a string of dots. Another wrong
-- length is still 11." It is sent by who "only wants a lower bound", and the length of that fit is one.
use Prim.{tt}
use Prim.Native.Nat.{ℕ, ◌*◌, ◌≤◌}
use mathlib.Core.Path.{◌≡◌, sym, ap, subst, ◌∙◌}
use mathlib.Core.Logic.{◌↔◌}
use mathlib.Core.Bool.{true}
use mathlib.Core.List.{List, [], ◌∷◌}
use lib.Dec.{eqb, leb}
use lib.ListN.{length, replicate, length-replicate}
use borrow.Author.Tests.{eq-eqb, ne_eqb, le-leb}
use Rattle.model.specs.declared.Spot.{Spot}
use Rattle.model.specs.Meaning.{Chip}
use Rattle.refusals.specs.Tests.{Test, test, first_failed, unless_failed}
use Rattle.refusals.proofs.FirstFailed.{fails_here}
use Rattle.text_grammar.specs.Reading.{accepted}
use Rattle.chip_text.specs.Text.{read_chip, chip_text}
use Rattle.placement.specs.Integers.{Corner, legal_z, wirelength_z}
use Rattle.placement.specs.Letters.{dot, keeps_letters_z}
use Rattle.placement.specs.Least.{fit_of}
use Rattle.placement.proofs.Integers.{naturals, letters_same, legal_natural, natural_legal}
use Rattle.placement.proofs.Demand.{fit_found_integers, nothing_fits_integers}
use Rattle.fit_slots.specs.Fit.{Fit, refused_by, no_fit, placed, are_letters, letter_count, slot_count, best_fit, dots, string_for, fit_tests, fit_chip, fit_letters, Filled}
use Rattle.fit_slots.proofs.Counting.{pairs_count}
use Rattle.fit_slots.proofs.ReadBack.{told_found}
use Rattle.fit_slots.proofs.Strings.{dots_are, dots_letters, some_given, dots_given}
use Rattle.search_branches.proofs.Branching.{dots_kept}
use Rattle.host_fit.specs.FitText.{lent_tests, fit_lent, fit_text, SlotsFilled}

module _ (c : Chip) where
  abbrev p : ℕ
  p = letter_count c

  -- ---- equal to a string of dots: the answer, and what holds of the list

  same_string : string_for c [] ≡ string_for c (dots p)
  same_string = sym (dots_given p)

  pub empty_fit : (room : ℕ) → fit_letters c [] room ≡ fit_letters c (dots p) room
  unfolding fit_letters
  empty_fit room = ap (λ (s : List ℕ). fit_chip (read_chip (chip_text c)) s room) same_string

  pub empty_list : (f : Fit) (before after : List ℕ) → Filled c (string_for c []) f before after ↔ Filled c (string_for c (dots p)) f before after
  empty_list f before after = (subst (λ (s : List ℕ). Filled c s f before after) same_string, subst (λ (s : List ℕ). Filled c s f before after) (sym same_string))

  -- the same for the chip of a text

  module _ (text : List ℕ) (e : read_chip text ≡ accepted c) where
    pub empty_text : (slots places : ℕ) → fit_text text [] slots places ≡ fit_text text (dots p) slots places
    empty_text slots places = rw e (ap (λ (s : List ℕ). fit_lent c s slots places) same_string)

    pub empty_slots : (f : Fit) (before after : List ℕ) → SlotsFilled (read_chip text) [] f before after ↔ SlotsFilled (read_chip text) (dots p) f before after
    empty_slots f before after = rw e (empty_list f before after)

  -- ---- another wrong length is still 11

  module _ (s : List ℕ) (n : length s ≡ 0 → ⊥) (w : length s ≡ p → ⊥) where
    eleven : (more : List Test) → 11 ≡ first_failed (test 11 (eqb (length (string_for c s)) p) ∷ more)
    eleven more = fails_here 11 _ more (ne_eqb (length (string_for c s)) p (λ h. w (ap (λ (t : List ℕ). length t) (sym (some_given p s n)) ∙ h)))

    pub other_length_law : read_chip (chip_text c) ≡ accepted c → (room : ℕ) → fit_letters c s room ≡ refused_by 11 0
    unfolding fit_letters
    other_length_law e room = rw (e, ← eleven (test 12 (are_letters (string_for c s)) ∷ test 15 (leb (slot_count c) room) ∷ []))

    pub other_length_text : (text : List ℕ) → read_chip text ≡ accepted c → (slots places : ℕ) → fit_text text s slots places ≡ refused_by 11 0
    other_length_text text e slots places =
        rw (e, ← eleven (test 12 (are_letters (string_for c s)) ∷ test 15 (leb (slot_count c) slots) ∷ test 15 (leb (2 * length c.macs) places) ∷ []))

  -- ---- every pair is undecided

  abbrev Undecided : Fit
  Undecided = best_fit (slot_count c) (fit_of c (replicate p dot))

  undecided_by : read_chip (chip_text c) ≡ accepted c → (room : ℕ) → fit_letters c [] room ≡ unless_failed refused_by (first_failed (fit_tests c (dots p) room)) Undecided
  unfolding fit_letters
  undecided_by e room = rw (e, dots_letters p)

  undecided_text : (text : List ℕ) → read_chip text ≡ accepted c → (slots places : ℕ) → fit_text text [] slots places ≡ unless_failed refused_by (first_failed (lent_tests c (dots p) slots places)) Undecided
  undecided_text text e slots places = rw (e, dots_letters p)

  pub empty_undecided : read_chip (chip_text c) ≡ accepted c → (room : ℕ) → slot_count c ≤ room → fit_letters c [] room ≡ Undecided
  unfolding first_failed
  empty_undecided e room h = undecided_by e room ∙ rw (eq-eqb (length (dots p)) p (length-replicate p 46), dots_are p, le-leb (slot_count c) room h)

  -- ---- a lower bound: every legal placement keeps the dots

  module _ (qs : List Corner) (g : legal_z c qs ≡ true) where
    kept : keeps_letters_z c (replicate p dot) qs ≡ true
    kept =
        ap (keeps_letters_z c (replicate p dot)) (legal_natural c qs g)
        ∙ (letters_same c (replicate p dot) (naturals qs) ∙ dots_kept c p (pairs_count c) (naturals qs) (natural_legal c qs g))

    bound_by : (k l count : ℕ) (ps : List Spot) → unless_failed refused_by k Undecided ≡ placed l count ps → l ≤ wirelength_z c qs
    bound_by k l count ps q = (fit_found_integers c (replicate p dot) l ps (told_found k (slot_count c) (fit_of c (replicate p dot)) (placed l count ps) tt q)).least qs kept

    none_by : (k : ℕ) → unless_failed refused_by k Undecided ≡ no_fit → ⊥
    none_by k q = nothing_fits_integers c (replicate p dot) (told_found k (slot_count c) (fit_of c (replicate p dot)) no_fit tt q) qs kept

    module _ (e : read_chip (chip_text c) ≡ accepted c) (room : ℕ) where
      pub empty_bound : (l count : ℕ) (ps : List Spot) → fit_letters c [] room ≡ placed l count ps → l ≤ wirelength_z c qs
      empty_bound l count ps f = bound_by (first_failed (fit_tests c (dots p) room)) l count ps (sym (undecided_by e room) ∙ f)

      pub empty_none : fit_letters c [] room ≡ no_fit → ⊥
      empty_none f = none_by (first_failed (fit_tests c (dots p) room)) (sym (undecided_by e room) ∙ f)

    module _ (text : List ℕ) (e : read_chip text ≡ accepted c) (slots places : ℕ) where
      pub empty_bound_text : (l count : ℕ) (ps : List Spot) → fit_text text [] slots places ≡ placed l count ps → l ≤ wirelength_z c qs
      empty_bound_text l count ps f = bound_by (first_failed (lent_tests c (dots p) slots places)) l count ps (sym (undecided_text text e slots places) ∙ f)

      pub empty_none_text : fit_text text [] slots places ≡ no_fit → ⊥
      empty_none_text f = none_by (first_failed (lent_tests c (dots p) slots places)) (sym (undecided_text text e slots places) ∙ f)
