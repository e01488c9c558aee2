-- The fit as a record: what the fit answers for one letter for each pair of a chip whose test is passed, held in a record.
use Rattle.std.specs.Prelude.{Result, Ok, Err, Option, Some, None}
use Prim.Native.Nat.{ℕ, ◌≤◌, ◌<◌}
use mathlib.Core.Path.{◌≡◌, refl, sym, ap, subst, ◌∙◌}
use mathlib.Core.List.{List}
use native.Mathlib.Omega.{arith}
use lib.ListN.{length, take}
use lib.Seq.{length-take-le}
use borrow.Author.Tests.{eq-eqb, le-leb}
use Rattle.model.specs.declared.Chip.{Chip as HeldChip}
use Rattle.model.specs.declared.Record.{Record as HeldRecord}
use Rattle.model.specs.declared.Outcome.TheVariants as outcome
use Rattle.model.specs.declared.Refusal.{Refusal}
use Rattle.model.specs.declared.Spot.{Spot}
use Rattle.model.specs.Meaning.{Chip, chip_of, first_of, blank_spot, record_of}
use Rattle.model.specs.Limits.{most_macs}
use Rattle.model.specs.Held.{filled}
use Rattle.model.proofs.FirstOf.{first_take}
use Rattle.chip_text.specs.Passed.{Passed}
use Rattle.placement.specs.Letters.{Letter}
use Rattle.placement.specs.Least.{nothing, found, fit_of}
use Rattle.refusals.specs.Tests.{first_failed}
use Rattle.fit_slots.specs.Fit.{Fit, refused_by, no_fit, placed, letter_count, slot_count, best_fit, fit_letters}
use Rattle.fit_slots.proofs.Strings.{each_given}
use Rattle.fit_slots.proofs.ReadBack.{back, back_best}
use Rattle.search_branches.proofs.Betters.{Sized}
use Rattle.search_branches.proofs.Closing.{fit_sized}
use Rattle.fit.specs.declared.Fitted.{Fitted}
use Rattle.fit.specs.declared.FitAnswer.{FitAnswer}
use Rattle.fit.specs.Answer.{outcome_of, positions_of, answer_for}
use Rattle.fit.proofs.Outcomes.{filled_long, take_filled, is_placed, is_none, is_refused}
use Rattle.search_best.specs.Best.{best_of}
use Rattle.search_node.specs.Letters.{letters_in, Lettered}
use Rattle.search_node.specs.Node.{no_record, FitHeld}
use Rattle.search_join.specs.Joined.{FitFor}
use Rattle.search_node.proofs.Records.{no_best, none_counted}

pub first_filled : (n : ℕ) (ps : List Spot) → length ps ≡ n → n ≤ 8 → first_of blank_spot n (filled most_macs blank_spot ps) ≡ ps
first_filled n ps e h = let l = filled_long ps (omega arith) in first_take blank_spot n (filled most_macs blank_spot ps) (omega arith) ∙ take_filled n ps e

pub prefix_long : (letters : List ℕ) (p : ℕ) → p ≤ 120 → length letters ≡ 120 → p ≡ length (take p letters)
prefix_long letters p h l = sym (length-take-le p letters (omega arith))

module _ (c : HeldChip) (letters : List ℕ) (p : ℕ) (ok : Passed c) (e : Lettered c letters p) (l : length letters ≡ 120) where
  abbrev C : Chip
  C = chip_of c

  abbrev ls : List Letter
  ls = letters_in letters p

  long : length (take p letters) ≡ p
  long = let f = e.few in length-take-le p letters (omega arith)

  enough : slot_count C ≤ 784
  enough = let m = ok.valid.mac_count in let q = ok.valid.pins in let f = e.few in let g = e.count in omega arith

  -- 784 slots are lent, so that no refusal is left
  fits : fit_letters C (take p letters) 784 ≡ best_fit (slot_count C) (fit_of C ls)
  unfolding fit_letters first_failed
  fits = rw (← ok.read, each_given (letter_count C) (take p letters) (long ∙ e.count), eq-eqb (length (take p letters)) (letter_count C) (long ∙ e.count), e.bytes, le-leb (slot_count C) 784 enough)

  module _ (room : ℕ) (m : room ≡ 784) (a : FitAnswer) (q : a ≡ answer_for (fit_letters C (take p letters) room)) where
    is : a ≡ answer_for (best_fit (slot_count C) (fit_of C ls))
    is = q ∙ ap answer_for (ap (fit_letters C (take p letters)) m ∙ fits)

    abbrev F : Fit
    F = best_fit (slot_count C) (fit_of C ls)

    same : a.outcome ≡ outcome_of F
    same = ap (λ (t : FitAnswer). t.outcome) is

    best_is : (f : Fit) → F ≡ f → fit_of C ls ≡ back f
    best_is f k = sym (back_best (slot_count C) (fit_of C ls)) ∙ ap back k

    -- no placement: there is no fit
    none_held : fit_of C ls ≡ nothing → FitHeld c letters p no_record
    none_held k = record { is = no_best ∙ sym k; counted = none_counted c.n ok.fine.mac_count }

    no_fit_held : (r : HeldRecord) → r ≡ no_record → a.outcome ≡ Ok None → FitHeld c letters p r
    no_fit_held r o z = rw o (none_held (best_is no_fit (is_none a.outcome F same z)))

    refused_held : (r : HeldRecord) → r ≡ no_record → (g : Refusal) → a.outcome ≡ Err g → FitHeld c letters p r
    refused_held r o g z = rw o (none_held (best_is (refused_by g.no g.line) (is_refused a.outcome F same g z)))

    -- the placement and its length
    placed_held : (f : Fitted) → a.outcome ≡ Ok (Some f) → FitHeld c letters p (record { outcome = outcome.Least f.length c.n; spots = a.spots })
    unfolding best_of record_of
    placed_held f z = record {
      is = rw (spots, first_filled c.n (positions_of F) sized ok.fine.mac_count) (sym here);
      counted = record { few = ok.fine.mac_count; whole = ap (λ (s : List Spot). length s) spots ∙ filled_long (positions_of F) (let q = ok.fine.mac_count in let s = sized in omega arith); count = refl };
    }
      where
        here : fit_of C ls ≡ found f.length (positions_of F)
        here = best_is (placed f.length f.slots (positions_of F)) (is_placed a.outcome F same f z)

        spots : a.spots ≡ filled most_macs blank_spot (positions_of F)
        spots = ap (λ (t : FitAnswer). t.spots) is

        sized : length (positions_of F) ≡ c.n
        sized = subst (Sized (length C.macs)) here (fit_sized C ls) ∙ ok.macs

-- ---- in the form of the needs

pub fit_past : (c : HeldChip) (letters : List ℕ) (p : ℕ) (r : HeldRecord) → 120 < p → FitFor c letters p r
fit_past c letters p r h = record { held = λ ok e. let f = e.few in absurd (omega arith) }

module _ (c : HeldChip) (letters : List ℕ) (p : ℕ) (l : length letters ≡ 120) (room : ℕ) (m : room ≡ 784) (a : FitAnswer) (q : a ≡ answer_for (fit_letters (chip_of c) (take p letters) room)) where
  pub fit_none : (r : HeldRecord) → r ≡ no_record → a.outcome ≡ Ok None → FitFor c letters p r
  fit_none r o z = record { held = λ ok e. no_fit_held c letters p ok e l room m a q r o z }

  pub fit_refused : (r : HeldRecord) → r ≡ no_record → (g : Refusal) → a.outcome ≡ Err g → FitFor c letters p r
  fit_refused r o g z = record { held = λ ok e. refused_held c letters p ok e l room m a q r o g z }

  pub fit_placed : (f : Fitted) → a.outcome ≡ Ok (Some f) → FitFor c letters p (record { outcome = outcome.Least f.length c.n; spots = a.spots })
  fit_placed f z = record { held = λ ok e. placed_held c letters p ok e l room m a q f z }
