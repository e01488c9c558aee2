-- The fit at hand: when it closes the branch, and what its choice of a pair means for the letters.
use Prim.Native.Nat.{ℕ, ◌<◌}
use mathlib.Core.Path.{◌≡◌, refl, sym, ap, subst, ◌∙◌}
use mathlib.Core.Bool.{Bool, true, false, not}
use mathlib.Core.List.{List}
use native.Mathlib.Omega.{arith}
use lib.ListN.{length, get_or, take}
use borrow.Author.Tests.{not-true, not-false}
use Rattle.model.specs.declared.Chip.{Chip as HeldChip}
use Rattle.model.specs.declared.Record.{Record as HeldRecord}
use Rattle.model.specs.declared.Outcome.{Outcome}
use Rattle.model.specs.declared.Outcome.TheVariants as outcome
use Rattle.model.specs.declared.Spot.{Spot}
use Rattle.model.specs.Meaning.{Chip, chip_of, first_of, blank_spot, outcome_of, record_of}
use Rattle.model.proofs.FirstOf.{first_take}
use Rattle.chip_text.specs.Passed.{Passed}
use Rattle.placement.specs.Letters.{Letter, dot}
use Rattle.placement.specs.Pairs.{keeps_letters}
use Rattle.placement.specs.Least.{Best, found, fit_of}
use Rattle.placement.proofs.Demand.{fit_found}
use Rattle.search_branches.specs.Branch.{pick, better}
use Rattle.search_branches.proofs.Betters.{Sized, better_sized}
use Rattle.search_branches.proofs.Closing.{fit_sized}
use Rattle.search_halves.specs.Result.{placed, NotAfter, Real}
use Rattle.search_halves.proofs.NotAfter.{after_same, better_first, better_second}
use Rattle.search_halves.proofs.Covers.{covers_on, fit_covers, closed_covers, better_real}
use Rattle.search_best.specs.Best.{result_of, best_of, CountIs, Counted, Told, Better}
use Rattle.search_choose.specs.Choice.{Chosen}
use Rattle.search_node.specs.Letters.{letters_in, Lettered}
use Rattle.search_node.specs.Node.{FitHeld, NodeOk, Open}
use Rattle.search_close.specs.Step.{Searched}
use Rattle.search_node.specs.declared.Node.{Node}
use Rattle.search_node.proofs.Records.{nothing_none, counted_sized}
use Rattle.search_close.proofs.Deciding.{chosen_undecided, chosen_legal}
use Rattle.search_node.proofs.Lettering.{letters_long}

module _ (c : HeldChip) (letters : List ℕ) (p : ℕ) (here best : HeldRecord) (fit : FitHeld c letters p here) (counted : Counted c.n best) where
  abbrev C : Chip
  C = chip_of c

  abbrev ls : List Letter
  ls = letters_in letters p

  sized : Passed c → Sized (length C.macs) (best_of best)
  sized ok = subst (λ (m : ℕ). Sized m (best_of best)) (sym ok.macs) (counted_sized c.n best counted)

  -- the fit does not replace the best: nothing of the branch does
  pub fit_closes : Passed c → (kx ky : List ℕ) (t : Bool) → pick t (best_of here) (best_of best) ≡ better (best_of best) (best_of here) → not t ≡ true → Searched c letters p kx ky best best
  fit_closes ok kx ky t b q = record {
    counted = counted;
    first = after_same (best_of best);
    real = λ r. r;
    covers = λ ps h k. closed_covers C ls ps h (best_of best) (sized ok) stays;
  }
    where
      stays : better (best_of best) (fit_of C ls) ≡ best_of best
      stays = ap (better (best_of best)) (sym fit.is) ∙ (sym b ∙ ap (λ (u : Bool). pick u (best_of here) (best_of best)) (not-true t q))

  -- the fit is a placement
  module _ (ok : Passed c) (t : Bool) (told : Told t here) (q : not t ≡ false) where
    held_found : (o : Outcome) → (o ≡ outcome.None → ⊥) → CountIs c.n o → (s : List Spot) → (l : ℕ) × (result_of (outcome_of o s) ≡ found l (first_of blank_spot c.n s))
    held_found outcome.None n k s = absurd (n refl)
    held_found (outcome.Least wl m) n k s = (wl, ap (λ (j : ℕ). found wl (first_of blank_spot j s)) k)

    abbrev ps : List Spot
    ps = take c.n here.spots

    spots_are : first_of blank_spot c.n here.spots ≡ ps
    spots_are = let f = fit.counted.few in let w = fit.counted.whole in first_take blank_spot c.n here.spots (omega arith)

    is_found : (l : ℕ) × (best_of here ≡ found l ps)
    unfolding best_of record_of
    is_found = let r = held_found here.outcome (told.placed (not-false t q)) fit.counted.count here.spots in (r.0, r.1 ∙ ap (found r.0) spots_are)

    fit_is : fit_of C ls ≡ found is_found.0 ps
    fit_is = sym fit.is ∙ is_found.1

    keeps : keeps_letters C ls ps ≡ true
    keeps = (fit_found C ls is_found.0 ps fit_is).passed

    -- a pair is chosen, or none where the fit is legal
    module _ (s : ℕ) (chosen : Chosen C ps p s) where
      pub chosen_less : (s ≡ p → ⊥) → s < p
      chosen_less n = let a = chosen.place in omega arith

      module _ (l : length letters ≡ 120) (e : Lettered c letters p) where
        as_many : p ≡ length ls
        as_many = let f = e.few in sym (letters_long letters p (omega arith))

        pub legal_found : s ≡ p → (kx ky : List ℕ) (r : HeldRecord) → Better best here r → Searched c letters p kx ky best r
        legal_found g kx ky r w = record {
          counted = w.counted c.n counted fit.counted;
          first = subst (λ (t : Best). NotAfter t (best_of best)) (sym w.is) (better_first n (best_of best) (best_of here) (sized ok) mine);
          real = λ q. subst (Real C) (sym w.is) (better_real C (best_of best) (best_of here) q real);
          covers = λ qs h k. covers_on C ls qs h (best_of r) (best_of here) (subst (Sized n) (sym w.is) (better_sized n (best_of best) (best_of here) (sized ok) mine)) mine
              (subst (λ (t : Best). NotAfter t (best_of here)) (sym w.is) (better_second n (best_of best) (best_of here) (sized ok) mine))
              (subst (λ (t : Best). NotAfter t (placed C qs)) (sym is_found.1) (fit_covers C ls qs h is_found.0 ps fit_is));
        }
          where
            n : ℕ
            n = length C.macs

            mine : Sized n (best_of here)
            mine = subst (Sized n) (sym fit.is) (fit_sized C ls)

            real : Real C (best_of here)
            real = subst (Real C) (sym is_found.1) (chosen_legal C ls ps p s keeps as_many chosen g, (fit_found C ls is_found.0 ps fit_is).long)

        pub chosen_dot : (s ≡ p → ⊥) → get_or ls s dot ≡ dot
        chosen_dot n = chosen_undecided C ls ps p s keeps as_many chosen (chosen_less n)

-- the pair that is chosen is undecided
pub chosen_open : (c : HeldChip) (p : ℕ) (node : Node) (best : HeldRecord) → Passed c → NodeOk c p node → Counted c.n best → (t : Bool) → Told t node.here → not t ≡ false → (s : ℕ) → Chosen (chip_of c) (take c.n node.here.spots) p s → (s ≡ p → ⊥) → Open c p node s
chosen_open c p node best ok at counted t told q s chosen n = record {
  place = chosen_less c node.letters p node.here best at.fit counted ok t told q s chosen n;
  undecided = chosen_dot c node.letters p node.here best at.fit counted ok t told q s chosen at.whole at.letters n;
  found = λ z. told.placed (not-false t q) (nothing_none node.here z);
}
