-- The program's answer for a fit, read back: which fit it stands for, and its positions.
use Rattle.std.specs.Prelude.{Result, Ok, Err, Option, Some, None}
use Prim.Native.Nat.{ℕ, ◌-◌, ◌≤◌}
use mathlib.Core.Path.{◌≡◌, refl, sym, ap, ◌∙◌}
use mathlib.Core.List.{List}
use native.Mathlib.Omega.{arith}
use lib.ListN.{length, take, replicate, length-append, length-replicate}
use lib.Seq.{take_at}
use Rattle.model.specs.declared.Refusal.{Refusal}
use Rattle.model.specs.declared.Spot.{Spot}
use Rattle.model.specs.Meaning.{blank_spot}
use Rattle.model.specs.Limits.{most_macs}
use Rattle.model.specs.Held.{filled}
use Rattle.fit_slots.specs.Fit.{Fit, refused_by, no_fit, placed}
use Rattle.fit.specs.declared.Fitted.{Fitted}
use Rattle.fit.specs.Answer.{outcome_of, positions_of}

-- at most 8 positions, and 0,0 up to 8
pub filled_long : (ps : List Spot) → length ps ≤ 8 → length (filled most_macs blank_spot ps) ≡ 8
filled_long ps h = let a = length-append ps (replicate (8 - length ps) blank_spot) in let b = length-replicate (8 - length ps) blank_spot in omega arith

pub take_filled : (n : ℕ) (ps : List Spot) → length ps ≡ n → take n (filled most_macs blank_spot ps) ≡ ps
take_filled n ps e = take_at ps (replicate (8 - length ps) blank_spot) n e

-- the fit of an answer
abbrev pub fit_for : Result (Option Fitted) Refusal → List Spot → Fit
fit_for (Ok (Some f)) ps = placed f.length f.slots ps
fit_for (Ok None) ps = no_fit
fit_for (Err f) ps = refused_by f.no f.line

fit_of_law : (f : Fit) → fit_for (outcome_of f) (positions_of f) ≡ f
fit_of_law (refused_by number line) = refl
fit_of_law no_fit = refl
fit_of_law (placed l count ps) = refl

module _ (o : Result (Option Fitted) Refusal) (f : Fit) (e : o ≡ outcome_of f) where
  is : f ≡ fit_for o (positions_of f)
  is = sym (fit_of_law f) ∙ ap (λ (t : Result (Option Fitted) Refusal). fit_for t (positions_of f)) (sym e)

  pub is_placed : (g : Fitted) → o ≡ Ok (Some g) → f ≡ placed g.length g.slots (positions_of f)
  is_placed g q = is ∙ ap (λ (t : Result (Option Fitted) Refusal). fit_for t (positions_of f)) q

  pub is_none : o ≡ Ok None → f ≡ no_fit
  is_none q = is ∙ ap (λ (t : Result (Option Fitted) Refusal). fit_for t (positions_of f)) q

  pub is_refused : (g : Refusal) → o ≡ Err g → f ≡ refused_by g.no g.line
  is_refused g q = is ∙ ap (λ (t : Result (Option Fitted) Refusal). fit_for t (positions_of f)) q
