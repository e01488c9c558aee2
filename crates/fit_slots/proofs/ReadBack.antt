-- What was found, read back from the fit that is answered for it.
use Prim.{Unit}
use Prim.Native.Nat.{ℕ, zero, suc}
use mathlib.Core.Path.{◌≡◌, refl, sym, ap, subst, ◌∙◌}
use Rattle.refusals.specs.Tests.{unless_failed}
use Rattle.placement.specs.Least.{Best, nothing, found}
use Rattle.fit_slots.specs.Fit.{Fit, refused_by, no_fit, placed, best_fit}

-- the placement of a fit, or nothing
abbrev pub back : Fit → Best
back (placed wl slots ps) = found wl ps
back no_fit = nothing
back (refused_by number line) = nothing

pub back_best : (slots : ℕ) (b : Best) → back (best_fit slots b) ≡ b
back_best slots nothing = refl
back_best slots (found wl ps) = refl

-- a placement or no fit
abbrev pub Told : Fit → Type 0
Told (placed wl slots ps) = Unit {0}
Told no_fit = Unit {0}
Told (refused_by number line) = ⊥

-- a fit that is told was found, whatever the first test that failed would be
pub told_found : (k slots : ℕ) (b : Best) (f : Fit) → Told f → unless_failed refused_by k (best_fit slots b) ≡ f → b ≡ back f
told_found zero slots b f t q = sym (back_best slots b) ∙ ap back q
told_found (suc k) slots b f t q = absurd (subst Told (sym q) t)
