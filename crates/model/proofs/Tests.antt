-- What the answer of a constructor tells of its tests.
use mathlib.Core.Path.{◌≡◌, refl}
use mathlib.Core.Bool.{Bool, true, false}
use Rattle.model.specs.Step.{next, fault, check}

pub refused : {A : Type 0} (b : Bool) (a : A) → fault 4 ≡ check b 4 (next a) → b ≡ false
refused true a e = cc
refused false a e = refl

pub kept : {A : Type 0} (b : Bool) (a a' : A) → next a' ≡ check b 4 (next a) → (b ≡ true) × (a' ≡ a)
kept true a a' e = (refl, cc)
kept false a a' e = (cc, cc)
