-- An answer of yes or no whose yes is a promise.
use Rattle.std.specs.Prelude.{◌≡◌, Bool, true}

-- yes says P, no says nothing
pub record Yes (r : Bool) (P : Type 0) : Type 0 where
  pub then : r ≡ true → P
