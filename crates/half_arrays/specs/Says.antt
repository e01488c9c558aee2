-- What an answer says.
use Rattle.std.specs.Prelude.{◌≡◌, Bool, true}

-- the answer yes says that P
pub record Says (b : Bool) (P : Type 0) : Type 0 where
  pub then : b ≡ true → P
