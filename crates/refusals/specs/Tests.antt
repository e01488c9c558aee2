-- The refusals of a service once its input is read (document 01, "Refusal table": "Then 11 or 13, 12 or 14, 15"): a list of tests, each with its
-- number, in order; the first that fails counts, and its line is 0.
use Rattle.std.specs.Prelude.{ℕ, zero, suc, List, [], ◌∷◌, Bool, cond}

-- a test: the number of its refusal, and whether it is passed
pub record Test : Type 0 where
  pub number : ℕ
  pub passes : Bool

abbrev pub test : ℕ → Bool → Test
test number passes = record { number = number; passes = passes }

-- the number of the first test that fails, or 0
unfoldable pub first_failed : List Test → ℕ
first_failed [] = 0
first_failed (t ∷ ts) = cond t.passes (first_failed ts) t.number

-- what a service answers: the refusal of that number, or what follows where no test fails
abbrev pub unless_failed : {A : Type 0} → (ℕ → ℕ → A) → ℕ → A → A
unless_failed refusal zero more = more
unless_failed refusal (suc n) more = refusal (suc n) 0
