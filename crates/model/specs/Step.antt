-- Steps and tests: what they lead to, and the numbers of their faults.
use Rattle.std.specs.Prelude.{ℕ, Bool, true, false}

-- a thing that a step or a test leads to, or the number of the fault that stands in its place
pub data Step (A : Type 0) : Type 0 where
  next : A → Step A
  fault : ℕ → Step A

-- what follows where a test passes, or fault n
abbrev pub check : {A : Type 0} → Bool → ℕ → Step A → Step A
check true n more = more
check false n more = fault n

-- what follows a thing, or its fault
abbrev pub on_next : {A B : Type 0} → Step A → (A → Step B) → Step B
on_next (next a) more = more a
on_next (fault n) more = fault n
