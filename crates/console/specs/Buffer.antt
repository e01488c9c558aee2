-- What was written into a buffer, for a function that writes it out.
use Rattle.model.specs.declared.Refusal.{Refusal}
use Rattle.std.specs.Prelude.{List, [], ℕ, take, Ok, Err, Result}
use Rattle.io.specs.Counts.{IsPrefixLen}

-- the answer is a text, which stands in the first bytes of the buffer
abbrev pub InBuffer : Result ℕ Refusal → List ℕ → Type 0
InBuffer (Ok n) b = IsPrefixLen n b
InBuffer (Err f) b = ⊥

-- that text; a refusal wrote nothing
abbrev pub text_in : Result ℕ Refusal → List ℕ → List ℕ
text_in (Ok n) b = take n b
text_in (Err f) b = []
