-- Counts and the arrays that they count in.
use Rattle.std.specs.Prelude.{ℕ, suc, ◌+◌, ◌≤◌, min, ◌≡◌, List, [], ◌∷◌, length, get_or}
use Rattle.model.specs.declared.Net.{Net as HeldNet}

-- at most `most` items, in an array of that length; the items past them are blank
pub record Holds {A : Type 0} (blank : A) (most count : ℕ) (items : List A) : Type 0 where
  pub few : count ≤ most
  pub long : length items ≡ most
  pub rest : (i : ℕ) → count ≤ i → get_or items i blank ≡ blank

-- how many pins nets have in all
unfoldable pub taken : List HeldNet → ℕ
taken [] = 0
taken (t ∷ ts) = t.pins + taken ts

-- how many items a count means, of an array of `capacity` items: all that are counted, or one more than the array holds where the count is above that
abbrev pub item_count : ℕ → ℕ → ℕ
item_count count capacity = min count (suc capacity)
