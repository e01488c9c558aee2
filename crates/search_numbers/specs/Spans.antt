-- The span of some places.
use Rattle.std.specs.Prelude.{ℕ, min, max, Bool, true, cond}
use Rattle.search_numbers.specs.declared.Span.{Span}

abbrev pub span : Bool → ℕ → ℕ → Span
span b most least = record { some = b; most = most; least = least }

-- one place more
abbrev pub joined_to : Span → ℕ → Span
joined_to s u = cond s.some (span true (max s.most u) (min s.least u)) (span true u u)
