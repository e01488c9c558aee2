-- The best placement so far, as a record holds it, and the better of two such records.
use Prim.{Unit}
use Rattle.std.specs.Prelude.{ℕ, ◌≤◌, ◌≡◌, Bool, true, ◌⊎◌, length}
use Rattle.model.specs.declared.Record.{Record as HeldRecord}
use Rattle.model.specs.declared.Outcome.{Outcome}
use Rattle.model.specs.declared.Outcome.TheVariants as outcome
use Rattle.model.specs.Meaning.{Record, none, least, record_of}
use Rattle.model.specs.Limits.{most_macs}
use Rattle.placement.specs.Least.{Best, nothing, found}
use Rattle.search_branches.specs.Branch.{better}

abbrev pub result_of : Record → Best
result_of none = nothing
result_of (least wl ps) = found wl ps

unfoldable pub best_of : HeldRecord → Best
best_of r = result_of (record_of r)

abbrev pub CountIs : ℕ → Outcome → Type 0
CountIs n outcome.None = Unit {0}
CountIs n (outcome.Least wl m) = m ≡ n

-- no placement, or a placement of n macros, which are not too many; the array of corners is whole
pub record Counted (n : ℕ) (r : HeldRecord) : Type 0 where
  pub few : n ≤ most_macs
  pub whole : length r.spots ≡ most_macs
  pub count : CountIs n r.outcome

-- what replaces the best is a placement
pub record Told (r : Bool) (other : HeldRecord) : Type 0 where
  pub placed : r ≡ true → other.outcome ≡ outcome.None → ⊥

-- r is the better of the two: one of them, and so of the same number of macros
pub record Better (best other r : HeldRecord) : Type 0 where
  pub is : best_of r ≡ better (best_of best) (best_of other)
  pub one_of : (r ≡ best) ⊎ (r ≡ other)
  pub counted : (n : ℕ) → Counted n best → Counted n other → Counted n r
