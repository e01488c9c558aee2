-- The better of two records, by whether there are placements, by their lengths and by their order; and the record that is chosen by that answer.
use mathlib.Core.Path.{◌≡◌}
use mathlib.Core.Bool.{Bool, true, false, or-false}
use Prim.Native.Nat.{ℕ, ◌≤◌}
use native.Mathlib.Omega.{arith}
use lib.Dec.{ltb, eqb}
use borrow.Author.Tests.{le-ltb, eq-eqb, ne_eqb}
use Rattle.model.specs.declared.Record.{Record as HeldRecord}
use Rattle.model.specs.declared.Outcome.TheVariants as outcome
use Rattle.model.specs.Meaning.{first_of, record_of, blank_spot}
use Rattle.placement.specs.Order.{before}
use Rattle.search_branches.specs.Branch.{pick, better}
use Rattle.search_best.specs.Best.{best_of}

module _ (best other : HeldRecord) where
  abbrev Chosen : Bool → Type 0
  Chosen t = pick t (best_of other) (best_of best) ≡ better (best_of best) (best_of other)

  -- no other placement
  pub keeps_best : other.outcome ≡ outcome.None → Chosen false
  unfolding best_of record_of
  keeps_best e = rw e

  module _ (l n : ℕ) (e : other.outcome ≡ outcome.Least l n) where
    -- the first placement
    pub takes_first : best.outcome ≡ outcome.None → Chosen true
    unfolding best_of record_of
    takes_first f = rw (e, f)

    module _ (m k : ℕ) (f : best.outcome ≡ outcome.Least m k) where
      pub by_length : (l ≡ m → ⊥) → Chosen (ltb l m)
      unfolding best_of record_of
      by_length d = rw (e, f, ne_eqb l m d, or-false (ltb l m))

      pub by_more : m ≤ l → (l ≡ m → ⊥) → Chosen (eqb l m)
      unfolding best_of record_of
      by_more h d = rw (e, f, le-ltb l m h, ne_eqb l m d)

      pub by_order : (t : Bool) → t ≡ before (first_of blank_spot n other.spots) (first_of blank_spot k best.spots) → l ≡ m → Chosen t
      unfolding best_of record_of
      by_order t o d = rw (e, f, le-ltb l m (omega arith), eq-eqb l m d, ← o)
