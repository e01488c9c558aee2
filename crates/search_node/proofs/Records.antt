-- Records as results: a record of n macros holds a result of that size, and what no placement means.
use Prim.{tt}
use Prim.Native.Nat.{ℕ, ◌≤◌}
use mathlib.Core.Path.{◌≡◌, refl}
use native.Mathlib.Omega.{arith}
use Rattle.model.specs.declared.Record.{Record as HeldRecord}
use Rattle.model.specs.declared.Outcome.{Outcome}
use Rattle.model.specs.declared.Outcome.TheVariants as outcome
use Rattle.model.specs.Meaning.{blank_spot, outcome_of, record_of}
use Rattle.model.proofs.FirstOf.{length_first}
use Rattle.placement.specs.Least.{nothing}
use Rattle.search_branches.proofs.Betters.{Sized}
use Rattle.search_best.specs.Best.{result_of, best_of, CountIs, Counted}
use Rattle.search_node.specs.Node.{no_record}

pub none_counted : (n : ℕ) → n ≤ 8 → Counted n no_record
none_counted n h = record { few = h; whole = refl; count = tt }

pub counted_sized : (n : ℕ) (r : HeldRecord) → Counted n r → Sized n (best_of r)
unfolding best_of record_of
counted_sized n r h = by r.outcome h.count
  where
    by : (o : Outcome) → CountIs n o → Sized n (result_of (outcome_of o r.spots))
    by outcome.None k = tt
    by (outcome.Least wl m) k = let f = h.few in let w = h.whole in rw k (length_first blank_spot n r.spots (omega arith))

pub no_best : best_of no_record ≡ nothing
unfolding best_of record_of
no_best = refl

-- a record holds no placement where its result is nothing
pub nothing_none : (r : HeldRecord) → best_of r ≡ nothing → r.outcome ≡ outcome.None
unfolding best_of record_of
nothing_none r e = by r.outcome e
  where
    by : (o : Outcome) → result_of (outcome_of o r.spots) ≡ nothing → o ≡ outcome.None
    by outcome.None q = refl
    by (outcome.Least wl n) q = let z : ◌≡◌ {A = ℕ} 0 1 = cc in absurd (omega arith)
