-- The tests of reasons, one after the other.
use Prim.Native.Nat.{ℕ, ◌+◌, ◌≤◌, ◌<◌}
use mathlib.Core.Path.{◌≡◌}
use mathlib.Core.Bool.{Bool, true, false, not}
use mathlib.Core.List.{List}
use native.Mathlib.Decide.{ℕ_discrete}
use native.Mathlib.Omega.{arith}
use Rattle.half_arrays.specs.Says.{Says}
use Rattle.half_arrays.specs.Arrays.{most_at, least_at}
use Rattle.half_arrays.specs.State.{flow_at, hi_at, lo_at, rank_at}
use Rattle.half_arrays.proofs.Answers.{said}
use Rattle.half_values.specs.Values.{ValuesOf, macros}
use Rattle.half_reason.specs.Reasons.{Beside, Even, Follows, by_high, by_low, Reason, Reasons}

module _ (tab arcs st z : List ℕ) (o p k : ℕ) (s : Bool) where
  module _ (i j a b c : ℕ) (r : Bool) (on : Says r (Beside tab p k i j)) (er : r ≡ true) (n : 0 < a) where
    pub high_follows : a ≡ hi_at st o j → b ≡ most_at tab i → c ≡ most_at tab j → Says s (Even z p k b c) → Says s (Follows tab arcs (flow_at st o) (hi_at st o) (lo_at st o) z p k)
    high_follows ea eb ec h = record { then = λ t. by_high i j (on.then er) (omega arith) (rw (← eb, ← ec) (h.then t)) }

    pub low_follows : a ≡ lo_at st o i → b ≡ least_at tab i → c ≡ least_at tab j → Says s (Even z p k b c) → Says s (Follows tab arcs (flow_at st o) (hi_at st o) (lo_at st o) z p k)
    low_follows ea eb ec h = record { then = λ t. by_low i j (on.then er) (omega arith) (rw (← eb, ← ec) (h.then t)) }

  pub reason_says : (a b : ℕ) → p < 9 → a ≡ rank_at st o p → b ≡ rank_at st o k → a < b → Says s (Follows tab arcs (flow_at st o) (hi_at st o) (lo_at st o) z p k) → Says s (Reason tab arcs (flow_at st o) (hi_at st o) (lo_at st o) z (rank_at st o) k)
  reason_says a b l ea eb lt h = record { then = λ t. record { parent = p; inside = l; lower = omega arith; follows = h.then t } }

module _ (tab arcs st z : List ℕ) (o : ℕ) where
  pub reasons_none : Reasons tab arcs (flow_at st o) (hi_at st o) (lo_at st o) z (rank_at st o) 1
  reasons_none = record { at = λ i a b. absurd (omega arith) }

  pub reasons_next : (k : ℕ) (s : Bool) → Reasons tab arcs (flow_at st o) (hi_at st o) (lo_at st o) z (rank_at st o) k → Says s (Reason tab arcs (flow_at st o) (hi_at st o) (lo_at st o) z (rank_at st o) k) → not s ≡ false → Reasons tab arcs (flow_at st o) (hi_at st o) (lo_at st o) z (rank_at st o) (k + 1)
  reasons_next k s h r t = record { at = λ i a b. by i a b (ℕ_discrete i k) }
    where
      by : (i : ℕ) → 0 < i → i < k + 1 → Dec (i ≡ k) → Reason tab arcs (flow_at st o) (hi_at st o) (lo_at st o) z (rank_at st o) i
      by i a b (yes q) = rw q (said s r t)
      by i a b (no n) = h.at i a (omega arith)

  pub reasons_all : (k : ℕ) (x : List ℕ) → ValuesOf z x → Reasons tab arcs (flow_at st o) (hi_at st o) (lo_at st o) (macros x) (rank_at st o) k → 9 ≤ k → Says true (Reasons tab arcs (flow_at st o) (hi_at st o) (lo_at st o) z (rank_at st o) 9)
  reasons_all k x of h l = record { then = λ t. rw (← of.is) (record { at = λ i a b. h.at i a (omega arith) }) }
