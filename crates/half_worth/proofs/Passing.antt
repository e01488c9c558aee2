-- The tests of amounts node by node and net by net.
use Prim.Native.Nat.{ℕ, ◌+◌, ◌≤◌, ◌<◌}
use mathlib.Core.Path.{◌≡◌, sym, ◌∙◌}
use mathlib.Core.Bool.{Bool, true}
use mathlib.Core.List.{List}
use native.Mathlib.Decide.{ℕ_discrete}
use native.Mathlib.Omega.{arith}
use lib.ListN.{get_or}
use mir.Syntax.{w64}
use mir.Val.{Fits}
use Rattle.half_arrays.specs.Arrays.{entry_count, weight_at}
use Rattle.half_arrays.specs.State.{flow_at, hi_at, lo_at}
use Rattle.half_arrays.specs.Says.{Says}
use Rattle.half_sums.specs.Sums.{EntrySums, FlowSums, SumsWithin}
use Rattle.half_worth.specs.Amounts.{Balances, GivesWeights, Passes}
use Rattle.half_worth.specs.Tests.{Level, Given}

-- ---- nodes

pub level_none : (into low out high : List ℕ) → Level into low out high 0
level_none into low out high = record { at = λ i l. absurd (omega arith) }

pub level_next : (into low out high : List ℕ) (k : ℕ) → Level into low out high k → get_or into k 0 + get_or low k 0 ≡ get_or out k 0 + get_or high k 0 → Level into low out high (k + 1)
level_next into low out high k h e = record { at = λ i l. by i l (ℕ_discrete i k) }
  where
    by : (i : ℕ) → i < k + 1 → Dec (i ≡ k) → get_or into i 0 + get_or low i 0 ≡ get_or out i 0 + get_or high i 0
    by i l (yes q) = rw q e
    by i l (no n) = h.at i (omega arith)

pub small_fits : (r s : List ℕ) → SumsWithin r → SumsWithin s → (k : ℕ) → Fits w64 (get_or r k 0 + get_or s k 0)
small_fits r s a b k = let p = a.at k in let q = b.at k in omega arith

pub level_all : (into low out high : List ℕ) (k : ℕ) → Level into low out high k → k ≤ 9 → 9 ≤ k → Says true (Level into low out high 9)
level_all into low out high k h l g = let e : k ≡ 9 = omega arith in record { then = λ t. rw (← e) h }

-- ---- nets

pub given_none : (tab hs ls : List ℕ) → Given tab hs ls 0
given_none tab hs ls = record { high = λ i l. absurd (omega arith); low = λ i l. absurd (omega arith) }

pub given_next : (tab hs ls : List ℕ) (k w : ℕ) → Given tab hs ls k → w ≡ weight_at tab k → get_or hs k 0 ≡ w → get_or ls k 0 ≡ w → Given tab hs ls (k + 1)
given_next tab hs ls k w g d a b = record { high = λ i l. high i l (ℕ_discrete i k); low = λ i l. low i l (ℕ_discrete i k) }
  where
    high : (i : ℕ) → i < k + 1 → Dec (i ≡ k) → get_or hs i 0 ≡ weight_at tab i
    high i l (yes q) = rw q (a ∙ d)
    high i l (no n) = g.high i (omega arith)

    low : (i : ℕ) → i < k + 1 → Dec (i ≡ k) → get_or ls i 0 ≡ weight_at tab i
    low i l (yes q) = rw q (b ∙ d)
    low i l (no n) = g.low i (omega arith)

pub given_all : (tab hs ls : List ℕ) (k : ℕ) → Given tab hs ls k → k ≤ 32 → 32 ≤ k → Says true (Given tab hs ls 32)
given_all tab hs ls k h l g = let e : k ≡ 32 = omega arith in record { then = λ t. rw (← e) h }

-- ---- both

module _ (tab arcs st : List ℕ) (o : ℕ) (nh nl th tl : List ℕ) (u d : ℕ) (is os : List ℕ) (x y : ℕ) (e : EntrySums tab st o (entry_count tab) nh nl th tl u d) (f : FlowSums arcs st o 81 is os x y) where
  balanced : Level is nl os nh 9 → Balances tab (flow_at st o) (hi_at st o) (lo_at st o)
  unfolding Balances
  balanced h = record { eq = λ i l. let e' = h.at i l in let p = e.node_low.at i l in let q = e.node_high.at i l in let r = f.into.at i l in let s = f.out.at i l in omega arith }

  given : Given tab th tl 32 → GivesWeights tab (hi_at st o) (lo_at st o)
  given h = record { high = λ j l. sym (e.net_high.at j l) ∙ h.high j l; low = λ j l. sym (e.net_low.at j l) ∙ h.low j l }

  pub both_pass : (b g : Bool) → Says b (Level is nl os nh 9) → b ≡ true → Says g (Given tab th tl 32) → Says g (Passes tab (flow_at st o) (hi_at st o) (lo_at st o))
  both_pass b g sb eb sg = record { then = λ t. record { balance = balanced (sb.then eb); weights = given (sg.then t) } }
