-- The slot of least slack that leaves a set.
use mathlib.Core.Path.{◌≡◌, refl, sym, ◌∙◌}
use mathlib.Core.Bool.{Bool, true, false, false≢true}
use native.Mathlib.Decide.{dec_lt}
use mathlib.Core.List.{List}
use Prim.Native.Nat.{ℕ, ◌+◌, ◌-◌, ◌≤◌, ◌<◌}
use native.Mathlib.Omega.{arith}
use borrow.Author.Count.{below_more}
use Rattle.axis_bounds.specs.declared.Slot.{Slot}
use Rattle.axis_graph.specs.declared.Graph.{Graph}
use Rattle.axis_graph.specs.Limits.{no_slack}
use Rattle.axis_bounds.specs.Listed.{slot_at, tails, heads, pluses, minuses}
use Rattle.axis_graph.specs.Graph.{at, Decides, GraphWithin, ValuesWithin, slack_at, LeavesBy, Closed}
use Rattle.std.specs.Prelude.{Option, Some, None, IsTrue, MatchOption}
use Rattle.axis_solve.specs.declared.growth.Leave.{Leave}
use Rattle.axis_solve.specs.Growth.{Least}

-- ---- the scan for the least slack

module _ (ss : List Slot) (m : ℕ) (f x rank : List ℕ) where
  module _ (i best by : ℕ) (c : Least ss m f x rank i best by) (b : Bool) (dec : Decides b (LeavesBy (slot_at ss i) (at f i) rank)) where
    pub least_skip : b ≡ false → Least ss m f x rank (i + 1) best by
    least_skip e = record { least = below_more _ i c.least (λ w. absurd (dec.fails e w)); found = c.found }

    pub least_keep : by ≤ at x (heads ss i) + minuses ss i - (at x (tails ss i) + pluses ss i) → Least ss m f x rank (i + 1) best by
    unfolding slack_at
    least_keep h = record { least = below_more _ i c.least (λ w. omega arith); found = c.found }

    pub least_take : b ≡ true → i < m → at x (heads ss i) + minuses ss i - (at x (tails ss i) + pluses ss i) < by → Least ss m f x rank (i + 1) i (at x (heads ss i) + minuses ss i - (at x (tails ss i) + pluses ss i))
    unfolding slack_at
    least_take y l h =
        record { least = below_more _ i (λ s k w. let q = c.least s k w in omega arith) (λ w. omega arith); found = λ k. (l, dec.holds y, refl) }

  -- a slot that leaves and is tight
  pub least_tight : (i : ℕ) → i < m → (b : Bool) → Decides b (LeavesBy (slot_at ss i) (at f i) rank) → b ≡ true → at x (heads ss i) + minuses ss i - (at x (tails ss i) + pluses ss i) ≡ 0 → Least ss m f x rank m i 0
  unfolding slack_at
  least_tight i l b dec y e = record { least = λ s k w. omega arith; found = λ k. (l, dec.holds y, sym e) }

-- the first i slots were looked through
abbrev pub Scanned : List Slot → ℕ → List ℕ → List ℕ → List ℕ → ℕ → Option Leave → Type 0
Scanned ss m f x rank i best =
    MatchOption best ((s : ℕ) → s < i → LeavesBy (slot_at ss s) (at f s) rank → ⊥) (λ l. (l.by < no_slack) × Least ss m f x rank i l.slot l.by)

module _ (ss : List Slot) (m : ℕ) (f x rank : List ℕ) (i : ℕ) (b : Bool) (dec : Decides b (LeavesBy (slot_at ss i) (at f i) rank)) where
  abbrev d : ℕ
  d = at x (heads ss i) + minuses ss i - (at x (tails ss i) + pluses ss i)

  pub scan_skip : (best : Option Leave) → Scanned ss m f x rank i best → b ≡ false → Scanned ss m f x rank (i + 1) best
  scan_skip None h e = below_more (λ s. LeavesBy (slot_at ss s) (at f s) rank → ⊥) i h (dec.fails e)
  scan_skip (Some l) h e = (h.0, least_skip ss m f x rank i l.slot l.by h.1 b dec e)

  pub scan_keep : (best : Option Leave) → Scanned ss m f x rank i best → (r : Bool) → MatchOption best (IsTrue r) (λ l. Decides r (d < l.by)) → r ≡ false → Scanned ss m f x rank (i + 1) best
  scan_keep None h r q e = absurd (false≢true (sym e ∙ q))
  scan_keep (Some l) h r q e = (h.0, least_keep ss m f x rank i l.slot l.by h.1 b dec (by (dec_lt d l.by)))
    where
      by : Dec (d < l.by) → l.by ≤ d
      by (yes p) = absurd (q.fails e p)
      by (no n) = omega arith

  pub scan_take : b ≡ true → i < m → d < no_slack → (best : Option Leave) → Scanned ss m f x rank i best → (r : Bool) → MatchOption best (IsTrue r) (λ l. Decides r (d < l.by)) → r ≡ true → Scanned ss m f x rank (i + 1) (Some (record { slot = i; by = d }))
  unfolding slack_at
  scan_take y l n None h r q e = (n, record { least = below_more _ i (λ s k w. absurd (h s k w)) (λ w. omega arith); found = λ k. (l, dec.holds y, refl) })
  scan_take y l n (Some o) h r q e = (n, least_take ss m f x rank i o.slot o.by h.1 b dec y l (q.holds e))
