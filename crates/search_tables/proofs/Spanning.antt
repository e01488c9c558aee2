-- The greatest and the least place of a node on a net, pin by pin.
use Prim.Native.Nat.{ℕ, ◌+◌, ◌≤◌, ◌<◌, min, max}
use mathlib.Core.Path.{◌≡◌, refl, sym, ap}
use mathlib.Core.Bool.{Bool, true, false, cond, false≢true}
use native.Mathlib.Decide.{ℕ_discrete, dec_le}
use native.Mathlib.Omega.{arith}
use Rattle.axis_bounds.specs.declared.AxisPin.{AxisPin}
use Rattle.search_numbers.specs.declared.Span.{Span}
use Rattle.search_numbers.specs.Spans.{span}
use Rattle.search_tables.specs.Entries.{Lies, Spans}

lies_on : (p : ℕ → AxisPin) (from i v u : ℕ) → Lies p from i v u → Lies p from (i + 1) v u
lies_on p from i v u l = let h = l.high in record { place = l.place; low = l.low; high = omega arith; node = l.node; up = l.up }

module _ (p : ℕ → AxisPin) (from node : ℕ) where
  module _ (i : ℕ) (s : Span) (h : Spans p from i node s) where
    module _ (at : from ≤ i) (e : (p i).node ≡ node) where
      here : (u : ℕ) → (p i).up ≡ u → Lies p from (i + 1) node u
      here u q = record { place = i; low = at; high = omega arith; node = e; up = q }

      -- the greater or the less of a place that lies there and the one of pin i lies there
      greater_lies : (m : ℕ) → Lies p from i node m → Lies p from (i + 1) node (max m (p i).up)
      greater_lies m l = by (dec_le m (p i).up)
        where
          by : Dec (m ≤ (p i).up) → Lies p from (i + 1) node (max m (p i).up)
          by (yes q) = here (max m (p i).up) (omega arith)
          by (no q) = let t : max m (p i).up ≡ m = omega arith in rw t (lies_on p from i node m l)

      less_lies : (m : ℕ) → Lies p from i node m → Lies p from (i + 1) node (min m (p i).up)
      less_lies m l = by (dec_le m (p i).up)
        where
          by : Dec (m ≤ (p i).up) → Lies p from (i + 1) node (min m (p i).up)
          by (yes q) = let t : min m (p i).up ≡ m = omega arith in rw t (lies_on p from i node m l)
          by (no q) = here (min m (p i).up) (omega arith)

      spans_on : (b : Bool) → s.some ≡ b → Spans p from (i + 1) node (cond b (span true (max s.most (p i).up) (min s.least (p i).up)) (span true (p i).up (p i).up))
      spans_on true o = record {
        none = λ q. absurd (false≢true (sym q));
        most = λ q. greater_lies s.most (h.most o);
        least = λ q. less_lies s.least (h.least o);
        under = λ k a b g. up k a b g (ℕ_discrete k i);
        over = λ k a b g. low k a b g (ℕ_discrete k i);
      }
        where
          up : (k : ℕ) → from ≤ k → k < i + 1 → (p k).node ≡ node → Dec (k ≡ i) → (p k).up ≤ max s.most (p i).up
          up k a b g (yes q) = let t : (p k).up ≡ (p i).up = ap (λ (t : ℕ). (p t).up) q in omega arith
          up k a b g (no q) = let t = h.under k a (omega arith) g in omega arith

          low : (k : ℕ) → from ≤ k → k < i + 1 → (p k).node ≡ node → Dec (k ≡ i) → min s.least (p i).up ≤ (p k).up
          low k a b g (yes q) = let t : (p k).up ≡ (p i).up = ap (λ (t : ℕ). (p t).up) q in omega arith
          low k a b g (no q) = let t = h.over k a (omega arith) g in omega arith
      spans_on false o = record {
        none = λ q. absurd (false≢true (sym q));
        most = λ q. here (p i).up refl;
        least = λ q. here (p i).up refl;
        under = λ k a b g. up k a b g (ℕ_discrete k i);
        over = λ k a b g. low k a b g (ℕ_discrete k i);
      }
        where
          up : (k : ℕ) → from ≤ k → k < i + 1 → (p k).node ≡ node → Dec (k ≡ i) → (p k).up ≤ (p i).up
          up k a b g (yes q) = let t : (p k).up ≡ (p i).up = ap (λ (t : ℕ). (p t).up) q in omega arith
          up k a b g (no q) = absurd (h.none o k a (omega arith) g)

          low : (k : ℕ) → from ≤ k → k < i + 1 → (p k).node ≡ node → Dec (k ≡ i) → (p i).up ≤ (p k).up
          low k a b g (yes q) = let t : (p k).up ≡ (p i).up = ap (λ (t : ℕ). (p t).up) q in omega arith
          low k a b g (no q) = absurd (h.none o k a (omega arith) g)
