-- A bound raised in a table: what follows from the others may be put in, and nothing is lost.
use Prim.Native.Nat.{ℕ, ◌+◌, ◌-◌, ◌/◌, ◌%◌, ◌≤◌, ◌<◌}
use mathlib.Core.Path.{◌≡◌, refl, sym, subst, ◌∙◌}
use mathlib.Core.List.{List}
use native.Mathlib.Decide.{ℕ_discrete, dec_lt}
use native.Mathlib.Omega.{arith}
use lib.ListN.{length, get_or, set}
use lib.Seq.{set_out, get_or-set_same, get_or-set_other}
use borrow.Author.Tests.{lt-ltb, le-ltb}
use Rattle.search_kept.specs.Differences.{raised, bound_in, KeptBy, raised_at}

module _ (e : List ℕ) (c w : ℕ) where
  abbrev v : ℕ
  v = (w - raised) % 33554432

  -- d is the bound that stands
  module _ (d : ℕ) (i : d ≡ bound_in e c) where
    pub raise_low : w ≤ raised + d → e ≡ raised_at e c w
    unfolding raised_at
    raise_low h = rw (le-ltb (raised + bound_in e c) w (omega arith)) refl

    pub raise_far : raised + d < w → 50331648 ≤ w → e ≡ raised_at e c w
    unfolding raised_at
    raise_far h f = rw (lt-ltb (raised + bound_in e c) w (omega arith), le-ltb w 50331648 f) refl

    pub raise_set : raised + d < w → w < 50331648 → set e c ((w - raised) % 33554432) ≡ raised_at e c w
    unfolding raised_at
    raise_set h f = rw (lt-ltb (raised + bound_in e c) w (omega arith), lt-ltb w 50331648 f) refl

  -- the raised table is the table, or has the bound at its place
  data Raised (r : List ℕ) : Type 0 where
    same : r ≡ e → Raised r
    more : raised + bound_in e c < w → w < 50331648 → c < length e → r ≡ set e c v → Raised r

  raised_is : Raised (raised_at e c w)
  raised_is = by (dec_lt (raised + bound_in e c) w) (dec_lt w 50331648) (dec_lt c (length e))
    where
      by : Dec (raised + bound_in e c < w) → Dec (w < 50331648) → Dec (c < length e) → Raised (raised_at e c w)
      by (yes h) (yes f) (yes l) = more h f l (sym (raise_set (bound_in e c) refl h f))
      by (yes h) (yes f) (no l) = same (sym (raise_set (bound_in e c) refl h f) ∙ set_out e c v (omega arith))
      by (yes h) (no f) l = same (sym (raise_far (bound_in e c) refl h (omega arith)))
      by (no h) f l = same (sym (raise_low (bound_in e c) refl (omega arith)))

  module _ (lc : c < 81) (x : ℕ → ℕ) where
    pub raised_keeps : KeptBy e x → x (c / 9) + w ≤ x (c % 9) + raised + raised → KeptBy (raised_at e c w) x
    raised_keeps k h = by raised_is
      where
        by : Raised (raised_at e c w) → KeptBy (raised_at e c w) x
        by (same q) = rw q k
        by (more g f l q) = rw q (record { at = λ d o. on d o (ℕ_discrete d c) })
          where
            on : (d : ℕ) → d < 81 → Dec (d ≡ c) → x (d / 9) + bound_in (set e c v) d ≤ x (d % 9) + raised
            on d o (yes z) = rw (z, get_or-set_same e c v 0 l) (omega arith)
            on d o (no z) = rw (get_or-set_other e c d v 0 z) (k.at d o)

    pub raised_back : KeptBy (raised_at e c w) x → KeptBy e x
    raised_back k = by raised_is
      where
        by : Raised (raised_at e c w) → KeptBy e x
        by (same q) = subst (λ (t : List ℕ). KeptBy t x) q k
        by (more g f l q) = record { at = λ d o. on d o (ℕ_discrete d c) }
          where
            j : KeptBy (set e c v) x
            j = subst (λ (t : List ℕ). KeptBy t x) q k

            on : (d : ℕ) → d < 81 → Dec (d ≡ c) → x (d / 9) + bound_in e d ≤ x (d % 9) + raised
            on d o (yes z) =
                let a = j.at c lc in
                let b : get_or (set e c v) c 0 ≡ v = get_or-set_same e c v 0 l in
                rw z (omega arith)
            on d o (no z) = rw (get_or-set_other e c d v 0 z) at (j.at d o)

    pub raised_own : c < length e → w < 50331648 → raised ≤ w → KeptBy (raised_at e c w) x → x (c / 9) + w ≤ x (c % 9) + raised + raised
    raised_own l f g k = by (dec_lt (raised + bound_in e c) w)
      where
        by : Dec (raised + bound_in e c < w) → x (c / 9) + w ≤ x (c % 9) + raised + raised
        by (no h) = let a = (raised_back k).at c lc in omega arith
        by (yes h) =
            let b = (subst (λ (t : List ℕ). KeptBy t x) (sym (raise_set (bound_in e c) refl h f)) k).at c lc in
            let s : get_or (set e c v) c 0 ≡ v = get_or-set_same e c v 0 l in
            omega arith
