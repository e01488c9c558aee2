-- The step of a cursor by tests: from a pair it goes to the next one, and elsewhere it stays.
use Prim.Native.Nat.{ℕ, ◌+◌, ◌^◌, ◌≤◌, ◌<◌}
use mathlib.Core.Path.{◌≡◌, refl, sym, ◌∙◌}
use mathlib.Core.Bool.{Bool, true, false, not, ◌&&◌}
use native.Mathlib.Decide.{dec_lt}
use native.Mathlib.Omega.{arith}
use mir.Syntax.{w64}
use mir.Val.{Fits}
use lib.Dec.{ltb}
use borrow.Author.Tests.{lt-ltb, le-ltb, ltb-true, not-true, not-false}
use Rattle.text_grammar.proofs.Lacks.{and_left, and_right}
use Rattle.fit_pairs.specs.declared.Cursor.{Cursor}
use Rattle.fit_pairs.specs.Order.{OnPair, Next, first_pair, is_on, cursor, step_from, next_of}
use Rattle.fit_pairs.proofs.Cursors.{fix_next, fix_next_row, mac_next, mac_next_row, mac_rows_over}

-- ---- the first pair

pub macs_first_law : (n : ℕ) → 2 ≤ n → cursor false 0 1 ≡ first_pair n
unfolding first_pair
macs_first_law n h = rw (lt-ltb 1 n h)

pub fixes_first_law : (n : ℕ) → n < 2 → cursor true 0 0 ≡ first_pair n
unfolding first_pair
fixes_first_law n h = rw (le-ltb 1 n (let e : n ≤ 1 = omega arith in e))

-- ---- the test of a pair

both_less : (a b c d : ℕ) → (ltb a b && ltb c d) ≡ true → (a < b) × (c < d)
both_less a b c d e = (ltb-true a b (and_left (ltb a b) (ltb c d) e), ltb-true c d (and_right (ltb a b) (ltb c d) e))

-- a cursor is on a pair exactly when the test is passed
module _ (n k : ℕ) (at : Cursor) where
  pub is_on_law : is_on n k at.fix at.i at.j ≡ true → OnPair n k at
  is_on_law e = record {
    macs = λ f. both_less at.i at.j at.j n (rw f at e);
    fixes = λ f. both_less at.i n at.j k (rw f at e);
  }

  pub on_is : OnPair n k at → is_on n k at.fix at.i at.j ≡ true
  on_is on = by at.fix refl
    where
      by : (f : Bool) → at.fix ≡ f → is_on n k f at.i at.j ≡ true
      by false e = let p = on.macs e in rw (lt-ltb at.i at.j p.0, lt-ltb at.j n p.1)
      by true e = let p = on.fixes e in rw (lt-ltb at.i n p.0, lt-ltb at.j k p.1)

-- ---- what the function hands back

module _ (at : Cursor) (n k : ℕ) where
  goes : is_on n k at.fix at.i at.j ≡ true → next_of at n k ≡ step_from n k at.fix at.i at.j
  unfolding next_of
  goes e = rw e

  module _ (r : Bool) (e : r ≡ is_on n k at.fix at.i at.j) where
    pub stays_off : not r ≡ true → at ≡ next_of at n k
    unfolding next_of
    stays_off h = rw (← e, not-true r h)

    module _ (h : not r ≡ false) where
      passed : is_on n k at.fix at.i at.j ≡ true
      passed = sym e ∙ not-false r h

      on : OnPair n k at
      on = is_on_law n k at passed

      -- no sum is too large
      pub fix_column_fits : at.fix ≡ true → k < 2 ^ 64 → Fits w64 (at.j + 1)
      fix_column_fits f g = let p = on.fixes f in omega arith

      -- where the step ends
      pub to_fix : at.fix ≡ true → at.j + 1 < k → cursor at.fix at.i (at.j + 1) ≡ next_of at n k
      to_fix f l = sym (goes passed ∙ rw (f, lt-ltb (at.j + 1) k l))

      pub to_fix_row : at.fix ≡ true → k ≤ at.j + 1 → cursor true (at.i + 1) 0 ≡ next_of at n k
      to_fix_row f l = sym (goes passed ∙ rw (f, le-ltb (at.j + 1) k l))

      pub to_mac : at.fix ≡ false → at.j + 1 < n → cursor at.fix at.i (at.j + 1) ≡ next_of at n k
      to_mac f l = sym (goes passed ∙ rw (f, lt-ltb (at.j + 1) n l))

      pub to_mac_row : at.fix ≡ false → n ≤ at.j + 1 → at.i + 2 < n → cursor false (at.i + 1) (at.i + 2) ≡ next_of at n k
      to_mac_row f l g = sym (goes passed ∙ rw (f, le-ltb (at.j + 1) n l, lt-ltb (at.i + 2) n g))

      pub to_fixes : at.fix ≡ false → n ≤ at.j + 1 → n ≤ at.i + 2 → cursor true 0 0 ≡ next_of at n k
      to_fixes f l g = sym (goes passed ∙ rw (f, le-ltb (at.j + 1) n l, le-ltb (at.i + 2) n g))

  -- ---- what that means

  module _ (on : OnPair n k at) where
    there : (r : Cursor) → r ≡ next_of at n k → Next n k at r → Next n k at (next_of at n k)
    there r e s = rw (← e) s

    test : true ≡ is_on n k at.fix at.i at.j
    test = sym (on_is n k at on)

    pub next_step : Next n k at (next_of at n k)
    next_step = by at.fix refl
      where
        fixes : at.fix ≡ true → Dec (at.j + 1 < k) → Next n k at (next_of at n k)
        fixes f (yes l) = there (cursor at.fix at.i (at.j + 1)) (to_fix true test refl f l) (fix_next n k at on f l)
        fixes f (no l) = there (cursor true (at.i + 1) 0) (to_fix_row true test refl f (omega arith)) (fix_next_row n k at on f (omega arith))

        macs : at.fix ≡ false → Dec (at.j + 1 < n) → Dec (at.i + 2 < n) → Next n k at (next_of at n k)
        macs f (yes l) g = there (cursor at.fix at.i (at.j + 1)) (to_mac true test refl f l) (mac_next n k at on f l)
        macs f (no l) (yes g) = there (cursor false (at.i + 1) (at.i + 2)) (to_mac_row true test refl f (omega arith) g) (mac_next_row n k at on f (omega arith) g)
        macs f (no l) (no g) = there (cursor true 0 0) (to_fixes true test refl f (omega arith) (omega arith)) (mac_rows_over n k at on f (omega arith) (omega arith))

        by : (f : Bool) → at.fix ≡ f → Next n k at (next_of at n k)
        by true e = fixes e (dec_lt (at.j + 1) k)
        by false e = macs e (dec_lt (at.j + 1) n) (dec_lt (at.i + 2) n)
