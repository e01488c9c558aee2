-- A cursor goes through the pairs in the order of letters: from the first on stand all of them, and each step takes the first off. The pairs left with macro i are those of the macros from it on without as many as are done, so a step within a row drops one more, and past the row stand the pairs of the next one.
use Prim.Native.Nat.{ℕ, zero, suc, ◌+◌, ◌-◌, ◌≤◌, ◌<◌}
use mathlib.Core.Path.{◌≡◌, refl, sym, ap, ◌∙◌}
use mathlib.Core.Bool.{Bool, true, false, true≢false, false≢true}
use mathlib.Core.List.{List, [], ◌∷◌, ◌++◌, map}
use native.Mathlib.Decide.{dec_lt}
use native.Mathlib.Nat.{le_of_suc-le-suc}
use native.Mathlib.Numerals.{add-one}
use native.Mathlib.Omega.{arith}
use lib.ListN.{length, get_or, drop, length-append, length-drop, length-map, drop_of_length-le, get_or-append, get_or-map}
use lib.Seq.{drop-cons, drop_at, drop-nil, get_or-drop}
use Rattle.model.specs.declared.Fix.{Fix}
use Rattle.model.specs.declared.Mac.{Mac}
use Rattle.model.specs.Meaning.{blank_fix, blank_mac}
use Rattle.fit_slots.specs.Slots.{Couple, two_macs, mac_fix, couples_with, mac_couples, fix_couples, couples_of}
use Rattle.fit_slots.proofs.Counting.{with_count}
use Rattle.fit_pairs.specs.declared.Cursor.{Cursor}
use Rattle.fit_pairs.specs.Order.{pair_at, rest_at, rest_from, OnPair, Ready, First, Next, cursor}

-- ---- lists of pairs

with_at : (i : ℕ) (a : Mac) (j : ℕ) (s : List Mac) (e : ℕ) (z : Couple) → e < length s → get_or (couples_with i a j s) e z ≡ two_macs i a (j + e) (get_or s e blank_mac)
unfolding couples_with
with_at i a j [] e z h = absurd (omega arith)
with_at i a j (b ∷ s) zero z h = ap (λ (t : ℕ). two_macs i a t b) (omega arith)
with_at i a j (b ∷ s) (suc e) z h = with_at i a (suc j) s e z (le_of_suc-le-suc h) ∙ ap (λ (t : ℕ). two_macs i a t (get_or s e blank_mac)) (omega arith)

-- one macro makes no pair
alone : (i : ℕ) (s : List Mac) → length s ≤ 1 → mac_couples i s ≡ []
unfolding mac_couples couples_with
alone i [] h = refl
alone i (a ∷ []) h = refl
alone i (a ∷ b ∷ s) h = absurd (omega arith)

-- the row of macro i stands in front
mac_row_law : (i : ℕ) (ms : List Mac) → i < length ms → mac_couples (suc i) (drop i ms) ≡ couples_with (suc i) (get_or ms i blank_mac) (suc (suc i)) (drop (suc i) ms) ++ mac_couples (suc (suc i)) (drop (suc i) ms)
unfolding mac_couples
mac_row_law i ms h = ap (mac_couples (suc i)) (drop-cons ms i blank_mac h)

fix_row_law : (i : ℕ) (ms : List Mac) (fs : List Fix) → i < length ms → fix_couples (suc i) (drop i ms) fs ≡ map (mac_fix (suc i) (get_or ms i blank_mac)) fs ++ fix_couples (suc (suc i)) (drop (suc i) ms) fs
unfolding fix_couples
fix_row_law i ms fs h = ap (λ (s : List Mac). fix_couples (suc i) s fs) (drop-cons ms i blank_mac h)

-- ---- a step, over lists

-- the first of a list past e items of its front part
front_off : (s t : List Couple) (e : ℕ) (z : Couple) → e < length s → drop e (s ++ t) ≡ get_or s e z ∷ drop (suc e) (s ++ t)
front_off s t e z h =
    let q = length-append s t in
    drop-cons (s ++ t) e z (omega arith) ∙ ap (λ (u : Couple). u ∷ drop (suc e) (s ++ t)) (get_or-append s t z e h)

module _ (ms : List Mac) (fs : List Fix) (i j : ℕ) where
  module _ (hi : i < length ms) (hj : j < length fs) where
    abbrev fix_row : List Couple
    fix_row = map (mac_fix (suc i) (get_or ms i blank_mac)) fs

    fix_off : rest_at ms fs true i j ≡ pair_at ms fs true i j ∷ rest_at ms fs true i (j + 1)
    fix_off =
        let q : length fix_row ≡ length fs = length-map fs (mac_fix (suc i) (get_or ms i blank_mac)) in
        rw (add-one i, add-one j, fix_row_law i ms fs hi)
        (front_off fix_row (fix_couples (suc (suc i)) (drop (suc i) ms) fs) j (mac_fix (suc i) (get_or ms i blank_mac) blank_fix) (omega arith)
        ∙ ap (λ (u : Couple). u ∷ drop (suc j) (fix_row ++ fix_couples (suc (suc i)) (drop (suc i) ms) fs)) (get_or-map (mac_fix (suc i) (get_or ms i blank_mac)) fs j blank_fix))

    -- past the last fix the next macro's row begins
    fix_row_over : length fs ≤ j + 1 → rest_at ms fs true i (j + 1) ≡ rest_at ms fs true (i + 1) 0
    fix_row_over l =
        let q : length fix_row ≡ length fs = length-map fs (mac_fix (suc i) (get_or ms i blank_mac)) in
        rw (add-one i, fix_row_law i ms fs hi) (drop_at fix_row (fix_couples (suc (suc i)) (drop (suc i) ms) fs) (j + 1) (omega arith))

  module _ (hi : i < j) (hj : j < length ms) where
    abbrev mac_row : List Couple
    mac_row = couples_with (suc i) (get_or ms i blank_mac) (suc (suc i)) (drop (suc i) ms)

    row_length : length mac_row ≡ length ms - suc i
    row_length = with_count (suc i) (get_or ms i blank_mac) (suc (suc i)) (drop (suc i) ms) ∙ length-drop (suc i) ms

    row_at : get_or mac_row (j - suc i) (two_macs 0 blank_mac 0 blank_mac) ≡ pair_at ms fs false i j
    row_at =
        let q = length-drop (suc i) ms in
        let e : suc i + (j - suc i) ≡ j = omega arith in
        with_at (suc i) (get_or ms i blank_mac) (suc (suc i)) (drop (suc i) ms) (j - suc i) (two_macs 0 blank_mac 0 blank_mac) (omega arith)
        ∙ ap (λ (m : Mac). two_macs (suc i) (get_or ms i blank_mac) (suc (suc i) + (j - suc i)) m) (get_or-drop (suc i) ms (j - suc i) blank_mac ∙ ap (λ (t : ℕ). get_or ms t blank_mac) e)
        ∙ ap (λ (t : ℕ). two_macs (suc i) (get_or ms i blank_mac) t (get_or ms j blank_mac)) (omega arith)
        ∙ ap (λ (t : ℕ). two_macs t (get_or ms i blank_mac) (j + 1) (get_or ms j blank_mac)) (omega arith)

    mac_off : rest_at ms fs false i j ≡ pair_at ms fs false i j ∷ rest_at ms fs false i (j + 1)
    mac_off =
        let q = row_length in
        let e : j + 1 - suc i ≡ suc (j - suc i) = omega arith in
        rw (mac_row_law i ms (omega arith), e, front_off mac_row (mac_couples (suc (suc i)) (drop (suc i) ms)) (j - suc i) (two_macs 0 blank_mac 0 blank_mac) (omega arith), row_at)

    past_row : length ms ≤ j + 1 → rest_at ms fs false i (j + 1) ≡ mac_couples (suc (suc i)) (drop (suc i) ms) ++ fix_couples 1 ms fs
    past_row l =
        let q = row_length in
        rw (mac_row_law i ms (omega arith), drop_at mac_row (mac_couples (suc (suc i)) (drop (suc i) ms)) (j + 1 - suc i) (omega arith))

    -- past the last macro the next macro's row begins
    mac_row_over : length ms ≤ j + 1 → rest_at ms fs false i (j + 1) ≡ rest_at ms fs false (i + 1) (i + 2)
    mac_row_over l =
        let e : i + 2 - suc (i + 1) ≡ 0 = omega arith in
        past_row l ∙ rw (e, add-one i)

    -- past the last row the fixes' pairs begin
    rows_over : length ms ≤ j + 1 → length ms ≤ i + 2 → rest_at ms fs false i (j + 1) ≡ rest_at ms fs true 0 0
    rows_over l g =
        let q = length-drop (suc i) ms in
        past_row l ∙ ap (λ (t : List Couple). t ++ fix_couples 1 ms fs) (alone (suc (suc i)) (drop (suc i) ms) (omega arith))

-- ---- the first pair

pub first_macs : (n : ℕ) → 2 ≤ n → First n (cursor false 0 1)
unfolding couples_of
first_macs n h = record {
  ready = λ k. record { macs = λ e. omega arith; fixes = λ e. absurd (false≢true e) };
  all = λ ms fs l. refl;
}

pub first_fixes : (n : ℕ) → n < 2 → First n (cursor true 0 0)
unfolding couples_of
first_fixes n h = record {
  ready = λ k. record { macs = λ e. absurd (true≢false e); fixes = λ e. omega arith };
  all = λ ms fs l. sym (ap (λ (t : List Couple). t ++ fix_couples 1 ms fs) (alone 1 ms (omega arith)));
}

-- ---- the next pair

module _ (n k : ℕ) (at : Cursor) (on : OnPair n k at) where
  module _ (f : at.fix ≡ true) where
    pub fix_next : at.j + 1 < k → Next n k at (cursor at.fix at.i (at.j + 1))
    fix_next h =
        let p = on.fixes f in
        record {
          ready = record { macs = λ e. absurd (true≢false (sym f ∙ e)); fixes = λ e. omega arith };
          step = λ ms fs l m. rw f (fix_off ms fs at.i at.j (omega arith) (omega arith));
        }

    pub fix_next_row : k ≤ at.j + 1 → Next n k at (cursor true (at.i + 1) 0)
    fix_next_row h =
        let p = on.fixes f in
        record {
          ready = record { macs = λ e. absurd (true≢false e); fixes = λ e. omega arith };
          step = λ ms fs l m.
              rw f
              (fix_off ms fs at.i at.j (omega arith) (omega arith)
              ∙ ap (λ (t : List Couple). pair_at ms fs true at.i at.j ∷ t) (fix_row_over ms fs at.i at.j (omega arith) (omega arith) (omega arith)));
        }

  module _ (f : at.fix ≡ false) where
    pub mac_next : at.j + 1 < n → Next n k at (cursor at.fix at.i (at.j + 1))
    mac_next h =
        let p = on.macs f in
        record {
          ready = record { macs = λ e. omega arith; fixes = λ e. absurd (false≢true (sym f ∙ e)) };
          step = λ ms fs l m. rw f (mac_off ms fs at.i at.j (omega arith) (omega arith));
        }

    pub mac_next_row : n ≤ at.j + 1 → at.i + 2 < n → Next n k at (cursor false (at.i + 1) (at.i + 2))
    mac_next_row h g =
        let p = on.macs f in
        record {
          ready = record { macs = λ e. omega arith; fixes = λ e. absurd (false≢true e) };
          step = λ ms fs l m.
              rw f
              (mac_off ms fs at.i at.j (omega arith) (omega arith)
              ∙ ap (λ (t : List Couple). pair_at ms fs false at.i at.j ∷ t) (mac_row_over ms fs at.i at.j (omega arith) (omega arith) (omega arith)));
        }

    pub mac_rows_over : n ≤ at.j + 1 → n ≤ at.i + 2 → Next n k at (cursor true 0 0)
    mac_rows_over h g =
        let p = on.macs f in
        record {
          ready = record { macs = λ e. absurd (true≢false e); fixes = λ e. omega arith };
          step = λ ms fs l m.
              rw f
              (mac_off ms fs at.i at.j (omega arith) (omega arith)
              ∙ ap (λ (t : List Couple). pair_at ms fs false at.i at.j ∷ t) (rows_over ms fs at.i at.j (omega arith) (omega arith) (omega arith) (omega arith)));
        }

-- ---- where a pair is

-- a cursor on a pair is within the arrays
pub on_near : (n k : ℕ) (at : Cursor) → OnPair n k at → n ≤ 8 → k ≤ 8 → (at.i < 8) × (at.j < 8)
on_near n k at on hn hk = by at.fix refl
  where
    by : (f : Bool) → at.fix ≡ f → (at.i < 8) × (at.j < 8)
    by false e = let p = on.macs e in omega arith
    by true e = let p = on.fixes e in omega arith

no_fixes : (i : ℕ) (s : List Mac) (fs : List Fix) → length fs ≡ 0 → fix_couples i s fs ≡ []
unfolding fix_couples
no_fixes i [] fs h = refl
no_fixes i (a ∷ s) [] h = no_fixes (suc i) s [] h
no_fixes i (a ∷ s) (f ∷ fs) h = absurd (omega arith)

no_macs : (i : ℕ) (ms : List Mac) (fs : List Fix) → length ms ≤ i → fix_couples (suc i) (drop i ms) fs ≡ []
unfolding fix_couples
no_macs i ms fs h = rw (drop_of_length-le ms h)

-- a cursor from which pairs are left is on the first of them
pub ready_on : (n k : ℕ) (at : Cursor) (ms : List Mac) (fs : List Fix) → length ms ≡ n → length fs ≡ k → Ready n k at → 0 < length (rest_from ms fs at) → OnPair n k at
ready_on n k at ms fs em ef r h = record { macs = r.macs; fixes = on_fix }
  where
    none : at.fix ≡ true → fix_couples (suc at.i) (drop at.i ms) fs ≡ [] → ⊥
    none e q =
        let z : length (drop at.j (fix_couples (suc at.i) (drop at.i ms) fs)) ≡ 0 = rw (q, drop-nil at.j) in
        let g : 0 < length (drop at.j (fix_couples (suc at.i) (drop at.i ms) fs)) = rw e at h in
        omega arith

    in_row : at.fix ≡ true → Dec (at.i < n) → Dec (at.j < k) → (at.i < n) × (at.j < k)
    in_row e (yes a) (yes b) = (a, b)
    in_row e (no a) b = absurd (none e (no_macs at.i ms fs (omega arith)))
    in_row e (yes a) (no b) = let q = r.fixes e in absurd (none e (no_fixes (suc at.i) (drop at.i ms) fs (omega arith)))

    on_fix : at.fix ≡ true → (at.i < n) × (at.j < k)
    on_fix e = in_row e (dec_lt at.i n) (dec_lt at.j k)
