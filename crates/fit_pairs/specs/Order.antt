-- The pairs in the order of letters, from the pair of a cursor on.
use Rattle.std.specs.Prelude.{ℕ, suc, ◌+◌, ◌-◌, ◌≤◌, ◌<◌, ◌≡◌, Bool, true, false, ◌&&◌, cond, List, ◌∷◌, ◌++◌, ltb, length, get_or, drop}
use Rattle.model.specs.declared.Fix.{Fix}
use Rattle.model.specs.declared.Mac.{Mac}
use Rattle.model.specs.Meaning.{blank_fix, blank_mac}
use Rattle.fit_slots.specs.Slots.{Couple, two_macs, mac_fix, mac_couples, fix_couples, couples_of}
use Rattle.fit_pairs.specs.declared.Cursor.{Cursor}

-- macros i and j, or macro i and fix j, counted from 0
abbrev pub pair_at : List Mac → List Fix → Bool → ℕ → ℕ → Couple
pair_at ms fs false i j = two_macs (i + 1) (get_or ms i blank_mac) (j + 1) (get_or ms j blank_mac)
pair_at ms fs true i j = mac_fix (i + 1) (get_or ms i blank_mac) (get_or fs j blank_fix)

abbrev pub couple_at : List Mac → List Fix → Cursor → Couple
couple_at ms fs at = pair_at ms fs at.fix at.i at.j

-- that pair and those after it
abbrev pub rest_at : List Mac → List Fix → Bool → ℕ → ℕ → List Couple
rest_at ms fs false i j = drop (j - suc i) (mac_couples (suc i) (drop i ms)) ++ fix_couples 1 ms fs
rest_at ms fs true i j = drop j (fix_couples (suc i) (drop i ms) fs)

abbrev pub rest_from : List Mac → List Fix → Cursor → List Couple
rest_from ms fs at = rest_at ms fs at.fix at.i at.j

-- with n macros and k fixes there is such a pair
pub record OnPair (n k : ℕ) (at : Cursor) : Type 0 where
  pub macs : at.fix ≡ false → (at.i < at.j) × (at.j < n)
  pub fixes : at.fix ≡ true → (at.i < n) × (at.j < k)

-- there is such a pair, or none is left
pub record Ready (n k : ℕ) (at : Cursor) : Type 0 where
  pub macs : at.fix ≡ false → (at.i < at.j) × (at.j < n)
  pub fixes : at.fix ≡ true → at.j ≤ k - 1

-- from r on stand all the pairs
pub record First (n : ℕ) (r : Cursor) : Type 0 where
  pub ready : (k : ℕ) → Ready n k r
  pub all : (ms : List Mac) (fs : List Fix) → length ms ≡ n → rest_from ms fs r ≡ couples_of ms fs

-- from r on stand the pairs after the one at hand
pub record Next (n k : ℕ) (at r : Cursor) : Type 0 where
  pub ready : Ready n k r
  pub step : (ms : List Mac) (fs : List Fix) → length ms ≡ n → length fs ≡ k → rest_from ms fs at ≡ couple_at ms fs at ∷ rest_from ms fs r

-- ---- the same by tests

abbrev pub is_on : ℕ → ℕ → Bool → ℕ → ℕ → Bool
is_on n k false i j = ltb i j && ltb j n
is_on n k true i j = ltb i n && ltb j k

abbrev pub cursor : Bool → ℕ → ℕ → Cursor
cursor f i j = record { fix = f; i = i; j = j }

-- the first pair: macros 1 and 2; with less than two macros, macro 1 and fix 1
unfoldable pub first_pair : ℕ → Cursor
first_pair n = cond (ltb 1 n) (cursor false 0 1) (cursor true 0 0)

-- the next in the row; past the row, the first of the next row; past the macros' rows, the first pair with a fix
abbrev pub step_from : ℕ → ℕ → Bool → ℕ → ℕ → Cursor
step_from n k false i j = cond (ltb (j + 1) n) (cursor false i (j + 1)) (cond (ltb (i + 2) n) (cursor false (i + 1) (i + 2)) (cursor true 0 0))
step_from n k true i j = cond (ltb (j + 1) k) (cursor true i (j + 1)) (cursor true (i + 1) 0)

-- the pair after the one at hand; a cursor that is on no pair stays as it is
unfoldable pub next_of : Cursor → ℕ → ℕ → Cursor
next_of at n k = cond (is_on n k at.fix at.i at.j) (step_from n k at.fix at.i at.j) at
