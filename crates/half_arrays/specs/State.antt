-- What a lent pool means, whatever it holds: four states of 608 numbers. A part of a state is named by where it begins, in units of 32 numbers.
use Rattle.std.specs.Prelude.{ℕ, ◌+◌, ◌*◌, ◌%◌, List, [], ◌∷◌, get_or, map}

-- ---- coordinates

-- the macros' coordinates in state o
abbrev pub coordinate_at : List ℕ → ℕ → ℕ → ℕ
coordinate_at st o k = get_or st (o % 4 * 608 + 544 + k % 16) 0 % 8192

unfoldable pub coordinates : List ℕ → ℕ → List ℕ
coordinates st o =
    coordinate_at st o 1 ∷ coordinate_at st o 2 ∷ coordinate_at st o 3 ∷ coordinate_at st o 4
    ∷ coordinate_at st o 5 ∷ coordinate_at st o 6 ∷ coordinate_at st o 7 ∷ coordinate_at st o 8 ∷ []

-- each number modulo the die's side
unfoldable pub limited : List ℕ → List ℕ
limited s = map (λ a. a % 8192) s

-- ---- amounts

-- amount k of part p of state o
unfoldable pub amount_at : List ℕ → ℕ → ℕ → ℕ → ℕ
amount_at st o p k = get_or st (o % 4 * 608 + p % 20 * 32 + k % 128) 0 % 65536

-- the parts of the bounds' amounts, and of the entries' to hi and from lo
abbrev pub flow_part : ℕ
flow_part = 6

abbrev pub hi_part : ℕ
hi_part = 9

abbrev pub lo_part : ℕ
lo_part = 13

-- what the bounds carry; what the entries carry to their net's hi, and from its lo
abbrev pub flow_at : List ℕ → ℕ → ℕ → ℕ
flow_at st o = amount_at st o flow_part

abbrev pub hi_at : List ℕ → ℕ → ℕ → ℕ
hi_at st o = amount_at st o hi_part

abbrev pub lo_at : List ℕ → ℕ → ℕ → ℕ
lo_at st o = amount_at st o lo_part

-- ---- why a node has no smaller value

-- the rank of a node
unfoldable pub rank_at : List ℕ → ℕ → ℕ → ℕ
rank_at st o k = get_or st (o % 4 * 608 + 592 + k % 16) 0
