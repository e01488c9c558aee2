-- What a fit puts into its lists.
use Rattle.std.specs.Prelude.{ℕ, ◌+◌, ◌%◌, Bool, true, false, not, ◌&&◌, ◌||◌, List, map, leb, length, take, replicate}
use Rattle.std.proofs.lemmas.List.Edits.{sets}
use Rattle.axis_graph.specs.declared.Verdict.{Verdict}
use Rattle.axis_graph.specs.declared.Verdict.TheVariants as verdict

-- a slot holds 16 bits
abbrev pub low16 : ℕ → ℕ
low16 x = x % 65536

abbrev pub is_solved : Verdict → Bool
is_solved verdict.Solved = true
is_solved verdict.Unsolvable = false
is_solved verdict.Malformed = false

abbrev pub shows_across : Verdict → Verdict → Bool
shows_across v w = not (is_solved v) || is_solved w

-- the amounts of a direction, or 0 in each slot
abbrev pub shown : Bool → List ℕ → List ℕ
shown true f = f
shown false f = replicate 456 0

-- the first m amounts of both directions, one after the other
abbrev pub both_lists : ℕ → List ℕ → List ℕ → List ℕ → List ℕ
both_lists m across up list = sets (sets list 0 (take m (map low16 across))) m (take m (map low16 up))

abbrev pub put_if : Bool → List ℕ → List ℕ → List ℕ
put_if true after before = after
put_if false after before = before

-- v, w are the verdicts of the directions, f, g their amounts: both where both are solved, else those of the first that is not; nothing where the
-- list is too short
abbrev pub slots_put : ℕ → Verdict → List ℕ → Verdict → List ℕ → List ℕ → List ℕ
slots_put m v f w g list =
    put_if (leb m 456 && leb (m + m) (length list))
    (both_lists m (shown (shows_across v w) f) (shown (is_solved v) g) list) list
