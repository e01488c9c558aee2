-- The number of letters, for every two numbers of macros and fixes.
use Rattle.std.specs.Prelude.{ℕ, ◌&&◌, cond, leb}
use Rattle.model.specs.Limits.{most_fixes, most_macs}
use Rattle.fit_slots.specs.Fit.{letters_for}

-- "With n macros, k fixes there are p = n(n−1)/2 + n·k letters" (document 01); 0 for more macros or fixes than a chip has
unfoldable pub letter_total : ℕ → ℕ → ℕ
letter_total n k = cond (leb n most_macs && leb k most_fixes) (letters_for n k) 0
