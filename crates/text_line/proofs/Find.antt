-- The spelling of a word.
use mathlib.Core.Path.{◌≡◌}
use mathlib.Core.List.{List}
use Prim.Native.Nat.{ℕ}
use lib.Seq.{take-append_seam}
use Rattle.text_line.specs.Held.{text_of, spelled}

pub spelled_text : (s : List ℕ) → text_of (spelled s) ≡ s
spelled_text s = take-append_seam s _
