-- The steps of the walk, in the form of the needs of its functions.
use mathlib.Core.Path.{◌≡◌, refl, sym, subst, ◌∙◌}
use mathlib.Core.List.{List}
use Prim.Native.Nat.{ℕ, zero, suc, ◌-◌, ◌≤◌, ◌<◌, min}
use native.Mathlib.Decide.{dec_le}
use native.Mathlib.Omega.{arith}
use lib.ListN.{length, take, drop, length-take}
use borrow.Author.Tests.{le-ltb, lt-ltb}
use Rattle.std.specs.Prelude.{Option, Some, None, Result, Ok, Err}
use Rattle.std.specs.List.{position}
use Rattle.model.specs.declared.Refusal.{Refusal}
use Rattle.text_grammar.specs.Words.{same}
use Rattle.text_line.specs.Held.{text_of}
use Rattle.text_grammar.specs.Line.{comma, up_to}
use Rattle.text_grammar.specs.Steps.{line_at}
use Rattle.text_grammar.proofs.Cut.{up_to_take, from_drop}
use Rattle.text_grammar.proofs.OneLine.{word_end}
use Rattle.text_line.specs.declared.Spelling.{Spelling}
use Rattle.text_walk.specs.declared.Tests.{Tests}
use Rattle.text_walk.specs.declared.Walked.{Walked}
use Rattle.text_walk.specs.Walk.{Walk, stop, fault_at, find_in, unless_fault, walk_bytes, WalkOk, WalkedOk}
use Rattle.text_walk.proofs.Finding.{not_found, found_at}

-- ---- the word

faulty_stop : (m : ℕ) (w : Walk) → (m ≡ 0 → ⊥) → stop m ≡ unless_fault m w
faulty_stop zero w z = absurd (z refl)
faulty_stop (suc m) w z = refl

module _ (ps : List Spelling) (n : ℕ) (fs : Tests) (l : ℕ) (bytes : List ℕ) (b : ℕ) (q : b ≡ length (up_to comma bytes)) where
  same_bytes : take b bytes ≡ up_to comma bytes
  same_bytes = rw (q, ← up_to_take comma bytes)

  pub unknown : None ≡ position (λ p. same (text_of p) (take b bytes)) (take n ps) → WalkOk l bytes (walk_bytes ps n fs bytes) (Err (record { no = 2; line = l }))
  unfolding walk_bytes
  unknown e = let h = not_found (take b bytes) (take n ps) e in record { meant = rw (← same_bytes, le-ltb (find_in (take n ps) (take b bytes)) (length (take n ps)) h); fits = omega arith; at = refl }

  module _ (i : ℕ) (e : Some i ≡ position (λ p. same (text_of p) (take b bytes)) (take n ps)) where
    pub known : i < length (take n ps)
    known = (found_at (take b bytes) (take n ps) i e).1

    pub in_table : length ps ≡ 8 → i < 8
    in_table h = let k = known in let m = length-take n ps in omega arith

    found : find_in (take n ps) (up_to comma bytes) ≡ i
    found = rw (← same_bytes) (found_at (take b bytes) (take n ps) i e).0

    module _ (m : ℕ) (u : m ≡ fault_at fs i) where
      pub word_stops : (m ≡ 0 → ⊥) → WalkOk l bytes (walk_bytes ps n fs bytes) (Err (record { no = m; line = l }))
      unfolding walk_bytes
      word_stops z = record { meant = rw (found, lt-ltb i (length (take n ps)) known, ← u) (faulty_stop m _ z); fits = omega arith; at = refl }

      pub word_goes_on : m ≡ 0 → WalkOk l bytes (walk_bytes ps n fs bytes) (Ok (record { word = i; size = b }))
      unfolding walk_bytes
      word_goes_on z = record { meant = rw (found, lt-ltb i (length (take n ps)) known, ← u, z, from_drop comma bytes, q); fits = word_end bytes b q; at = refl }

-- ---- the line

module _ (text : List ℕ) (a z : ℕ) (ps : List Spelling) (n : ℕ) (fs : Tests) (l : ℕ) where
  pub no_feed : length text ≤ z → WalkedOk ps n fs l (line_at text a z) (Err (record { no = 2; line = l }))
  no_feed h = rw (le-ltb z (length text) h) (record { meant = refl; fits = omega arith; at = refl })

  module _ (x : Result Walked Refusal) (h : z < length text) (k : ℕ) (e : k ≡ min a z) where
    same_line : take (z - k) (drop k text) ≡ take (z - a) (drop a text)
    same_line = by (dec_le a z)
      where
        by : Dec (a ≤ z) → take (z - k) (drop k text) ≡ take (z - a) (drop a text)
        by (yes g) = let m : k ≡ a = omega arith in rw m
        by (no g) = let m : z - k ≡ 0 = omega arith in let w : z - a ≡ 0 = omega arith in rw (m, w)

    pub line_walked : WalkOk l (take (z - k) (drop k text)) (walk_bytes ps n fs (take (z - k) (drop k text))) x → WalkedOk ps n fs l (line_at text a z) x
    line_walked t = rw (lt-ltb z (length text) h) (subst (λ (b : List ℕ). WalkOk l b (walk_bytes ps n fs b) x) same_line t)
