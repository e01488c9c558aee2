-- The lent list after the amounts of both directions were put into it.
use Prim.Native.Nat.{ℕ, ◌+◌, ◌≤◌, ◌<◌}
use mathlib.Core.Path.{◌≡◌, sym, ap, subst, ◌∙◌}
use mathlib.Core.List.{List, ◌++◌}
use native.Mathlib.Decide.{dec_lt}
use native.Mathlib.Omega.{arith}
use lib.ListN.{length, get_or, take, drop, length-append}
use lib.Seq.{sets, sets-eq, length-sets, length-take-le, take_all, take_at, drop_at, drop-drop, drop-append-add, get_or-take}
use Rattle.fit_slots.specs.Slots.{Slot}
use Rattle.fit_slots.proofs.Flowing.{Agrees}
use Rattle.fit_slots.specs.Fit.{Kept}
use Rattle.fit.proofs.Corners.{past}

-- the first m amounts of both directions, one after the other
abbrev pub put_both : ℕ → List ℕ → List ℕ → List ℕ → List ℕ
put_both m fx fy list = sets (sets list 0 (take m fx)) m (take m fy)

module _ (m : ℕ) (fx fy entry : List ℕ) (hx : m ≤ length fx) (hy : m ≤ length fy) (room : m + m ≤ length entry) where
  abbrev A : List ℕ
  A = take m fx

  abbrev B : List ℕ
  B = take m fy

  l_a : length A ≡ m
  l_a = length-take-le m fx hx

  l_b : length B ≡ m
  l_b = length-take-le m fy hy

  first : sets entry 0 A ≡ A ++ drop m entry
  first = sets-eq A entry 0 (let e = l_a in omega arith) ∙ ap (λ (k : ℕ). A ++ drop k entry) (let q : 0 + length A ≡ m = let e = l_a in omega arith in q)

  long_first : length (A ++ drop m entry) ≡ length entry
  long_first = ap {B = ℕ} (λ (u : List ℕ). length u) (sym first) ∙ length-sets entry 0 A

  both_parts : put_both m fx fy entry ≡ (A ++ B) ++ drop (m + m) entry
  both_parts =
      let e = l_a in let f = l_b in let q : m + length B ≡ length A + m = omega arith in
      ap (λ (u : List ℕ). sets u m B) first
      ∙ sets-eq B (A ++ drop m entry) m (let k = long_first in omega arith)
      ∙ ap (λ (u : List ℕ). (u ++ B) ++ drop (m + length B) (A ++ drop m entry)) (take_at A (drop m entry) m l_a)
      ∙ ap (λ (u : List ℕ). (A ++ B) ++ u) (ap (λ (k : ℕ). drop k (A ++ drop m entry)) q ∙ drop-append-add A (drop m entry) m ∙ drop-drop m m entry)

  abbrev exit : List ℕ
  exit = put_both m fx fy entry

  long_both : length (A ++ B) ≡ m + m
  long_both = let e = length-append A B in let a = l_a in let b = l_b in omega arith

  pub both_kept : Kept (m + m) entry exit
  both_kept =
      record {
        long = length-sets (sets entry 0 A) m B ∙ length-sets entry 0 A;
        rest = ap (drop (m + m)) both_parts ∙ drop_at (A ++ B) (drop (m + m) entry) (m + m) long_both;
      }

  written : take (m + m) exit ≡ A ++ B
  written = ap (take (m + m)) both_parts ∙ take_at (A ++ B) (drop (m + m) entry) (m + m) long_both

  -- past m the amounts are 0, so the first m are all of them
  cut_agrees : (ss : List Slot) (f : List ℕ) → length ss ≡ m → m ≤ length f → ((s : ℕ) → m ≤ s → get_or f s 0 ≡ 0) → Agrees ss f (take m f)
  cut_agrees ss f e l z = record { long = length-take-le m f l ∙ sym e; at = λ s. by s (dec_lt s m) }
    where
      by : (s : ℕ) → Dec (s < m) → get_or (take m f) s 0 ≡ get_or f s 0
      by s (yes h) = get_or-take m f s 0 h
      by s (no h) = past (take m f) s (let q = length-take-le m f l in omega arith) ∙ sym (z s (omega arith))

  module _ (ss : List Slot) (e : length ss ≡ m) where
    pub across_agrees : ((s : ℕ) → m ≤ s → get_or fx s 0 ≡ 0) → Agrees ss fx (take m (take (m + m) exit))
    across_agrees z = subst (λ (g : List ℕ). Agrees ss fx g) (sym (ap (take m) written ∙ take_at A B m l_a)) (cut_agrees ss fx e hx z)

    pub up_agrees : ((s : ℕ) → m ≤ s → get_or fy s 0 ≡ 0) → Agrees ss fy (take m (drop m (take (m + m) exit)))
    up_agrees z = subst (λ (g : List ℕ). Agrees ss fy g) (sym (ap (λ (u : List ℕ). take m (drop m u)) written ∙ ap (take m) (drop_at A B m l_a) ∙ take_all m B (let q = l_b in omega arith))) (cut_agrees ss fy e hy z)
