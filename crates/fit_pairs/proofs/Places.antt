-- A cursor at the place of a letter: the pairs from it on are those from that place on, so the pair at hand is the pair of that letter.
use Prim.Native.Nat.{ℕ, ◌+◌, ◌≤◌, ◌<◌}
use mathlib.Core.Path.{◌≡◌, refl, sym, ap, ◌∙◌}
use mathlib.Core.Bool.{Bool, true, false}
use mathlib.Core.List.{List, []}
use native.Mathlib.Numerals.{add-one}
use native.Mathlib.Omega.{arith}
use lib.ListN.{length, get_or, take, drop, length-drop}
use lib.Seq.{drop-cons, get_or-take, get_or-drop}
use Rattle.model.specs.declared.Fix.{Fix}
use Rattle.model.specs.declared.Mac.{Mac}
use Rattle.model.specs.Meaning.{Chip, blank_fix, blank_mac}
use Rattle.fit_slots.specs.Slots.{Couple, couples_of}
use Rattle.fit_slots.specs.Fit.{letter_count}
use Rattle.fit_slots.proofs.Counting.{letters_count, few_letters}
use Rattle.fit_pairs.specs.declared.Cursor.{Cursor}
use Rattle.fit_pairs.specs.Order.{pair_at, couple_at, rest_from, OnPair, Ready, First, next_of}
use Rattle.fit_pairs.proofs.Cursors.{ready_on}
use Rattle.fit_pairs.proofs.Stepping.{next_step}

-- 8 macros and 8 fixes have 92 pairs
pub few_pairs : (ms : List Mac) (fs : List Fix) → length ms ≤ 8 → length fs ≤ 8 → length (couples_of ms fs) ≤ 92
few_pairs ms fs a b =
    let c : Chip = record { die = record { w = 0; h = 0 }; fixes = fs; macs = ms; nets = [] } in
    let e : length (couples_of ms fs) ≡ letter_count c = letters_count c in
    let l = few_letters (length ms) a (length fs) b in
    omega arith

-- the pair read from lists that go on is the pair of their first n and k items
pub couple_taken : (macs : List Mac) (fixes : List Fix) (n k : ℕ) (at : Cursor) → OnPair n k at → couple_at macs fixes at ≡ couple_at (take n macs) (take k fixes) at
couple_taken macs fixes n k at on = by at.fix refl
  where
    by : (f : Bool) → at.fix ≡ f → pair_at macs fixes f at.i at.j ≡ pair_at (take n macs) (take k fixes) f at.i at.j
    by false e =
        let p = on.macs e in
        rw (get_or-take n macs at.i blank_mac (omega arith), get_or-take n macs at.j blank_mac (omega arith))
    by true e =
        let p = on.fixes e in
        rw (get_or-take n macs at.i blank_mac (omega arith), get_or-take k fixes at.j blank_fix (omega arith))

-- the cursor is at the pair of letter s
pub record AtPlace (ms : List Mac) (fs : List Fix) (at : Cursor) (s : ℕ) : Type 0 where
  pub ready : Ready (length ms) (length fs) at
  pub rest : rest_from ms fs at ≡ drop s (couples_of ms fs)

module _ (ms : List Mac) (fs : List Fix) where
  pub place_first : (r : Cursor) → First (length ms) r → AtPlace ms fs r 0
  place_first r f = record { ready = f.ready (length fs); rest = f.all ms fs refl }

  module _ (at : Cursor) (s : ℕ) (p : AtPlace ms fs at s) (h : s < length (couples_of ms fs)) where
    pub place_on_law : OnPair (length ms) (length fs) at
    place_on_law =
        let l = ap length p.rest in
        let q = length-drop s (couples_of ms fs) in
        ready_on (length ms) (length fs) at ms fs refl refl p.ready (omega arith)

    pub place_next : AtPlace ms fs (next_of at (length ms) (length fs)) (s + 1)
    place_next =
        let n = next_step at (length ms) (length fs) place_on_law in
        record { ready = n.ready; rest = rw (add-one s) (ap (drop 1) (sym (n.step ms fs refl refl) ∙ p.rest ∙ drop-cons (couples_of ms fs) s (couple_at ms fs at) h)) }

    pub place_couple : (z : Couple) → get_or (couples_of ms fs) s z ≡ couple_at ms fs at
    place_couple z =
        let n = next_step at (length ms) (length fs) place_on_law in
        ap (λ (t : ℕ). get_or (couples_of ms fs) t z) (omega arith) ∙ sym (get_or-drop s (couples_of ms fs) 0 z) ∙ ap (λ (t : List Couple). get_or t 0 z) (sym p.rest ∙ n.step ms fs refl refl)
