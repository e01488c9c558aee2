-- The slots of the pairs, written one letter after the other: those written, then those of the letters and the pairs that are left, are the slots of all letters and all pairs.
use Prim.Native.Nat.{ℕ, suc, ◌+◌, ◌≤◌, ◌<◌, min}
use mathlib.Core.Path.{◌≡◌, sym, ap, ◌∙◌}
use mathlib.Core.List.{List, [], ◌∷◌, ◌++◌, append_assoc, append-nil}
use native.Mathlib.Numerals.{add-one}
use native.Mathlib.Omega.{arith}
use lib.ListN.{length, get_or, take, drop, set, length-set, length-drop}
use lib.Seq.{take-suc-set, drop-cons, drop-length}
use Rattle.model.specs.declared.Fix.{Fix}
use Rattle.model.specs.declared.Mac.{Mac}
use Rattle.model.specs.declared.Chip.{Chip as HeldChip}
use Rattle.model.specs.declared.Blocks.{Blocks}
use Rattle.model.specs.Blocks.{blocks_of}
use Rattle.axis_bounds.specs.declared.Slot.{Slot}
use Rattle.fit_slots.specs.declared.Direction.{Direction}
use Rattle.fit_slots.specs.declared.Asked.{Asked}
use Rattle.fit_slots.specs.Slots.{asked, couples_of}
use Rattle.fit_slots.specs.Fit.{letter_of, letters_of}
use Rattle.fit_slots.specs.Axes.{held_slot, held_slots}
use Rattle.fit_pairs.specs.declared.Cursor.{Cursor}
use Rattle.fit_pairs.specs.Order.{couple_at, rest_from, OnPair, Ready, First, Next, next_of}
use Rattle.fit_pairs.proofs.Cursors.{on_near, ready_on}
use Rattle.fit_pairs.proofs.Stepping.{next_step}
use Rattle.fit_pairs.proofs.Places.{couple_taken}
use Rattle.fit_pair_slots.specs.Letters.{slot_read, Reached}
use Rattle.fit_pair_slots.proofs.Reading.{slot_read_law}
use Rattle.fit_axes.specs.Axes.{Taken, PairsMade}
use Rattle.fit_axes.proofs.Taken.{macs_long, fixes_long, couples_same, letter_each, few_letters}

module _ (c : HeldChip) (s : List ℕ) (d : Direction) where
  abbrev ms : List Mac
  ms = take c.n c.macs

  abbrev fs : List Fix
  fs = take c.k c.fixes

  -- i slots are written, and the cursor is at the pair of letter i
  record Written (pairs : List Slot) (at : Cursor) (i : ℕ) : Type 0 where
    ready : Ready c.n c.k at
    left : length (drop i s) ≡ length (rest_from ms fs at)
    slots : take i pairs ++ held_slots d (letters_of (drop i s)) (rest_from ms fs at) ≡ held_slots d (letters_of s) (couples_of ms fs)

  -- so it is where the chip and its letters are taken
  pub record Writing (pairs : List Slot) (at : Cursor) (i : ℕ) : Type 0 where
    long : length pairs ≡ 120
    written : Taken c s → Written pairs at i

  pub none_written : (pairs : List Slot) (r : Cursor) → First c.n r → length pairs ≡ 120 → Writing pairs r 0
  none_written pairs r f l =
      record {
        long = l;
        written = λ t.
            let q = f.all ms fs (macs_long c s t) in
            record { ready = f.ready c.k; left = letter_each c s t ∙ ap length (sym q); slots = ap (held_slots d (letters_of s)) q };
      }

  module _ (pairs : List Slot) (at : Cursor) (i : ℕ) (w : Writing pairs at i) where
    module _ (h : i < length s) (room : i < 120) where
      module _ (t : Taken c s) where
        v : Written pairs at i
        v = w.written t

        on_pair : OnPair c.n c.k at
        on_pair =
            let l = v.left in
            let q = length-drop i s in
            ready_on c.n c.k at ms fs (macs_long c s t) (fixes_long c s t) v.ready (omega arith)

        pair_reached : Reached c.fixes at
        pair_reached =
            let p = on_near c.n c.k at on_pair t.fine.mac_count t.fine.fix_count in
            record { i = p.0; j = p.1; fix = λ e. t.fine.fix at.j (on_pair.fixes e).1 }

        one_written : (a : Asked) (x : Slot) (r : Cursor) → a ≡ asked d (letter_of (get_or s i 0)) → x ≡ slot_read d a (blocks_of c) at.fix at.i at.j → r ≡ next_of at c.n c.k → Written (set pairs i x) r (i + 1)
        unfolding held_slots
        one_written a x r ea er₀ er =
            let next : Next c.n c.k at r = rw er (next_step at c.n c.k on_pair) in
            let l = w.long in
            let more : drop i s ≡ get_or s i 0 ∷ drop (suc i) s = drop-cons s i 0 h in
            let step : rest_from ms fs at ≡ couple_at ms fs at ∷ rest_from ms fs r = next.step ms fs (macs_long c s t) (fixes_long c s t) in
            let lx = v.left in
            let lm = ap length more in
            let ls = ap length step in
            let here : x ≡ held_slot d (asked d (letter_of (get_or s i 0))) (couple_at ms fs at) = er₀ ∙ slot_read_law d a (blocks_of c) at pair_reached ∙ rw (ea, couple_taken c.macs c.fixes c.n c.k at on_pair) in
            record {
              ready = next.ready;
              left = rw add-one (omega arith);
              slots =
                  rw (add-one i, take-suc-set pairs i x (omega arith), append_assoc (take i pairs) (x ∷ []) (held_slots d (letters_of (drop (suc i) s)) (rest_from ms fs r)), here)
                  (ap (λ (t : List Slot). take i pairs ++ t) (sym (ap (λ (t : List ℕ). held_slots d (letters_of t) (rest_from ms fs at)) more ∙ ap (held_slots d (letters_of (get_or s i 0 ∷ drop (suc i) s))) step)) ∙ v.slots);
            }

      pub slot_written : (a : Asked) (x : Slot) (r : Cursor) (b : Blocks) → b ≡ blocks_of c → a ≡ asked d (letter_of (get_or s i 0)) → x ≡ slot_read d a b at.fix at.i at.j → r ≡ next_of at c.n c.k → Writing (set pairs i x) r (i + 1)
      slot_written a x r b eb ea ex er = record { long = length-set pairs i x ∙ w.long; written = λ t. one_written t a x r ea (ex ∙ rw eb) er }

    done : Taken c s → i ≤ length s → length s ≤ i → take (length s) pairs ≡ held_slots d (letters_of s) (couples_of ms fs)
    unfolding held_slots
    done t a b =
        let e : i ≡ length s = omega arith in
        sym (append-nil (take (length s) pairs))
        ∙ ap (λ (u : List ℕ). take (length s) pairs ++ held_slots d (letters_of u) (rest_from ms fs at)) (sym (drop-length s))
        ∙ (rw e at (w.written t).slots)

    -- the letters are over: there is room for them all
    pub all_written : i ≤ length s → min (length s) 120 ≤ i → PairsMade c s d pairs
    all_written a b = record { made = λ t. let l = few_letters c s t in done t a (omega arith) ∙ ap (held_slots d (letters_of s)) (couples_same c s t) }
