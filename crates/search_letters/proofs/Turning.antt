-- The letters of a node's pair, tried one by one. At each time a legal placement of the branch that keeps the node's differences is covered by the best so far, or keeps the differences that are left; a letter that is closed, excluded or visited leaves its opposite.
use Prim.Native.Nat.{ℕ, ◌+◌, ◌%◌, ◌≤◌, ◌<◌}
use mathlib.Core.Path.{◌≡◌, refl, sym, ap, subst, ◌∙◌}
use mathlib.Core.Bool.{Bool, true, false}
use mathlib.Core.List.{List}
use mathlib.Core.Logic.{◌⊎◌, inl, inr}
use native.Mathlib.Decide.{ℕ_discrete}
use native.Mathlib.Omega.{arith}
use lib.ListN.{length, set}
use lib.Seq.{get_or-set_same, get_or-set_other}
use borrow.Author.Tests.{leb-true, le-leb}
use Rattle.model.specs.declared.Chip.{Chip as HeldChip}
use Rattle.model.specs.declared.Spot.{Spot}
use Rattle.model.specs.declared.Record.{Record as HeldRecord}
use Rattle.model.specs.Meaning.{Chip, chip_of}
use Rattle.chip_text.specs.Passed.{Passed}
use Rattle.placement.specs.Letters.{Letter}
use Rattle.placement.specs.Least.{Best, nothing, found, fit_of}
use Rattle.axis_bounds.specs.declared.Slot.{Slot}
use Rattle.fit_slots.specs.declared.Direction.{Direction}
use Rattle.fit_slots.specs.Slots.{couples}
use Rattle.fit_slots.proofs.Counting.{letters_count}
use Rattle.search_branches.specs.Branch.{pick, better, in_branch}
use Rattle.search_branches.proofs.Betters.{Sized}
use Rattle.search_halves.specs.Kept.{value_on, keeps_one, asks_at, opposite_at}
use Rattle.search_halves.specs.Result.{placed, NotAfter}
use Rattle.search_halves.proofs.Covers.{closed_covers, letter_or_opposite}
use Rattle.search_kept.specs.Differences.{Holds, limited, contrary}
use Rattle.search_tables.proofs.LetterBounds.{Plain, letter_plain}
use Rattle.search_best.specs.Best.{best_of, Counted, Told}
use Rattle.search_node.specs.Node.{no_record, NodeOk, Open, Given, Turn}
use Rattle.search_node.specs.Letters.{byte_of, letters_in, letter_at, way_at, Asks, slot_asked}
use Rattle.search_left.specs.Left.{KeepsBoth, AddsOn, child_list, child_at, ExcludedBy, OppositeKept, SameKept}
use Rattle.search_join.specs.Joined.{ChildHeld}
use Rattle.search_letters.specs.Turns.{Untried, Shut, LeftOk, TriedOne, Tried, ChildOf}
use Rattle.search_node.specs.declared.Node.{Node}
use Rattle.search_left.specs.declared.Left.{Left}
use Rattle.search_node.proofs.Asking.{way_of_law, asks_is}
use Rattle.fit_pairs.specs.declared.Cursor.{Cursor}
use Rattle.search_node.specs.declared.Parts.{Parts}
use Rattle.search_node.proofs.Records.{no_best, nothing_none, none_counted, counted_sized}
use Rattle.search_node.proofs.Lettering.{letters_set, letters_long}

module _ (c : HeldChip) (p : ℕ) (node : Node) (s : ℕ) where
  abbrev C : Chip
  C = chip_of c

  abbrev ls : List Letter
  ls = letters_in node.letters p

  abbrev n : ℕ
  n = length C.macs

  -- the letters with letter i for pair s
  abbrev with : ℕ → List Letter
  with i = letters_in (set node.letters s (byte_of i)) p

  module _ (ok : Passed c) where
    pub sized : (r : HeldRecord) → Counted c.n r → Sized n (best_of r)
    sized r k = subst (λ (m : ℕ). Sized m (best_of r)) (sym ok.macs) (counted_sized c.n r k)

    -- ---- no letter tried

    untried_left : (t : Left) → Untried node t → (b : HeldRecord) → LeftOk c p node s 0 t b
    untried_left t u b = record {
      counted = λ j h. rw (u.none j) (none_counted c.n ok.fine.mac_count);
      fit = λ j h z. absurd (z (ap best_of (u.none j) ∙ no_best));
      shut = λ j h. absurd (omega arith);
      covers = λ ps h k. inr (record { x = rw u.x k.x; y = rw u.y k.y });
    }

    module _ (at : NodeOk c p node) (free : Open c p node s) where
      pub long : length ls ≡ p
      long = let f = at.letters.few in let w = at.whole in letters_long node.letters p (omega arith)

      enough : length ls ≡ length (couples C)
      enough = long ∙ (at.letters.count ∙ sym (letters_count C))

      pub with_is : (i : ℕ) → with i ≡ set ls s (letter_at i)
      with_is i = letters_set node.letters p s (byte_of i) free.place

      module _ (i : ℕ) (u : Slot) (asks : Asks c s i u) where
        -- nothing of the slot is reduced
        plain : Plain n (asks_at C s (letter_at i)).bound
        plain = let g = free.place in let l = long in letter_plain (way_at i) C ok.valid ls enough s (letter_at i) (omega arith) free.undecided (way_of_law i asks.four)

        same : limited u ≡ (asks_at C s (letter_at i)).bound
        same = ap limited asks.slot ∙ reduced (asks_at C s (letter_at i)).bound plain
          where
            few : n ≤ 8
            few = ok.valid.mac_count

            reduced : (b : Slot) → Plain n b → limited b ≡ b
            reduced b q =
                let t : b.tail % 9 ≡ b.tail = let a = q.tail in let f = few in omega arith in
                let h : b.head % 9 ≡ b.head = let a = q.head in let f = few in omega arith in
                let x : b.plus % 2097152 ≡ b.plus = let a = q.plus in omega arith in
                let y : b.minus % 2097152 ≡ b.minus = let a = q.minus in omega arith in
                rw (t, h, x, y)

        -- the letter's difference, and its opposite, as the tables hold them
        holds : (ps : List Spot) → keeps_one ps (asks_at C s (letter_at i)) ≡ true → Holds (value_on (way_at i) ps) (limited u)
        holds ps k = subst (λ (b : Slot). Holds (value_on (way_at i) ps) b) (sym same)
            (subst (λ (d : Direction). Holds (value_on d ps) (asks_at C s (letter_at i)).bound) (way_of_law i asks.four) (leb-true _ _ k))

        opposed : (ps : List Spot) → keeps_one ps (opposite_at C s (letter_at i)) ≡ true → Holds (value_on (way_at i) ps) (contrary (limited u))
        opposed ps k = subst (λ (b : Slot). Holds (value_on (way_at i) ps) (contrary b)) (sym same)
            (subst (λ (d : Direction). Holds (value_on d ps) (contrary (asks_at C s (letter_at i)).bound)) (way_of_law i asks.four) (leb-true _ _ k))

        opposes : (ps : List Spot) → Holds (value_on (way_at i) ps) (contrary (limited u)) → keeps_one ps (opposite_at C s (letter_at i)) ≡ true
        opposes ps h = le-leb _ _ (subst (λ (d : Direction). Holds (value_on d ps) (contrary (asks_at C s (letter_at i)).bound)) (sym (way_of_law i asks.four))
            (subst (λ (b : Slot). Holds (value_on (way_at i) ps) (contrary b)) same h))

        -- a placement of the branch is in that of the letter, or keeps its opposite
        abbrev Either : List Spot → Type 0
        Either ps = ((in_branch C (with i) ps ≡ true) × Holds (value_on (way_at i) ps) (limited u)) ⊎ Holds (value_on (way_at i) ps) (contrary (limited u))

        either : (ps : List Spot) → in_branch C ls ps ≡ true → Either ps
        either ps b = by (letter_or_opposite C ls s ps b (letter_at i))
          where
            by : ((in_branch C (set ls s (letter_at i)) ps ≡ true) × (keeps_one ps (asks_at C s (letter_at i)) ≡ true)) ⊎ (keeps_one ps (opposite_at C s (letter_at i)) ≡ true) → Either ps
            by (inl (q, k)) = inl (subst (λ (t : List Letter). in_branch C t ps ≡ true) (sym (with_is i)) q, holds ps k)
            by (inr k) = inr (opposed ps k)

        -- ---- letter i tried

        module _ (t : Left) (best : HeldRecord) (okay : LeftOk c p node s i t best) where
          -- the differences exclude it
          tried_excluded : (e : Bool) → ExcludedBy e i u t.kx t.ky → e ≡ true → LeftOk c p node s (i + 1) t best
          tried_excluded e x q = record { counted = okay.counted; fit = okay.fit; shut = λ j h g z. by j h g z (ℕ_discrete j i); covers = okay.covers }
            where
              closed : Shut C ls s t.kx t.ky i
              closed = record { keeps = λ ps b k. on ps k (either ps b) }
                where
                  on : (ps : List Spot) → KeepsBoth t.kx t.ky ps → Either ps → keeps_one ps (opposite_at C s (letter_at i)) ≡ true
                  on ps k (inl (a, h)) = absurd (x.none q ps k h)
                  on ps k (inr h) = opposes ps h

              by : (j : ℕ) → j < i + 1 → j < 4 → best_of (child_at (child_list t) j) ≡ nothing → Dec (j ≡ i) → Shut C ls s t.kx t.ky j
              by j h g z (yes e) = rw e closed
              by j h g z (no e) = okay.shut j (omega arith) g z

          -- it is left, with its fit
          tried_left : (f : HeldRecord) → ChildHeld c (set node.letters s (byte_of i)) p best f → (e : Bool) → Told e f → e ≡ true → (r : Left) → SameKept t r (set (child_list t) i f) → LeftOk c p node s (i + 1) r best
          tried_left f held e told q r k = record {
            counted = λ j h. subst (λ (x : HeldRecord). Counted c.n x) (sym (child j)) (count j h (ℕ_discrete j i));
            fit = λ j h z. fits j h z (ℕ_discrete j i);
            shut = λ j h g z. shuts j h g z (ℕ_discrete j i);
            covers = λ ps b y. covered ps (okay.covers ps b y);
          }
            where
              child : (j : ℕ) → child_at (child_list r) j ≡ child_at (set (child_list t) i f) j
              child j = ap (λ (x : List HeldRecord). child_at x j) k.children

              here : child_at (set (child_list t) i f) i ≡ f
              here = let g = asks.four in get_or-set_same (child_list t) i f no_record (omega arith)

              other : (j : ℕ) → (j ≡ i → ⊥) → child_at (child_list r) j ≡ child_at (child_list t) j
              other j d = child j ∙ get_or-set_other (child_list t) i j f no_record d

              count : (j : ℕ) → j < 4 → Dec (j ≡ i) → Counted c.n (child_at (set (child_list t) i f) j)
              count j h (yes d) = rw (d, here) held.counted
              count j h (no d) = rw (get_or-set_other (child_list t) i j f no_record d) (okay.counted j h)

              fits : (j : ℕ) → j < 4 → (best_of (child_at (child_list r) j) ≡ nothing → ⊥) → Dec (j ≡ i) → best_of (child_at (child_list r) j) ≡ fit_of C (with j)
              fits j h z (yes d) =
                  let a : child_at (child_list r) j ≡ f = child j ∙ (ap (child_at (set (child_list t) i f)) d ∙ here) in
                  ap best_of a ∙ (held.fit (λ y. z (ap best_of a ∙ y)) ∙ ap (λ (x : ℕ). fit_of C (with x)) (sym d))
              fits j h z (no d) = let a = other j d in ap best_of a ∙ okay.fit j h (λ y. z (ap best_of a ∙ y))

              placed_child : best_of f ≡ nothing → ⊥
              placed_child z = told.placed q (nothing_none f z)

              tables : (P : List ℕ → List ℕ → Type 0) → P t.kx t.ky → P r.kx r.ky
              tables P x = subst (λ (y : List ℕ). P r.kx y) (sym k.y) (subst (λ (y : List ℕ). P y t.ky) (sym k.x) x)

              shuts : (j : ℕ) → j < i + 1 → j < 4 → best_of (child_at (child_list r) j) ≡ nothing → Dec (j ≡ i) → Shut C ls s r.kx r.ky j
              shuts j h g z (yes d) = absurd (placed_child (ap best_of (sym (child j ∙ (ap (child_at (set (child_list t) i f)) d ∙ here))) ∙ z))
              shuts j h g z (no d) = tables (λ (x y : List ℕ). Shut C ls s x y j) (okay.shut j (omega arith) g (ap best_of (sym (other j d)) ∙ z))

              covered : (ps : List Spot) → NotAfter (best_of best) (placed C ps) ⊎ KeepsBoth t.kx t.ky ps → NotAfter (best_of best) (placed C ps) ⊎ KeepsBoth r.kx r.ky ps
              covered ps (inl x) = inl x
              covered ps (inr x) = inr (tables (λ (a b : List ℕ). KeepsBoth a b ps) x)

        -- ---- its opposite kept: children as before but for child i, which is gone, and a best so far that covers the letter

        module _ (t : Left) (b₀ b : HeldRecord) (k : ℕ) (okay : LeftOk c p node s k t b₀) (r : Left) (adds : AddsOn (way_at i) t.kx t.ky (contrary (limited u)) r.kx r.ky)
            (before : (ps : List Spot) → in_branch C ls ps ≡ true → NotAfter (best_of b₀) (placed C ps) → NotAfter (best_of b) (placed C ps))
            (covers : (ps : List Spot) → in_branch C (with i) ps ≡ true → KeepsBoth t.kx t.ky ps → Holds (value_on (way_at i) ps) (limited u) → NotAfter (best_of b) (placed C ps)) where
          left_covers : (ps : List Spot) → in_branch C ls ps ≡ true → KeepsBoth node.kx node.ky ps → NotAfter (best_of b) (placed C ps) ⊎ KeepsBoth r.kx r.ky ps
          left_covers ps h y = by (okay.covers ps h y)
            where
              on : KeepsBoth t.kx t.ky ps → Either ps → NotAfter (best_of b) (placed C ps) ⊎ KeepsBoth r.kx r.ky ps
              on x (inl (a, l)) = inl (covers ps a x l)
              on x (inr o) = inr (adds.to ps x o)

              by : NotAfter (best_of b₀) (placed C ps) ⊎ KeepsBoth t.kx t.ky ps → NotAfter (best_of b) (placed C ps) ⊎ KeepsBoth r.kx r.ky ps
              by (inl x) = inl (before ps h x)
              by (inr x) = on x (either ps h)

          left_shut : (j : ℕ) → Shut C ls s t.kx t.ky j → Shut C ls s r.kx r.ky j
          left_shut j q = record { keeps = λ ps h y. q.keeps ps h (adds.back ps y) }

          own_shut : Shut C ls s r.kx r.ky i
          own_shut = record { keeps = λ ps h y. opposes ps (adds.own ps y) }

          -- child i stays as it is
          left_opposite : k ≡ i → child_list r ≡ child_list t → LeftOk c p node s (i + 1) r b
          left_opposite e q = record {
            counted = λ j h. subst (λ (x : List HeldRecord). Counted c.n (child_at x j)) (sym q) (okay.counted j h);
            fit = λ j h. subst (λ (x : List HeldRecord). (best_of (child_at x j) ≡ nothing → ⊥) → best_of (child_at x j) ≡ fit_of C (with j)) (sym q) (okay.fit j h);
            shut = λ j h g z. by j h g z (ℕ_discrete j i);
            covers = left_covers;
          }
            where
              by : (j : ℕ) → j < i + 1 → j < 4 → best_of (child_at (child_list r) j) ≡ nothing → Dec (j ≡ i) → Shut C ls s r.kx r.ky j
              by j h g z (yes d) = rw d own_shut
              by j h g z (no d) = left_shut j (okay.shut j (omega arith) g (subst (λ (x : List HeldRecord). best_of (child_at x j) ≡ nothing) q z))

          -- child i is gone
          pub left_gone : child_list r ≡ set (child_list t) i no_record → k ≡ 4 → LeftOk c p node s 4 r b
          left_gone q e = record {
            counted = λ j h. subst (λ (x : List HeldRecord). Counted c.n (child_at x j)) (sym q) (count j h (ℕ_discrete j i));
            fit = λ j h z. fits j h z (ℕ_discrete j i);
            shut = λ j h g z. by j g z (ℕ_discrete j i);
            covers = left_covers;
          }
            where
              here : child_at (set (child_list t) i no_record) i ≡ no_record
              here = let g = asks.four in get_or-set_same (child_list t) i no_record no_record (omega arith)

              other : (j : ℕ) → (j ≡ i → ⊥) → child_at (child_list r) j ≡ child_at (child_list t) j
              other j d = ap (λ (x : List HeldRecord). child_at x j) q ∙ get_or-set_other (child_list t) i j no_record no_record d

              count : (j : ℕ) → j < 4 → Dec (j ≡ i) → Counted c.n (child_at (set (child_list t) i no_record) j)
              count j h (yes d) = rw (d, here) (none_counted c.n ok.fine.mac_count)
              count j h (no d) = rw (get_or-set_other (child_list t) i j no_record no_record d) (okay.counted j h)

              fits : (j : ℕ) → j < 4 → (best_of (child_at (child_list r) j) ≡ nothing → ⊥) → Dec (j ≡ i) → best_of (child_at (child_list r) j) ≡ fit_of C (with j)
              fits j h z (yes d) = absurd (z (ap best_of (ap (λ (x : List HeldRecord). child_at x j) q ∙ (ap (child_at (set (child_list t) i no_record)) d ∙ here)) ∙ no_best))
              fits j h z (no d) = let a = other j d in ap best_of a ∙ okay.fit j h (λ y. z (ap best_of a ∙ y))

              by : (j : ℕ) → j < 4 → best_of (child_at (child_list r) j) ≡ nothing → Dec (j ≡ i) → Shut C ls s r.kx r.ky j
              by j g z (yes d) = rw d own_shut
              by j g z (no d) = left_shut j (okay.shut j (omega arith) g (ap best_of (sym (other j d)) ∙ z))

        -- ---- letter i tried, and closed: its fit does not replace the best

        tried_closed : (t : Left) (best : HeldRecord) → LeftOk c p node s i t best → Counted c.n best → (f : HeldRecord) → ChildHeld c (set node.letters s (byte_of i)) p best f
            → (e : Bool) → pick e (best_of f) (best_of best) ≡ better (best_of best) (best_of f) → e ≡ false → (r : Left) → OppositeKept t i u r → LeftOk c p node s (i + 1) r best
        tried_closed t best okay counted f held e told q r k = left_opposite t best best i okay r k.adds (λ ps h x. x) (λ ps h x y. closes (best_of f) refl ps h) refl k.children
          where
            stays : NotAfter (best_of best) (best_of f)
            stays = sym told ∙ ap (λ (x : Bool). pick x (best_of f) (best_of best)) q

            closes : (a : Best) → best_of f ≡ a → (ps : List Spot) → in_branch C (with i) ps ≡ true → NotAfter (best_of best) (placed C ps)
            closes nothing y ps h = held.closed y ps h
            closes (found l qs) y ps h = closed_covers C (with i) ps h (best_of best) (sized best counted) (subst (NotAfter (best_of best)) (held.fit (λ z. differ (sym y ∙ z))) stays)
              where
                differ : found l qs ≡ nothing → ⊥
                differ z = let w : ◌≡◌ {A = ℕ} 0 1 = cc in absurd (omega arith)

-- ---- in the form of the needs

module _ (c : HeldChip) (parts : Parts) (p : ℕ) (tx ty : List ℕ) (node : Node) (s : ℕ) (at : Cursor) (best : HeldRecord) where
  -- the slot that a letter asks
  pub asked : Given c parts p tx ty node best → Turn c p node s at → (i : ℕ) → i < 4 → (u : Slot) → u ≡ slot_asked parts.blocks at i → Asks c s i u
  asked g w i h u e = asks_is c s at w.on i h u (rw g.reads at e)

  module _ (i : ℕ) (u : Slot) (eu : u ≡ slot_asked parts.blocks at i) (t : Left) where
    pub one_excluded : (e : Bool) → ExcludedBy e i u t.kx t.ky → e ≡ true → TriedOne c parts p tx ty node s at i best t t
    one_excluded e x q = record { left = λ g w h o. tried_excluded c p node s g.passed g.branch w.free i u (asked g w i h u eu) t best o e x q }

    module _ (f : HeldRecord) (k : ChildOf c p tx ty node s i u best f) (e : Bool) where
      child : Given c parts p tx ty node best → Turn c p node s at → i < 4 → ChildHeld c (set node.letters s (byte_of i)) p best f
      child g w h = k.held g.passed g.arrays g.branch w.free (asked g w i h u eu)

      pub one_left : Told e f → e ≡ true → (r : Left) → SameKept t r (set (child_list t) i f) → TriedOne c parts p tx ty node s at i best t r
      one_left told q r same = record { left = λ g w h o. tried_left c p node s g.passed g.branch w.free i u (asked g w i h u eu) t best o f (child g w h) e told q r same }

      pub one_closed : pick e (best_of f) (best_of best) ≡ better (best_of best) (best_of f) → e ≡ false → (r : Left) → OppositeKept t i u r → TriedOne c parts p tx ty node s at i best t r
      one_closed told q r kept = record { left = λ g w h o. tried_closed c p node s g.passed g.branch w.free i u (asked g w i h u eu) t best o g.counted f (child g w h) e told q r kept }

  pub none_tried : (t : Left) → Untried node t → Tried c parts p tx ty node s at 0 best t
  none_tried t u = record { left = λ g w. untried_left c p node s g.passed t u best }

  pub four_tried : (i : ℕ) (t : Left) → i ≤ 4 → 4 ≤ i → Tried c parts p tx ty node s at i best t → Tried c parts p tx ty node s at 4 best t
  four_tried i t h g k = subst (λ (j : ℕ). Tried c parts p tx ty node s at j best t) (omega arith) k
