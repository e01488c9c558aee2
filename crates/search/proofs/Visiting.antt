-- The children of a node, visited in any order: at each time a legal placement of the branch that keeps the node's differences is covered by the best so far, or keeps the differences that are left. When all four are gone nothing is left.
use Prim.Native.Nat.{ℕ, ◌<◌}
use mathlib.Core.Path.{◌≡◌, refl, sym, subst}
use mathlib.Core.Bool.{true, false≢true}
use mathlib.Core.List.{List}
use mathlib.Core.Logic.{◌⊎◌, inl, inr}
use native.Mathlib.Omega.{arith}
use lib.ListN.{length}
use Rattle.std.specs.Prelude.{Option, Some, None}
use Rattle.model.specs.declared.Chip.{Chip as HeldChip}
use Rattle.model.specs.declared.Spot.{Spot}
use Rattle.model.specs.declared.Record.{Record as HeldRecord}
use Rattle.model.specs.Meaning.{Chip, chip_of}
use Rattle.chip_text.specs.Passed.{Passed}
use Rattle.placement.specs.Letters.{Letter, left, right, low, high, dot}
use Rattle.placement.specs.Least.{nothing}
use Rattle.placement.proofs.Cover.{Says}
use Rattle.axis_bounds.specs.declared.Slot.{Slot}
use Rattle.search_branches.specs.Branch.{in_branch, undecided}
use Rattle.search_branches.proofs.Betters.{Sized}
use Rattle.search_branches.proofs.Undecided.{undecided_less}
use Rattle.search_halves.specs.Kept.{keeps_one, opposite_at}
use Rattle.search_halves.specs.Result.{placed, NotAfter}
use Rattle.search_halves.proofs.NotAfter.{after_same, after_trans}
use Rattle.search_halves.proofs.Opposite.{not_all_opposite}
use Rattle.search_halves.proofs.Covers.{branch_legal, branch_keeps, covers_on}
use Rattle.search_best.specs.Best.{best_of, Counted}
use Rattle.search_node.specs.Node.{NodeOk, Open, Given, Turn}
use Rattle.search_node.specs.Letters.{letters_in, letter_at, Asks, slot_asked}
use Rattle.search_left.specs.Left.{KeepsBoth, child_list, child_at, HoldsAt, NoneHolds, NothingLeft, NextOrOver, Visited}
use Rattle.search_close.specs.Step.{Searched}
use Rattle.search_letters.specs.Turns.{LeftOk, Tried}
use Rattle.search.specs.Search.{Grown, NextOf, NextOk}
use Rattle.search_node.specs.declared.Node.{Node}
use Rattle.search_left.specs.declared.Left.{Left}
use Rattle.search_left.proofs.FourChildren.{held_in, held_fewer}
use Rattle.search_node.proofs.Lettering.{no_dot}
use Rattle.search_letters.proofs.Turning.{sized, long, with_is, left_gone, asked}
use Rattle.search.proofs.Nodes.{next_ok}
use Rattle.fit_pairs.specs.declared.Cursor.{Cursor}
use Rattle.search_node.specs.declared.Parts.{Parts}

module _ (c : HeldChip) (p : ℕ) (node : Node) (s : ℕ) where
  abbrev C : Chip
  C = chip_of c

  abbrev ls : List Letter
  ls = letters_in node.letters p

  abbrev n : ℕ
  n = length C.macs

  module _ (ok : Passed c) where
    size : (r : HeldRecord) → Counted c.n r → Sized n (best_of r)
    size = sized c p node s ok

    grown_start : (b : HeldRecord) → Counted c.n b → Grown c b b
    grown_start b k = record { counted = k; first = after_same (best_of b); real = λ q. q }

    module _ (at : NodeOk c p node) (free : Open c p node s) where
      many : length ls ≡ p
      many = long c p node s ok at free

      module _ (i : ℕ) (u : Slot) (asks : Asks c s i u) (best b : HeldRecord) (counted : Counted c.n best) (t : Left) (okay : LeftOk c p node s 4 t b) (grown : Grown c best b) (next : Node) (nx : NextOk c p node t s i u next) (r : Left) (v : Visited t i u r) where
        visit_left : (a : HeldRecord) → Searched c next.letters p next.kx next.ky b a → LeftOk c p node s 4 r a
        visit_left a w = left_gone c p node s ok at free i u asks t b a 4 okay r v.adds (λ ps h x. covers_on C ls ps h (best_of a) (best_of b) (size a w.counted) (size b grown.counted) w.first x)
            (λ ps h x y. w.covers ps (subst (λ (z : List ℕ). in_branch C (letters_in z p) ps ≡ true) (sym nx.letters) h) (nx.adds.to ps x y)) v.children refl

        visit_grown : (a : HeldRecord) → Searched c next.letters p next.kx next.ky b a → Grown c best a
        visit_grown a w = record {
          counted = w.counted;
          first = after_trans n (best_of a) (best_of b) (best_of best) (size a w.counted) (size b grown.counted) (size best counted) w.first grown.first;
          real = λ q. w.real (grown.real q);
        }

        -- one letter more leaves one undecided pair fewer
        visit_falls : (k : ℕ) → undecided ls ≡ k → undecided (letters_in next.letters p) < k
        visit_falls k e = subst (λ (x : List ℕ). undecided (letters_in x p) < k) (sym nx.letters)
            (let g = free.place in let l = many in rw (← e, with_is c p node s ok at free i) (undecided_less ls s (letter_at i) (omega arith) free.undecided (no_dot i asks.four)))

        -- one child fewer is left
        visit_fewer : (best_of (child_at (child_list t) i) ≡ nothing → ⊥) → held_in (child_list r) < held_in (child_list t)
        visit_fewer h = subst (λ (x : List HeldRecord). held_in x < held_in (child_list t)) (sym v.children) (held_fewer (child_list t) i h)

      -- ---- nothing is left

      module _ (best b : HeldRecord) (t : Left) (okay : LeftOk c p node s 4 t b) (grown : Grown c best b) where
        visits_end : NothingLeft t → Searched c node.letters p node.kx node.ky best b
        visits_end next = record {
          counted = grown.counted;
          first = grown.first;
          real = grown.real;
          covers = λ ps h k. by ps h (okay.covers ps h k) next.none;
        }
          where
            all : (ps : List Spot) → in_branch C ls ps ≡ true → KeepsBoth t.kx t.ky ps → ((j : ℕ) → j < 4 → best_of (child_at (child_list t) j) ≡ nothing) → (m : Letter) → Says m → keeps_one ps (opposite_at C s m) ≡ true
            all ps h k z left w = (okay.shut 0 (omega arith) (omega arith) (z 0 (omega arith))).keeps ps h k
            all ps h k z right w = (okay.shut 1 (omega arith) (omega arith) (z 1 (omega arith))).keeps ps h k
            all ps h k z low w = (okay.shut 2 (omega arith) (omega arith) (z 2 (omega arith))).keeps ps h k
            all ps h k z high w = (okay.shut 3 (omega arith) (omega arith) (z 3 (omega arith))).keeps ps h k
            all ps h k z dot w = absurd (false≢true (sym w))

            by : (ps : List Spot) → in_branch C ls ps ≡ true → NotAfter (best_of b) (placed C ps) ⊎ KeepsBoth t.kx t.ky ps → ((qs : List Spot) → KeepsBoth t.kx t.ky qs → ⊥) ⊎ NoneHolds (child_list t) → NotAfter (best_of b) (placed C ps)
            by ps h (inl x) y = x
            by ps h (inr x) (inl y) = absurd (y ps x)
            by ps h (inr x) (inr y) = absurd (not_all_opposite C ls s (let q = free.place in let l = many in omega arith) free.undecided ps (branch_legal C ls ps h) (branch_keeps C ls ps h) (all ps h x y.none))

-- ---- in the form of the needs

-- child `next` of a node is searched from the best so far b: one pair fewer is undecided; of what was left, t, one child fewer is left, r; the answer is the best so far
pub record Visit (c : HeldChip) (parts : Parts) (p : ℕ) (tx ty : List ℕ) (node : Node) (s : ℕ) (best b : HeldRecord) (t : Left) (next : Node) (r : Left) : Type 0 where
  pub given : Given c parts p tx ty next b
  pub falls : (k : ℕ) → undecided (letters_in node.letters p) ≡ k → undecided (letters_in next.letters p) < k
  pub fewer : held_in (child_list r) < held_in (child_list t)
  pub left : (a : HeldRecord) → Searched c next.letters p next.kx next.ky b a → LeftOk c p node s 4 r a
  pub grown : (a : HeldRecord) → Searched c next.letters p next.kx next.ky b a → Grown c best a

module _ (c : HeldChip) (parts : Parts) (p : ℕ) (tx ty : List ℕ) (node : Node) (best : HeldRecord) (g : Given c parts p tx ty node best) (s : ℕ) (at : Cursor) (w : Turn c p node s at) where
  pub visits_start : (t : Left) → Tried c parts p tx ty node s at 4 best t → LeftOk c p node s 4 t best × Grown c best best
  visits_start t k = (k.left g w, grown_start c p node s g.passed best g.counted)

  module _ (t : Left) (b : HeldRecord) (okay : LeftOk c p node s 4 t b) (grown : Grown c best b) where
    visits_done : NothingLeft t → Searched c node.letters p node.kx node.ky best b
    visits_done sought = visits_end c p node s g.passed g.branch w.free best b t okay grown sought

    -- where there is no next child
    pub visits_over : (r : Option ℕ) → NextOrOver t r → ((i : ℕ) → r ≡ Some i → ⊥) → Searched c node.letters p node.kx node.ky best b
    visits_over None next none = visits_done next
    visits_over (Some i) next none = absurd (none i refl)

    pub visit_child : (i : ℕ) → HoldsAt (child_list t) i → (u : Slot) → u ≡ slot_asked parts.blocks at i → (next : Node) → NextOf node t s i u next → (r : Left) → Visited t i u r → Visit c parts p tx ty node s best b t next r
    visit_child i sought u e next o r v = record {
      given = record { passed = g.passed; reads = g.reads; arrays = g.arrays; branch = nx.node; counted = grown.counted };
      falls = visit_falls c p node s g.passed g.branch w.free i u asks best b g.counted t okay grown next nx r v;
      fewer = visit_fewer c p node s g.passed g.branch w.free i u asks best b g.counted t okay grown next nx r v sought.some;
      left = visit_left c p node s g.passed g.branch w.free i u asks best b g.counted t okay grown next nx r v;
      grown = visit_grown c p node s g.passed g.branch w.free i u asks best b g.counted t okay grown next nx r v;
    }
      where
        asks : Asks c s i u
        asks = asked c parts p tx ty node s at best g w i sought.place u e

        nx : NextOk c p node t s i u next
        nx = next_ok c p node t b s i u g.passed g.branch w.free asks okay sought.some next o
