-- The entries of a net, and of all nets: how many there are, and what stays in the array.
use Prim.Native.Nat.{ℕ, zero, suc, ◌+◌, ◌-◌, ◌*◌, ◌%◌, ◌≤◌, ◌<◌}
use mathlib.Core.Path.{◌≡◌, refl, sym, ap, subst, ◌∙◌}
use mathlib.Core.Bool.{Bool, true, false}
use mathlib.Core.List.{List}
use native.Mathlib.Decide.{ℕ_discrete, dec_lt}
use native.Mathlib.Numerals.{add-one}
use native.Mathlib.Omega.{arith}
use mir.Syntax.{w64}
use mir.Val.{Fits}
use lib.Dec.{ltb}
use lib.ListN.{length, get_or, set, replicate, length-set, length-replicate}
use lib.Seq.{get_or-set_same, get_or-set_other}
use borrow.Author.Tests.{lt-ltb, le-ltb}
use Rattle.num_laws.specs.Sum.{sum, when}
use Rattle.model.specs.declared.Net.{Net}
use Rattle.model.specs.declared.Pin.{Pin}
use Rattle.model.specs.Meaning.{blank_net}
use Rattle.chip_text.specs.Valid.{pins_before}
use Rattle.chip_text.proofs.HeldNets.{pins_before_more, pins_before_next, pins_before_up}
use Rattle.axis_bounds.specs.declared.AxisPin.{AxisPin}
use Rattle.fit_slots.specs.declared.Direction.{Direction}
use Rattle.half_arrays.specs.Arrays.{weight_at, entry_count}
use Rattle.search_numbers.specs.declared.Span.{Span}
use Rattle.search_tables.specs.Entries.{pins_on, start_of, Lies, Spans, with_entry, Entered, on_nodes, Few, SameRest, Weighed, NetsIn, NetPut}
use Rattle.num_laws.proofs.Stores.{zero_at}
use Rattle.search_tables.proofs.Entering.{PinsWithin, entered_store, entered_none, entered_rest, entered_more}

-- ---- how many

one_most : (t : Bool) → when t 1 ≤ 1
one_most true = omega arith
one_most false = omega arith

module _ (p : ℕ → AxisPin) (from v : ℕ) where
  nodes_most : (m : ℕ) → on_nodes p from m v ≤ m
  unfolding on_nodes sum
  nodes_most zero = omega arith
  nodes_most (suc m) = let h = nodes_most m in let g = one_most (ltb (p (from + m)).node v) in omega arith

  step_up : (a : ℕ) → when (ltb a v) 1 ≤ when (ltb a (suc v)) 1
  step_up a = by (dec_lt a v)
    where
      by : Dec (a < v) → when (ltb a v) 1 ≤ when (ltb a (suc v)) 1
      by (yes l) = rw (lt-ltb a v l, lt-ltb a (suc v) (omega arith)) (omega arith)
      by (no l) = rw (le-ltb a v (omega arith)) (omega arith)

  step_more : (a : ℕ) → a ≡ v → suc (when (ltb a v) 1) ≤ when (ltb a (suc v)) 1
  step_more a e = rw (le-ltb a v (omega arith), lt-ltb a (suc v) (omega arith)) (omega arith)

  nodes_grow : (m : ℕ) → on_nodes p from m v ≤ on_nodes p from m (suc v)
  unfolding on_nodes sum
  nodes_grow zero = omega arith
  nodes_grow (suc m) = let h = nodes_grow m in let g = step_up (p (from + m)).node in omega arith

  nodes_more : (m i : ℕ) → i < m → (p (from + i)).node ≡ v → suc (on_nodes p from m v) ≤ on_nodes p from m (suc v)
  unfolding on_nodes sum
  nodes_more zero i l e = absurd (omega arith)
  nodes_more (suc m) i l e = by (ℕ_discrete i m) (λ g. nodes_more m i g e)
    where
      by : Dec (i ≡ m) → (i < m → suc (on_nodes p from m v) ≤ on_nodes p from m (suc v)) → suc (on_nodes p from (suc m) v) ≤ on_nodes p from (suc m) (suc v)
      by (yes q) ih =
          let h = nodes_grow m in
          let g = step_more (p (from + m)).node (ap (λ (k : ℕ). (p (from + k)).node) (sym q) ∙ e) in
          omega arith
      by (no q) ih = let h = ih (omega arith) in let g = step_up (p (from + m)).node in omega arith

module _ (p : ℕ → AxisPin) (from m v e : ℕ) (h : Few p from m v e) where
  few_none : Few p from m (suc v) e
  few_none = let a = h.le in let b = nodes_grow p from v m in record { le = omega arith }

  few_more : (u : ℕ) → Lies p from (from + m) v u → Few p from m (suc v) (suc e)
  few_more u l =
      let a = h.le in let lo = l.low in let hi = l.high in
      let t : from + (l.place - from) ≡ l.place = omega arith in
      let b = nodes_more p from v m (l.place - from) (omega arith) (ap (λ (i : ℕ). (p i).node) t ∙ l.node) in
      record { le = omega arith }

  few_most : e ≤ from + m
  few_most = let a = h.le in let b = nodes_most p from v m in omega arith

-- ---- one net

pub pins_small : (d : Direction) (pins : List Pin) → PinsWithin (pins_on d pins)
pins_small d pins = record { node = λ i. omega arith; up = λ i. omega arith }

module _ (d : Direction) (nets : List Net) (pins : List Pin) (j from : ℕ) where
  abbrev m : ℕ
  m = (get_or nets j blank_net).pins

  -- the nodes below v of net j are entered
  pub record InNet (before tab : List ℕ) (e v : ℕ) : Type 0 where
    pub entered : Entered (pins_on d pins) (start_of nets) tab e (9 * j + v)
    pub few : Few (pins_on d pins) from m v e
    pub rest : SameRest before tab

  module _ (ef : from ≡ pins_before j nets) where
    to_is : from + m ≡ pins_before (suc j) nets
    to_is = let a = pins_before_more j nets in omega arith

    pub net_ends : pins_before (j + 1) nets ≤ 128 → from + m ≤ 128
    net_ends l = let a = pins_before_next j nets in omega arith

    pub net_fits : pins_before (j + 1) nets ≤ 128 → Fits w64 (from + (get_or nets j blank_net).pins)
    net_fits l = let a = net_ends l in omega arith

    pub next_fits : (before tab : List ℕ) (e v : ℕ) → InNet before tab e v → pins_before (j + 1) nets ≤ 128 → Fits w64 (e + 1)
    next_fits before tab e v h l = let a = few_most (pins_on d pins) from m v e h.few in let b = net_ends l in omega arith

    module _ (before tab : List ℕ) (e v : ℕ) (h : InNet before tab e v) (lv : v < 9) (s : Span) (w : Spans (pins_on d pins) from (from + m) v s) where
      spans_net : Spans (pins_on d pins) (start_of nets j) (start_of nets (suc j)) v s
      spans_net = subst (λ (k : ℕ). Spans (pins_on d pins) k (pins_before (suc j) nets) v s) ef (subst (λ (k : ℕ). Spans (pins_on d pins) from k v s) to_is w)

      pub net_skips : s.some ≡ false → InNet before tab e (v + 1)
      net_skips o = rw add-one (record {
        entered = subst (Entered (pins_on d pins) (start_of nets) tab e) (let q : suc (9 * j + v) ≡ 9 * j + suc v = omega arith in q) (entered_none (pins_on d pins) (start_of nets) (pins_small d pins) tab e j v s h.entered spans_net lv o);
        few = few_none (pins_on d pins) from m v e h.few;
        rest = h.rest;
      })

      module _ (o : s.some ≡ true) (lt : pins_before (j + 1) nets ≤ 128) (lj : j < 32) where
        next_few : Few (pins_on d pins) from m (suc v) (suc e)
        next_few = few_more (pins_on d pins) from m v e h.few s.most (w.most o)

        net_room_law : e < 128
        net_room_law = let a = few_most (pins_on d pins) from m (suc v) (suc e) next_few in let b = net_ends lt in omega arith

        pub net_enters : (out : List ℕ) → out ≡ with_entry tab e v s.most s.least j → InNet before out (e + 1) (v + 1)
        net_enters out eo = rw (add-one, add-one, eo) (record {
          entered = subst (Entered (pins_on d pins) (start_of nets) (with_entry tab e v s.most s.least j) (suc e)) (let q : suc (9 * j + v) ≡ 9 * j + suc v = omega arith in q) (entered_more (pins_on d pins) (start_of nets) (pins_small d pins) tab e j v s h.entered spans_net lv o net_room_law lj);
          few = next_few;
          rest = record { at = λ k l. (entered_rest (pins_on d pins) (start_of nets) (pins_small d pins) tab e j v s h.entered spans_net lv o net_room_law lj).at k l ∙ h.rest.at k l };
        })

    pub net_done : (before tab : List ℕ) (e v : ℕ) → InNet before tab e v → v ≤ 9 → 9 ≤ v → NetPut d nets pins j e before tab
    net_done before tab e v h a b = record {
      entered = subst (Entered (pins_on d pins) (start_of nets) tab e) (let q : 9 * j + v ≡ 9 * (j + 1) = omega arith in q) h.entered;
      few = let c = few_most (pins_on d pins) from m v e h.few in let g = pins_before_next j nets in omega arith;
      rest = h.rest;
    }

-- ---- all nets

module _ (nets : List Net) where
  weighed_same : (tab out : List ℕ) (j : ℕ) → ((k : ℕ) → 576 ≤ k → k < 608 → get_or out k 0 ≡ get_or tab k 0) → j ≤ 32 → Weighed nets tab j → Weighed nets out j
  unfolding weight_at
  weighed_same tab out j s l w = record {
    here = λ a g. rw (s (576 + a % 64) (omega arith) (omega arith)) (w.here a g);
    past = λ a g h. rw (s (576 + a % 64) (omega arith) (omega arith)) (w.past a g h);
  }

  module _ (tab : List ℕ) (j x y : ℕ) (long : length tab ≡ 1024) (lj : j < 32) (ey : y ≡ (get_or nets j blank_net).weight % 65536) (w : Weighed nets tab j) where
    abbrev begun : List ℕ
    begun = set (set tab (512 + j) x) (576 + j) y

    weigh_here : weight_at begun j ≡ (get_or nets j blank_net).weight % 65536
    unfolding weight_at
    weigh_here =
        let e = length-set tab (512 + j) x in
        let q : 576 + j % 64 ≡ 576 + j = omega arith in
        let g : get_or begun (576 + j % 64) 0 ≡ y = ap (λ (k : ℕ). get_or begun k 0) q ∙ get_or-set_same (set tab (512 + j) x) (576 + j) y 0 (omega arith) in
        omega arith

    weigh_other : (a : ℕ) → a < 32 → (a ≡ j → ⊥) → weight_at begun a ≡ weight_at tab a
    unfolding weight_at
    weigh_other a l n = rw (get_or-set_other (set tab (512 + j) x) (576 + j) (576 + a % 64) y 0 (λ o. n (omega arith)), get_or-set_other tab (512 + j) (576 + a % 64) x 0 (λ o. absurd (omega arith)))

    weighed_more : Weighed nets begun (j + 1)
    weighed_more = record {
      here = λ a l. by a l (ℕ_discrete a j);
      past = λ a l g. weigh_other a g (λ o. absurd (omega arith)) ∙ w.past a (omega arith) g;
    }
      where
        by : (a : ℕ) → a < j + 1 → Dec (a ≡ j) → weight_at begun a ≡ (get_or nets a blank_net).weight % 65536
        by a l (yes q) = rw q weigh_here
        by a l (no q) = weigh_other a (omega arith) q ∙ w.here a (omega arith)

module _ (d : Direction) (nets : List Net) (pins : List Pin) where
  pub nets_none : (tab : List ℕ) → tab ≡ replicate 1024 0 → NetsIn d nets pins tab 0 0
  unfolding weight_at pins_before
  nets_none tab e = rw e (record {
    entered = record { long = length-replicate {A = ℕ} 1024 0; backed = λ x l. absurd (omega arith); stood = λ a i g h l. absurd (omega arith) };
    weighed = record { here = λ a l. absurd (omega arith); past = λ a l g. rw (zero_at 1024 (576 + a % 64)) };
    few = omega arith;
  })

  module _ (t : ℕ) (lt : t ≤ 32) (lp : pins_before t nets ≤ 128) (j : ℕ) (lj : j < t) where
    pub net_within : pins_before (j + 1) nets ≤ 128
    net_within = let a = pins_before_up (j + 1) t nets (omega arith) in omega arith

    module _ (tab : List ℕ) (e : ℕ) (h : NetsIn d nets pins tab e j) where
      pub net_begun : (x y : ℕ) → Entered (pins_on d pins) (start_of nets) (set (set tab (512 + j) x) (576 + j) y) e (9 * j)
      net_begun x y = entered_store (pins_on d pins) (start_of nets) (set tab (512 + j) x) e (9 * j) (576 + j) y (omega arith) (entered_store (pins_on d pins) (start_of nets) tab e (9 * j) (512 + j) x (omega arith) h.entered)

      pub net_few : (from : ℕ) → from ≡ pins_before j nets → e ≤ from
      net_few from ef = let a = h.few in omega arith

      pub nets_more : (x y r : ℕ) (out : List ℕ) → y ≡ (get_or nets j blank_net).weight % 65536 → NetPut d nets pins j r (set (set tab (512 + j) x) (576 + j) y) out → NetsIn d nets pins out r (j + 1)
      nets_more x y r out ey n = record {
        entered = n.entered;
        weighed = weighed_same nets (set (set tab (512 + j) x) (576 + j) y) out (j + 1) (λ k g l. n.rest.at k (omega arith)) (omega arith) (weighed_more nets tab j x y h.entered.long (omega arith) ey h.weighed);
        few = n.few;
      }

    pub from_more : (from : ℕ) → from ≡ pins_before j nets → from + (get_or nets j blank_net).pins ≡ pins_before (j + 1) nets
    from_more from ef = let a = pins_before_next j nets in omega arith

    pub from_fits : (from : ℕ) → from ≡ pins_before j nets → Fits w64 (from + (get_or nets j blank_net).pins)
    from_fits from ef = let a = from_more from ef in let b = net_within in omega arith

pub from_none : (nets : List Net) → 0 ≡ pins_before 0 nets
unfolding pins_before
from_none nets = refl

-- ---- the whole array

module _ (d : Direction) (nets : List Net) (pins : List Pin) (tab : List ℕ) (e t : ℕ) (h : NetsIn d nets pins tab e t) (lt : t ≤ 32) (lp : pins_before t nets ≤ 128) (x y z r : ℕ) (er : r ≡ e % 65536) where
  abbrev done : List ℕ
  done = set (set (set (set tab (512 + t) x) 896 y) 897 z) 898 r

  done_entered : Entered (pins_on d pins) (start_of nets) done e (9 * t)
  done_entered =
      let one = entered_store (pins_on d pins) (start_of nets) tab e (9 * t) (512 + t) x (omega arith) h.entered in
      let two = entered_store (pins_on d pins) (start_of nets) (set tab (512 + t) x) e (9 * t) 896 y (omega arith) one in
      let three = entered_store (pins_on d pins) (start_of nets) (set (set tab (512 + t) x) 896 y) e (9 * t) 897 z (omega arith) two in
      entered_store (pins_on d pins) (start_of nets) (set (set (set tab (512 + t) x) 896 y) 897 z) e (9 * t) 898 r (omega arith) three

  done_same : (k : ℕ) → 576 ≤ k → k < 608 → get_or done k 0 ≡ get_or tab k 0
  done_same k l g =
      get_or-set_other (set (set (set tab (512 + t) x) 896 y) 897 z) 898 k r 0 (λ o. absurd (omega arith))
      ∙ (get_or-set_other (set (set tab (512 + t) x) 896 y) 897 k z 0 (λ o. absurd (omega arith))
      ∙ (get_or-set_other (set tab (512 + t) x) 896 k y 0 (λ o. absurd (omega arith))
      ∙ get_or-set_other tab (512 + t) k x 0 (λ o. absurd (omega arith))))

  done_count : entry_count done ≡ e
  unfolding entry_count
  done_count =
      let a = length-set (set (set (set tab (512 + t) x) 896 y) 897 z) 898 r in
      let l = done_entered.long in let f = h.few in
      let g = get_or-set_same (set (set (set tab (512 + t) x) 896 y) 897 z) 898 r 0 (omega arith) in
      let s : get_or done 898 0 ≡ e = omega arith in
      let q : e % 129 ≡ e = omega arith in
      ap (λ (k : ℕ). k % 129) s ∙ q

  pub table_done : NetsIn d nets pins done (entry_count done) t
  table_done = rw done_count (record { entered = done_entered; weighed = weighed_same nets tab done t done_same lt h.weighed; few = h.few })
