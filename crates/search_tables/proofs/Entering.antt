-- Entries put one after the other, node by node.
use Prim.Native.Nat.{ℕ, suc, ◌+◌, ◌*◌, ◌%◌, ◌≤◌, ◌<◌}
use mathlib.Core.Path.{◌≡◌, sym, ap, subst, ◌∙◌}
use mathlib.Core.Bool.{true, false}
use mathlib.Core.List.{List}
use native.Mathlib.Decide.{ℕ_discrete, dec_lt}
use native.Mathlib.Omega.{arith}
use lib.ListN.{length, get_or, set, length-set}
use lib.Seq.{get_or-set_same, get_or-set_other}
use Rattle.axis_bounds.specs.declared.AxisPin.{AxisPin}
use Rattle.half_arrays.specs.Arrays.{node_at, most_at, least_at, net_at}
use Rattle.search_numbers.specs.declared.Span.{Span}
use Rattle.search_tables.specs.Entries.{Spans, with_entry, Backed, Stood, Entered, SameRest}

-- ---- entries that stay

-- the entries below e read the same
pub record SameBelow (tab out : List ℕ) (e : ℕ) : Type 0 where
  pub node : (x : ℕ) → x < e → node_at out x ≡ node_at tab x
  pub most : (x : ℕ) → x < e → most_at out x ≡ most_at tab x
  pub least : (x : ℕ) → x < e → least_at out x ≡ least_at tab x
  pub net : (x : ℕ) → x < e → net_at out x ≡ net_at tab x

module _ (p : ℕ → AxisPin) (q : ℕ → ℕ) (tab out : List ℕ) (e : ℕ) (s : SameBelow tab out e) where
  backed_kept : (x : ℕ) → x < e → Backed p q tab x → Backed p q out x
  backed_kept x l b = record { most = rw (s.net x l, s.node x l, s.most x l) b.most; least = rw (s.net x l, s.node x l, s.least x l) b.least }

  stood_kept : (f a i : ℕ) → e ≤ f → Stood p tab e a i → Stood p out f a i
  stood_kept f a i h t =
      let l = t.lt in let u = t.under in let v = t.over in
      let m = s.most t.entry l in let n = s.least t.entry l in
      record {
        entry = t.entry;
        lt = omega arith;
        net = s.net t.entry l ∙ t.net;
        node = s.node t.entry l ∙ t.node;
        under = omega arith;
        over = omega arith;
      }

  pub entered_kept : (k : ℕ) → length out ≡ 1024 → Entered p q tab e k → Entered p q out e k
  entered_kept k g h = record { long = g; backed = λ x l. backed_kept x l (h.backed x l); stood = λ a i u v w. stood_kept e a i (omega arith) (h.stood a i u v w) }

-- the first 512 numbers stay
front_same : (tab out : List ℕ) (e : ℕ) → ((k : ℕ) → k < 512 → get_or out k 0 ≡ get_or tab k 0) → SameBelow tab out e
unfolding node_at most_at least_at net_at
front_same tab out e h = record {
  node = λ x l. rw (h (x % 128) (omega arith));
  most = λ x l. rw (h (128 + x % 128) (omega arith));
  least = λ x l. rw (h (256 + x % 128) (omega arith));
  net = λ x l. rw (h (384 + x % 128) (omega arith));
}

-- a number put behind them
pub entered_store : (p : ℕ → AxisPin) (q : ℕ → ℕ) (tab : List ℕ) (e k i v : ℕ) → 512 ≤ i → Entered p q tab e k → Entered p q (set tab i v) e k
entered_store p q tab e k i v l h =
    entered_kept p q tab (set tab i v) e (front_same tab (set tab i v) e (λ m g. get_or-set_other tab i m v 0 (λ o. absurd (omega arith)))) k (length-set tab i v ∙ h.long) h

-- ---- one entry more

module _ (tab : List ℕ) (e node most least net : ℕ) (long : length tab ≡ 1024) (le : e < 128) where
  abbrev a : List ℕ
  a = set tab (e % 128) (node % 65536)

  abbrev b : List ℕ
  b = set a (128 + e % 128) (most % 65536)

  abbrev c : List ℕ
  c = set b (256 + e % 128) (least % 65536)

  abbrev out : List ℕ
  out = with_entry tab e node most least net

  a_long : length a ≡ 1024
  a_long = length-set tab (e % 128) (node % 65536) ∙ long

  b_long : length b ≡ 1024
  b_long = length-set a (128 + e % 128) (most % 65536) ∙ a_long

  c_long : length c ≡ 1024
  c_long = length-set b (256 + e % 128) (least % 65536) ∙ b_long

  out_long : length out ≡ 1024
  unfolding with_entry
  out_long = length-set c (384 + e % 128) (net % 65536) ∙ c_long

  -- the other places
  out_other : (k : ℕ) → (k ≡ e % 128 → ⊥) → (k ≡ 128 + e % 128 → ⊥) → (k ≡ 256 + e % 128 → ⊥) → (k ≡ 384 + e % 128 → ⊥) → get_or out k 0 ≡ get_or tab k 0
  unfolding with_entry
  out_other k n m l o =
      get_or-set_other c (384 + e % 128) k (net % 65536) 0 o ∙ (get_or-set_other b (256 + e % 128) k (least % 65536) 0 l
      ∙ (get_or-set_other a (128 + e % 128) k (most % 65536) 0 m ∙ get_or-set_other tab (e % 128) k (node % 65536) 0 n))

  out_rest : SameRest tab out
  out_rest = record { at = λ k l. out_other k (λ o. absurd (omega arith)) (λ o. absurd (omega arith)) (λ o. absurd (omega arith)) (λ o. absurd (omega arith)) }

  out_below : SameBelow tab out e
  unfolding node_at most_at least_at net_at
  out_below = record {
    node = λ x l. rw (out_other (x % 128) (λ o. absurd (omega arith)) (λ o. absurd (omega arith)) (λ o. absurd (omega arith)) (λ o. absurd (omega arith)));
    most = λ x l. rw (out_other (128 + x % 128) (λ o. absurd (omega arith)) (λ o. absurd (omega arith)) (λ o. absurd (omega arith)) (λ o. absurd (omega arith)));
    least = λ x l. rw (out_other (256 + x % 128) (λ o. absurd (omega arith)) (λ o. absurd (omega arith)) (λ o. absurd (omega arith)) (λ o. absurd (omega arith)));
    net = λ x l. rw (out_other (384 + x % 128) (λ o. absurd (omega arith)) (λ o. absurd (omega arith)) (λ o. absurd (omega arith)) (λ o. absurd (omega arith)));
  }

  out_net : net < 32 → net_at out e ≡ net
  unfolding with_entry net_at
  out_net h = let l = c_long in let g = get_or-set_same c (384 + e % 128) (net % 65536) 0 (omega arith) in omega arith

  out_least : least < 65536 → least_at out e ≡ least
  unfolding with_entry least_at
  out_least h =
      let l = b_long in let g = get_or-set_same b (256 + e % 128) (least % 65536) 0 (omega arith) in
      let o = get_or-set_other c (384 + e % 128) (256 + e % 128) (net % 65536) 0 (λ t. absurd (omega arith)) in
      omega arith

  out_most : most < 65536 → most_at out e ≡ most
  unfolding with_entry most_at
  out_most h =
      let l = a_long in let g = get_or-set_same a (128 + e % 128) (most % 65536) 0 (omega arith) in
      let o = get_or-set_other c (384 + e % 128) (128 + e % 128) (net % 65536) 0 (λ t. absurd (omega arith)) in
      let u = get_or-set_other b (256 + e % 128) (128 + e % 128) (least % 65536) 0 (λ t. absurd (omega arith)) in
      omega arith

  out_node : node < 9 → node_at out e ≡ node
  unfolding with_entry node_at
  out_node h =
      let g = get_or-set_same tab (e % 128) (node % 65536) 0 (omega arith) in
      let o = get_or-set_other c (384 + e % 128) (e % 128) (net % 65536) 0 (λ t. absurd (omega arith)) in
      let u = get_or-set_other b (256 + e % 128) (e % 128) (least % 65536) 0 (λ t. absurd (omega arith)) in
      let v = get_or-set_other a (128 + e % 128) (e % 128) (most % 65536) 0 (λ t. absurd (omega arith)) in
      let r : get_or (set c (384 + e % 128) (net % 65536)) (e % 128) 0 ≡ node = omega arith in
      let z : node % 9 ≡ node = omega arith in
      ap (λ (k : ℕ). k % 9) r ∙ z

-- nodes and places are small
pub record PinsWithin (p : ℕ → AxisPin) : Type 0 where
  pub node : (i : ℕ) → (p i).node < 9
  pub up : (i : ℕ) → (p i).up < 65536

module _ (p : ℕ → AxisPin) (q : ℕ → ℕ) (small : PinsWithin p) (tab : List ℕ) (e j v : ℕ) (s : Span) (h : Entered p q tab e (9 * j + v)) (w : Spans p (q j) (q (suc j)) v s) (lv : v < 9) where
  same_step : (a i : ℕ) → 9 * a + (p i).node < suc (9 * j + v) → (9 * a + (p i).node < 9 * j + v → ⊥) → (a ≡ j) × ((p i).node ≡ v)
  same_step a i l n = let g = small.node i in (omega arith, omega arith)

  -- no pin of the net on this node
  pub entered_none : s.some ≡ false → Entered p q tab e (suc (9 * j + v))
  entered_none o = record {
    long = h.long;
    backed = h.backed;
    stood = λ a i g k l. by a i g k l (dec_lt (9 * a + (p i).node) (9 * j + v));
  }
    where
      by : (a i : ℕ) → q a ≤ i → i < q (suc a) → 9 * a + (p i).node < suc (9 * j + v) → Dec (9 * a + (p i).node < 9 * j + v) → Stood p tab e a i
      by a i g k l (yes m) = h.stood a i g k m
      by a i g k l (no m) =
          let t = same_step a i l m in
          absurd (w.none o i (subst (λ (b : ℕ). q b ≤ i) t.0 g) (subst (λ (b : ℕ). i < q (suc b)) t.0 k) t.1)

  module _ (o : s.some ≡ true) (le : e < 128) (lj : j < 32) where
    abbrev new : List ℕ
    new = with_entry tab e v s.most s.least j

    most_small : s.most < 65536
    most_small = let m = w.most o in let u = m.up in let g = small.up m.place in omega arith

    least_small : s.least < 65536
    least_small = let m = w.least o in let u = m.up in let g = small.up m.place in omega arith

    is_net : net_at new e ≡ j
    is_net = out_net tab e v s.most s.least j h.long le lj

    is_node : node_at new e ≡ v
    is_node = out_node tab e v s.most s.least j h.long le lv

    is_most : most_at new e ≡ s.most
    is_most = out_most tab e v s.most s.least j h.long le most_small

    is_least : least_at new e ≡ s.least
    is_least = out_least tab e v s.most s.least j h.long le least_small

    below : SameBelow tab new e
    below = out_below tab e v s.most s.least j h.long le

    pub entered_rest : SameRest tab new
    entered_rest = out_rest tab e v s.most s.least j h.long le

    -- its entry
    pub entered_more : Entered p q new (suc e) (suc (9 * j + v))
    entered_more = record {
      long = out_long tab e v s.most s.least j h.long le;
      backed = λ x l. back x l (ℕ_discrete x e);
      stood = λ a i g k l. by a i g k l (dec_lt (9 * a + (p i).node) (9 * j + v));
    }
      where
        back : (x : ℕ) → x < suc e → Dec (x ≡ e) → Backed p q new x
        back x l (yes t) = rw t (record { most = rw (is_net, is_node, is_most) (w.most o); least = rw (is_net, is_node, is_least) (w.least o) })
        back x l (no t) = backed_kept p q tab new e below x (omega arith) (h.backed x (omega arith))

        by : (a i : ℕ) → q a ≤ i → i < q (suc a) → 9 * a + (p i).node < suc (9 * j + v) → Dec (9 * a + (p i).node < 9 * j + v) → Stood p new (suc e) a i
        by a i g k l (yes m) = stood_kept p q tab new e below (suc e) a i (omega arith) (h.stood a i g k m)
        by a i g k l (no m) =
            let t = same_step a i l m in
            let lo = subst (λ (b : ℕ). q b ≤ i) t.0 g in let hi = subst (λ (b : ℕ). i < q (suc b)) t.0 k in
            let u = w.under i lo hi t.1 in let r = w.over i lo hi t.1 in
            let y = is_most in let z = is_least in
            record {
              entry = e;
              lt = omega arith;
              net = is_net ∙ sym t.0;
              node = is_node ∙ sym t.1;
              under = omega arith;
              over = omega arith;
            }
