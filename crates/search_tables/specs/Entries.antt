-- The first array while it is filled: its entries, net by net and within a net node by node, and the weights of the nets.
use Rattle.std.specs.Prelude.{ℕ, suc, ◌+◌, ◌*◌, ◌%◌, ◌≤◌, ◌<◌, ◌≡◌, true, false, List, ltb, length, get_or, set}
use Rattle.num_laws.specs.Sum.{sum, when}
use Rattle.model.specs.declared.Net.{Net}
use Rattle.model.specs.declared.Pin.{Pin}
use Rattle.model.specs.Meaning.{blank_net, blank_pin}
use Rattle.chip_text.specs.Valid.{pins_before}
use Rattle.axis_bounds.specs.declared.AxisPin.{AxisPin}
use Rattle.fit_slots.specs.declared.Direction.{Direction}
use Rattle.fit_slots.specs.declared.Direction.TheVariants.{Horizontal as horizontal, Vertical as vertical}
use Rattle.half_arrays.specs.Arrays.{node_at, most_at, least_at, net_at, weight_at, pin_at}
use Rattle.search_numbers.specs.declared.Span.{Span}

-- ---- pins

-- a pin's x or y as the chip holds it, 4,096 higher
abbrev pub up_on : Direction → Pin → ℕ
up_on horizontal p = p.xup
up_on vertical p = p.yup

-- the node read modulo 9, the place modulo 2^16
abbrev pub pin_on : Direction → Pin → AxisPin
pin_on d p = pin_at (p.m % 9) (up_on d p % 65536)

-- pin i
abbrev pub pins_on : Direction → List Pin → ℕ → AxisPin
pins_on d pins i = pin_on d (get_or pins i blank_pin)

-- where the pins of net a begin
abbrev pub start_of : List Net → ℕ → ℕ
start_of nets a = pins_before a nets

-- ---- the places of a node on a net

-- of the pins from `from` to before `to` one is on the node, at place u
pub record Lies (p : ℕ → AxisPin) (from to v u : ℕ) : Type 0 where
  pub place : ℕ
  pub low : from ≤ place
  pub high : place < to
  pub node : (p place).node ≡ v
  pub up : (p place).up ≡ u

-- some of those pins are on the node or none, and which places are the greatest and the least
pub record Spans (p : ℕ → AxisPin) (from to node : ℕ) (s : Span) : Type 0 where
  pub none : s.some ≡ false → (i : ℕ) → from ≤ i → i < to → (p i).node ≡ node → ⊥
  pub most : s.some ≡ true → Lies p from to node s.most
  pub least : s.some ≡ true → Lies p from to node s.least
  pub under : (i : ℕ) → from ≤ i → i < to → (p i).node ≡ node → (p i).up ≤ s.most
  pub over : (i : ℕ) → from ≤ i → i < to → (p i).node ≡ node → s.least ≤ (p i).up

-- ---- entries

-- entry e, modulo 128, with its node, its greatest and its least place, its net
unfoldable pub with_entry : List ℕ → ℕ → ℕ → ℕ → ℕ → ℕ → List ℕ
with_entry tab e node most least net =
    set (set (set (set tab (e % 128) (node % 65536)) (128 + e % 128) (most % 65536)) (256 + e % 128) (least % 65536)) (384 + e % 128) (net % 65536)

-- the two places of entry x are those of pins of its net on its node
pub record Backed (p : ℕ → AxisPin) (q : ℕ → ℕ) (tab : List ℕ) (x : ℕ) : Type 0 where
  pub most : Lies p (q (net_at tab x)) (q (suc (net_at tab x))) (node_at tab x) (most_at tab x)
  pub least : Lies p (q (net_at tab x)) (q (suc (net_at tab x))) (node_at tab x) (least_at tab x)

-- an entry below e stands for pin i of net a
pub record Stood (p : ℕ → AxisPin) (tab : List ℕ) (e a i : ℕ) : Type 0 where
  pub entry : ℕ
  pub lt : entry < e
  pub net : net_at tab entry ≡ a
  pub node : node_at tab entry ≡ (p i).node
  pub under : (p i).up ≤ most_at tab entry
  pub over : least_at tab entry ≤ (p i).up

-- the entries below e stand for the pins on which 9 × net + node is below k, and for no others
pub record Entered (p : ℕ → AxisPin) (q : ℕ → ℕ) (tab : List ℕ) (e k : ℕ) : Type 0 where
  pub long : length tab ≡ 1024
  pub backed : (x : ℕ) → x < e → Backed p q tab x
  pub stood : (a i : ℕ) → q a ≤ i → i < q (suc a) → 9 * a + (p i).node < k → Stood p tab e a i

-- of m pins from `from` on how many are on nodes below v
unfoldable pub on_nodes : (ℕ → AxisPin) → ℕ → ℕ → ℕ → ℕ
on_nodes p from m v = sum (λ i. when (ltb (p (from + i)).node v) 1) m

-- each entry below e has a pin of its own among those before `from` and the m from there on that are on nodes below v
pub record Few (p : ℕ → AxisPin) (from m v e : ℕ) : Type 0 where
  pub le : e ≤ from + on_nodes p from m v

-- the array is the same from place 512 on
pub record SameRest (tab out : List ℕ) : Type 0 where
  pub at : (k : ℕ) → 512 ≤ k → get_or out k 0 ≡ get_or tab k 0

-- ---- nets

-- the weights of the first j nets, and 0 for those after them
pub record Weighed (nets : List Net) (tab : List ℕ) (j : ℕ) : Type 0 where
  pub here : (a : ℕ) → a < j → weight_at tab a ≡ (get_or nets a blank_net).weight % 65536
  pub past : (a : ℕ) → j ≤ a → a < 32 → weight_at tab a ≡ 0

-- the entries of the first j nets, e of them, and their weights
pub record NetsIn (d : Direction) (nets : List Net) (pins : List Pin) (tab : List ℕ) (e j : ℕ) : Type 0 where
  pub entered : Entered (pins_on d pins) (start_of nets) tab e (9 * j)
  pub weighed : Weighed nets tab j
  pub few : e ≤ pins_before j nets

-- one net more: its entries, up to r, and nothing from place 512 on
pub record NetPut (d : Direction) (nets : List Net) (pins : List Pin) (j r : ℕ) (tab out : List ℕ) : Type 0 where
  pub entered : Entered (pins_on d pins) (start_of nets) out r (9 * (j + 1))
  pub few : r ≤ pins_before (j + 1) nets
  pub rest : SameRest tab out
