-- Nets and pins as a chip's arrays hold them, with macros i and j exchanged. Macros are counted from 0.
use Rattle.std.specs.Prelude.{ℕ, suc, ◌≤◌, ◌<◌, ◌≡◌, List, get_or}
use Rattle.model.specs.declared.Net.{Net}
use Rattle.model.specs.declared.Pin.{Pin}
use Rattle.model.specs.Meaning.{blank_net, blank_pin}
use Rattle.model.specs.Limits.{most_pins}
use Rattle.chip_text.specs.Valid.{pins_before}
use Rattle.search_halves.specs.Exchange.{renumbered}

-- a pin with the two macros exchanged
abbrev pub other_held : ℕ → ℕ → Pin → Pin
other_held i j p = record { m = renumbered i j p.m; xup = p.xup; yup = p.yup }

-- p is one of the pins from `from` to before `to`
pub record Within (pins : List Pin) (from to : ℕ) (p : Pin) : Type 0 where
  pub place : ℕ
  pub low : from ≤ place
  pub high : place < to
  pub is : get_or pins place blank_pin ≡ p

-- each pin from `from` to before `to`, exchanged, is one of those from `low` to before `high`
pub record Covers (pins : List Pin) (i j from to low high : ℕ) : Type 0 where
  pub at : (k : ℕ) → from ≤ k → k < to → Within pins low high (other_held i j (get_or pins k blank_pin))

-- net b has the weight of net a, and each of its pins exchanged
pub record Turns (nets : List Net) (pins : List Pin) (i j a b : ℕ) : Type 0 where
  pub weight : (get_or nets b blank_net).weight ≡ (get_or nets a blank_net).weight
  pub covers : Covers pins i j (pins_before a nets) (pins_before (suc a) nets) (pins_before b nets) (pins_before (suc b) nets)

-- the first k of t nets have mates: each the other's mate, and the other one exchanged
pub record MatesTo (nets : List Net) (pins : List Pin) (t i j : ℕ) (mates : List ℕ) (k : ℕ) : Type 0 where
  pub inside : (a : ℕ) → a < k → get_or mates a 0 < t
  pub back : (a : ℕ) → a < k → get_or mates (get_or mates a 0) 0 ≡ a
  pub turns : (a : ℕ) → a < k → Turns nets pins i j a (get_or mates a 0)

-- the pins of t nets fit, and the nets have mates
pub record NetsAlike (nets : List Net) (pins : List Pin) (t i j : ℕ) : Type 0 where
  pub fit : pins_before t nets ≤ most_pins
  pub mates : List ℕ
  pub all : MatesTo nets pins t i j mates t
