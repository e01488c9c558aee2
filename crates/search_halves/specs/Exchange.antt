-- Two macros exchanged: their corners, and their numbers in pins. When the exchange leaves the nets the same.
use Rattle.std.specs.Prelude.{ℕ, zero, suc, ◌<◌, ◌≡◌, List, cond, eqb, length, get_or, set}
use Rattle.model.specs.declared.Spot.{Spot}
use Rattle.model.specs.Meaning.{Pin, Net, Chip, blank_mac, blank_spot}
use Rattle.chip_text.specs.Valid.{no_pin, no_net}

-- macros are counted from 0 here

-- j for i, i for j
unfoldable pub turned : ℕ → ℕ → ℕ → ℕ
turned i j k = cond (eqb k i) j (cond (eqb k j) i k)

-- the corners of macros i and j exchanged
abbrev pub exchanged : ℕ → ℕ → List Spot → List Spot
exchanged i j ps = set (set ps i (get_or ps j blank_spot)) j (get_or ps i blank_spot)

-- the number of a pin's macro, 0 for a pad
abbrev pub renumbered : ℕ → ℕ → ℕ → ℕ
renumbered i j zero = 0
renumbered i j (suc k) = suc (turned i j k)

abbrev pub other_pin : ℕ → ℕ → Pin → Pin
other_pin i j p = record { m = renumbered i j p.m; x = p.x; y = p.y }

-- p is one of the pins
pub record OneOf (ps : List Pin) (p : Pin) : Type 0 where
  pub place : ℕ
  pub lt : place < length ps
  pub is : get_or ps place no_pin ≡ p

abbrev pub net_at : Chip → ℕ → Net
net_at c a = get_or c.nets a no_net

-- macros i and j have one size, and their exchange turns each net into its mate: of the same weight, with every pin of the net, exchanged
pub record Alike (c : Chip) (i j : ℕ) : Type 0 where
  pub first : i < length c.macs
  pub second : j < length c.macs
  pub size : get_or c.macs i blank_mac ≡ get_or c.macs j blank_mac
  pub mate : ℕ → ℕ
  pub inside : (a : ℕ) → a < length c.nets → mate a < length c.nets
  pub back : (a : ℕ) → a < length c.nets → mate (mate a) ≡ a
  pub weight : (a : ℕ) → a < length c.nets → (net_at c (mate a)).weight ≡ (net_at c a).weight
  pub pins : (a : ℕ) → a < length c.nets → (k : ℕ) → k < length (net_at c a).pins
      → OneOf (net_at c (mate a)).pins (other_pin i j (get_or (net_at c a).pins k no_pin))
