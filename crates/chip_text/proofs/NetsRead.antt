-- The nets of a chip while it is read: all are valid, but that the last may have no pin yet.
use Prim.{Unit, tt}
use Prim.Native.Nat.{ℕ, zero, suc, ◌+◌, ◌≤◌, ◌<◌}
use native.Mathlib.Nat.{le_of_suc-le-suc}
use native.Mathlib.Omega.{arith}
use mathlib.Core.Path.{◌≡◌, refl}
use mathlib.Core.Bool.{Bool, true, false}
use mathlib.Core.List.{List, [], ◌∷◌, ◌++◌}
use lib.ListN.{length, get_or, length-append}
use Rattle.model.specs.Meaning.{Pin, Net}
use Rattle.text_grammar.proofs.Every.{Every}
use Rattle.chip_text.specs.Kind.{pin_count, add_pin}
use Rattle.chip_text.specs.Valid.{Between, ValidPin, ValidNet, no_pin}

-- what holds of every element holds of the element at i
pub every_at : {A : Type 0} (P : A → Type 0) (d : A) (s : List A) → Every P s → (i : ℕ) → i < length s → P (get_or s i d)
every_at P d [] e i h = absurd (omega arith)
every_at P d (a ∷ s) e zero h = e.0
every_at P d (a ∷ s) e (suc i) h = every_at P d s e.1 i (le_of_suc-le-suc h)

-- what holds at each index, with one element more at the end
pub each_snoc : {A : Type 0} (P : A → Type 0) (d : A) (s : List A) (a : A) → ((i : ℕ) → i < length s → P (get_or s i d)) → P a → (i : ℕ) → i < length (s ++ (a ∷ [])) → P (get_or (s ++ (a ∷ [])) i d)
each_snoc P d [] a f p zero h = p
each_snoc P d [] a f p (suc i) h = absurd (omega arith)
each_snoc P d (b ∷ s) a f p zero h = f 0 (omega arith)
each_snoc P d (b ∷ s) a f p (suc i) h = each_snoc P d s a (λ j g. f (suc j) (omega arith)) p i (le_of_suc-le-suc h)

-- ---- counts

pub count_net : (ts : List Net) (t : Net) → pin_count (ts ++ (t ∷ [])) ≡ pin_count ts + length t.pins
unfolding pin_count
count_net [] t = omega arith
count_net (u ∷ ts) t = let q = count_net ts t in omega arith

pub count_pin : (p : Pin) (ts : List Net) → pin_count (add_pin p ts) ≤ suc (pin_count ts)
unfolding pin_count add_pin
count_pin p [] = omega arith
count_pin p (t ∷ []) = rw length-append (omega arith)
count_pin p (t ∷ (u ∷ ts)) = let q = count_pin p (u ∷ ts) in omega arith

pub length_pin : (p : Pin) (ts : List Net) → length (add_pin p ts) ≡ length ts
unfolding add_pin
length_pin p [] = refl
length_pin p (t ∷ []) = refl
length_pin p (t ∷ (u ∷ ts)) = let q = length_pin p (u ∷ ts) in omega arith

-- ---- nets of a chip with more macros

module _ (n m : ℕ) (h : n ≤ m) where
  pin_more : (p : Pin) → ValidPin n p → ValidPin m p
  pin_more p v = let q = v.macro in record { macro = omega arith; x = v.x; y = v.y }

  net_more : (t : Net) → ValidNet n t → ValidNet m t
  net_more t v = record { weight = v.weight; some = v.some; pin = λ i g. pin_more (get_or t.pins i no_pin) (v.pin i g) }

  pub nets_more : (ts : List Net) → Every (ValidNet n) ts → Every (ValidNet m) ts
  nets_more [] e = tt
  nets_more (t ∷ ts) e = (net_more t e.0, nets_more ts e.1)

-- ---- nets of a chip with n macros

module _ (n : ℕ) where
  -- a net that is valid but may have no pin
  pub record Begun (t : Net) : Type 0 where
    pub weight : Between 1 t.weight 1000
    pub pin : (i : ℕ) → i < length t.pins → ValidPin n (get_or t.pins i no_pin)

  abbrev LastBegun : List Net → Type 0
  LastBegun [] = Unit {0}
  LastBegun (t ∷ []) = Begun t
  LastBegun (t ∷ (u ∷ ts)) = ValidNet n t × LastBegun (u ∷ ts)

  -- the nets so far, where the last line is a net (true) or another one (false)
  abbrev pub NetsRead : Bool → List Net → Type 0
  NetsRead true ts = LastBegun ts
  NetsRead false ts = Every (ValidNet n) ts

  begun : (b : Bool) (ts : List Net) → NetsRead b ts → LastBegun ts
  begun true ts e = e
  begun false [] e = tt
  begun false (t ∷ []) e = record { weight = e.0.weight; pin = e.0.pin }
  begun false (t ∷ (u ∷ ts)) e = (e.0, begun false (u ∷ ts) e.1)

  pub net_read : (ts : List Net) (t : Net) → NetsRead false ts → Begun t → NetsRead true (ts ++ (t ∷ []))
  net_read [] t e b = b
  net_read (u ∷ []) t e b = (e.0, b)
  net_read (u ∷ (v ∷ ts)) t e b = (e.0, net_read (v ∷ ts) t e.1 b)

  with_pin_law : (t : Net) (p : Pin) → Begun t → ValidPin n p → ValidNet n (record { weight = t.weight; pins = t.pins ++ (p ∷ []) })
  with_pin_law t p b v = record { weight = b.weight; some = rw length-append (omega arith); pin = each_snoc (ValidPin n) no_pin t.pins p b.pin v }

  last_pin : (p : Pin) (ts : List Net) → ValidPin n p → LastBegun ts → Every (ValidNet n) (add_pin p ts)
  unfolding add_pin
  last_pin p [] v e = tt
  last_pin p (t ∷ []) v e = (with_pin_law t p e v, tt)
  last_pin p (t ∷ (u ∷ ts)) v e = (e.0, last_pin p (u ∷ ts) v e.1)

  pub pin_read : (b : Bool) (p : Pin) (ts : List Net) → ValidPin n p → NetsRead b ts → NetsRead false (add_pin p ts)
  pin_read b p ts v e = last_pin p ts v (begun b ts e)
