-- Differences that are kept between nine nodes: a lower bound for each two of them, held higher by 2^24 at place 9 u + v.
use Rattle.std.specs.Prelude.{ℕ, suc, ◌+◌, ◌-◌, ◌*◌, ◌/◌, ◌%◌, ◌≤◌, ◌<◌, Bool, ◌&&◌, cond, List, ltb, get_or, set}
use Rattle.axis_bounds.specs.declared.Slot.{Slot}
use Rattle.axis_bounds.specs.Listed.{slot}

-- bounds are held higher by this
abbrev pub raised : ℕ
raised = 16777216

-- the bound at a place, read modulo 2^25
abbrev pub bound_in : List ℕ → ℕ → ℕ
bound_in e c = get_or e c 0 % 33554432

-- the values x keep every difference of the table
pub record KeptBy (e : List ℕ) (x : ℕ → ℕ) : Type 0 where
  pub at : (c : ℕ) → c < 81 → x (c / 9) + bound_in e c ≤ x (c % 9) + raised

-- the values x keep the bound of a slot
abbrev pub Holds : (ℕ → ℕ) → Slot → Type 0
Holds x s = x s.tail + s.plus ≤ x s.head + s.minus

-- a slot as it is read: between two of the nine nodes, with small numbers
abbrev pub limited : Slot → Slot
limited s = slot (s.tail % 9) (s.head % 9) (s.plus % 2097152) (s.minus % 2097152)

pub record Limited (s : Slot) : Type 0 where
  pub tail : s.tail < 9
  pub head : s.head < 9
  pub plus : s.plus ≤ 2097152
  pub minus : s.minus ≤ 2097152

-- one track the other way
abbrev pub contrary : Slot → Slot
contrary s = slot s.head s.tail (suc s.minus) s.plus

abbrev pub held_bound : Slot → ℕ
held_bound s = raised + s.plus - s.minus

-- the table r stands for the table e and the bound of a slot
pub record Adds (e : List ℕ) (s : Slot) (r : List ℕ) : Type 0 where
  pub to : (x : ℕ → ℕ) → KeptBy e x → Holds x s → KeptBy r x
  pub back : (x : ℕ → ℕ) → KeptBy r x → KeptBy e x
  pub own : (x : ℕ → ℕ) → KeptBy r x → Holds x s

-- nothing keeps both the table and the slot's bound: the bound the other way is too large
unfoldable pub excluded : List ℕ → Slot → Bool
excluded e s = ltb (raised + raised) (bound_in e (s.head * 9 + s.tail) + held_bound s)

-- a node is above itself: nothing keeps the table
unfoldable pub contradicts : List ℕ → Bool
contradicts e = ltb raised (bound_in e 0)

-- ---- what the steps do

-- the bound w less 2^24 at place c, if it is above the one that stands
unfoldable pub raised_at : List ℕ → ℕ → ℕ → List ℕ
raised_at e c w = cond (ltb (raised + bound_in e c) w && ltb w 50331648) (set e c ((w - raised) % 33554432)) e

-- the table r stands for the table e, where the bound t from p to v holds
pub record Follows (e : List ℕ) (p v t : ℕ) (r : List ℕ) : Type 0 where
  pub to : (x : ℕ → ℕ) → KeptBy e x → x p + t ≤ x v + raised → KeptBy r x
  pub back : (x : ℕ → ℕ) → KeptBy r x → KeptBy e x

-- the table r stands for the table e
pub record Starts (e r : List ℕ) : Type 0 where
  pub to : (x : ℕ → ℕ) → KeptBy e x → KeptBy r x
  pub back : (x : ℕ → ℕ) → KeptBy r x → KeptBy e x
