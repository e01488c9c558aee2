-- When a slot is the parent of a node.
use Rattle.std.specs.Prelude.{ℕ, ◌<◌, ◌≡◌, ◌⊎◌}
use Rattle.axis_bounds.specs.declared.Slot.{Slot}

-- slot s, which carries a, leads to k from a node before it; t, h, r: the ranks of its tail, its head and of k
pub record Tied (s : Slot) (k a t h r : ℕ) : Type 0 where
  pub way : ((s.head ≡ k) × (t < r)) ⊎ ((s.tail ≡ k) × (h < r) × (0 < a))
