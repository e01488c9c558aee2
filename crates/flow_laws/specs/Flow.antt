-- Values of nodes under bounds, and amounts on the slots of a graph.
--
-- A graph is given by functions on its m slots and n nodes: slot s goes from node `tail s` to node `head s` and asks of values
-- x that x (tail s) + plus s ≤ x (head s) + minus s; slot s carries the amount f s. The supply `sup k` enters the graph at
-- node k, the demand `dem k` leaves it there.
use Rattle.std.specs.Prelude.{ℕ, ◌+◌, ◌*◌, ◌≤◌, ◌<◌, ◌≡◌, eqb}
use Rattle.num_laws.specs.Sum.{sum, when}

-- the amounts of the first m slots whose end is k: the inflow of k with `head`, its outflow with `tail`
unfoldable pub at_node : (ℕ → ℕ) → (ℕ → ℕ) → ℕ → ℕ → ℕ
at_node end f m k = sum (λ s. when (eqb (end s) k) (f s)) m

-- the sum of a s × f s over the s below n
unfoldable pub weigh : (ℕ → ℕ) → (ℕ → ℕ) → ℕ → ℕ
weigh a f n = sum (λ s. a s * f s) n

-- every slot's end is a node
pub record Ends (end : ℕ → ℕ) (m n : ℕ) : Type 0 where
  pub lt : (s : ℕ) → s < m → end s < n

-- the values x keep the bound of every slot
pub record Bounds (tail head plus minus x : ℕ → ℕ) (m : ℕ) : Type 0 where
  pub le : (s : ℕ) → s < m → x (tail s) + plus s ≤ x (head s) + minus s

-- every slot that carries something is tight: its bound is an equation
pub record Tight (tail head plus minus f x : ℕ → ℕ) (m : ℕ) : Type 0 where
  pub eq : (s : ℕ) → s < m → 0 < f s → x (tail s) + plus s ≡ x (head s) + minus s

-- at each node inflow and supply equal outflow and demand
pub record Balance (tail head f sup dem : ℕ → ℕ) (m n : ℕ) : Type 0 where
  pub eq : (k : ℕ) → k < n → at_node head f m k + sup k ≡ at_node tail f m k + dem k
