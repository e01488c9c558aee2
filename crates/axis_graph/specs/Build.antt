-- The graphs of an axis as the code builds them: slots in an array, those past the last asking nothing.
use Rattle.std.specs.Prelude.{ℕ, suc, ◌≤◌, ◌<◌, ◌≡◌, List, length, get_or, replicate}
use Rattle.std.proofs.lemmas.List.Edits.{sets}
use Rattle.axis_bounds.specs.declared.Slot.{Slot}
use Rattle.axis_bounds.specs.declared.AxisNet.{AxisNet}
use Rattle.axis_bounds.specs.Axis.{Axis, no_slot, no_net}
use Rattle.axis_bounds.specs.Listed.{die_slots, hi_node, lo_node, node_count}
use Rattle.axis_bounds.specs.Graph.{graph_slots, macro_slots}
use Rattle.axis_graph.specs.declared.Graph.{Graph}
use Rattle.axis_graph.specs.declared.Span.{Span}
use Rattle.axis_graph.specs.Limits.{slot_room}
use Rattle.axis_graph.specs.Solved.{no_span}

-- an array with the slots of a list
abbrev pub slots_from : List Slot → List Slot
slots_from ss = sets (replicate slot_room no_slot) 0 ss

-- macros and pairs, with the macros' slots alone
abbrev pub die_graph : Axis → Graph
die_graph a = record { n = suc (length a.sizes); m = length (macro_slots a); slots = slots_from (die_slots a.side 1 a.sizes) }

-- macros and pairs
abbrev pub macro_graph : Axis → Graph
macro_graph a = record { n = suc (length a.sizes); m = length (macro_slots a); slots = slots_from (macro_slots a) }

-- the whole graph
abbrev pub whole_graph : Axis → Graph
whole_graph a = record { n = node_count a; m = length (graph_slots a); slots = slots_from (graph_slots a) }

-- the ends and weights of the first t nets, of n macros; 0 past the last
pub record SpansTo (n : ℕ) (ts : List AxisNet) (t : ℕ) (r : List Span) : Type 0 where
  pub at : (j : ℕ) → j < t → get_or r j no_span ≡ record { lo = lo_node n j; hi = hi_node n j; weight = (get_or ts j no_net).weight }
  pub rest : (j : ℕ) → t ≤ j → get_or r j no_span ≡ no_span
