use Prim.Native.Nat.{◌-◌, ◌≤◌}
use Rattle.num_text.specs.Held.{Wrote}
use Rattle.text_grammar.specs.Words.{items_text}
use Rattle.text_put.specs.Run.{run}
use Rattle.measure_held.proofs.Lengths.{Before}
use Rattle.box_text.specs.Words.{box_words}
use Rattle.box_print.specs.Held.{box_line}
use Rattle.box_print.proofs.put_boxes.Given as goal

abbrev pub invariant-loop-j : goal.invariant-loop-j
invariant-loop-j l = (l.j ≤ l.c.t) × Before l.nets l.from l.j × Wrote l.initial.out l.out (items_text box_words (run (box_line l.c l.spots) 0 l.j)) l.at l.a
