use Prim.Native.Nat.{◌≤◌, ◌-◌}
use Rattle.num_text.specs.Held.{Wrote}
use Rattle.text_grammar.specs.Words.{items_text}
use Rattle.text_put.specs.Run.{run}
use Rattle.record_text.specs.Words.{record_words}
use Rattle.record_print.proofs.Printed.{spot_item}
use Rattle.record_print.proofs.put_spots.Given as goal

abbrev pub invariant-loop-i : goal.invariant-loop-i
invariant-loop-i l = Wrote l.initial.out l.out (items_text record_words (run (spot_item l.spots) 0 l.i)) l.at l.a
