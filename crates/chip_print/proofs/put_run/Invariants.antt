use Rattle.chip_text.specs.Words.{chip_words}
use Prim.Native.Nat.{◌-◌, ◌≤◌}
use Rattle.num_text.specs.Held.{Wrote}
use Rattle.text_grammar.specs.Words.{items_text}
use Rattle.text_put.specs.Run.{run}
use Rattle.chip_print.specs.Items.{item_at}
use Rattle.chip_print.proofs.put_run.Given as goal

abbrev pub invariant-loop-i : goal.invariant-loop-i
invariant-loop-i l = Wrote l.initial.out l.out (items_text chip_words (run (item_at l.c l.w) l.q l.i)) l.at l.a
