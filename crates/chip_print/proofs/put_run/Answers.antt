use Rattle.text_put.proofs.Items.{run_none, run_more, run_all}
use Rattle.chip_text.specs.Words.{chip_words}
use Prim.Native.Nat.{◌-◌}
use Rattle.num_text.proofs.Wrote.{wrote_length}
use borrow.Author.Rules.{rules}
use Rattle.chip_print.proofs.put_run.Goals as goal

pub loop-i-init : goal.loop-i-init
loop-i-init c = search (rules, run_none chip_words)

pub loop-i-preserved : goal.loop-i-preserved
loop-i-preserved c = search (rules, run_more chip_words)

pub shape_of-out : goal.shape_of-out
shape_of-out c = search (rules, wrote_length)

pub returns : goal.returns
returns c = search (rules, run_all chip_words)
