use Prim.Native.Nat.{◌-◌}
use Rattle.num_text.proofs.Wrote.{wrote_length}
use Rattle.text_put.proofs.Items.{run_none}
use Rattle.record_text.specs.Words.{record_words}
use Rattle.record_print.proofs.Printed.{spot_more, spots_all}
use borrow.Author.Rules.{rules}
use Rattle.record_print.proofs.put_spots.Goals as goal

pub loop-i-init : goal.loop-i-init
loop-i-init c = search (rules, run_none record_words)

pub loop-i-preserved : goal.loop-i-preserved
loop-i-preserved c = search (rules, spot_more)

pub shape_of-out : goal.shape_of-out
shape_of-out c = search (rules, wrote_length)

pub returns : goal.returns
returns c = search (rules, spots_all)
