-- The bytes of a text: the loop has written those before i.
use borrow.Author.Rules.{rules}
use Rattle.num_text.proofs.Wrote.{wrote_none, wrote_length}
use Rattle.num_text.proofs.Writing.{byte_more, all_written}
use Rattle.num_text.proofs.put_bytes.Goals as goal

pub loop-b-init : goal.loop-b-init
loop-b-init c = search (rules, wrote_none)

pub loop-b-preserved : goal.loop-b-preserved
loop-b-preserved c = search byte_more

pub shape_of-out : goal.shape_of-out
shape_of-out c = search wrote_length

pub returns : goal.returns
returns c = search all_written
