use Rattle.search_letters.proofs.Turning.{none_tried, four_tried}
use Rattle.search_letters.proofs.try_letters.Goals as goal

pub loop-i-init : goal.loop-i-init
loop-i-init c = search none_tried

pub returns : goal.returns
returns c = search four_tried
