use Rattle.chip_text.proofs.Fixes.{box_clear}
use Rattle.chip_text.proofs.clear_of_fixes.Goals as goal

pub returns : goal.returns
returns c = search box_clear
