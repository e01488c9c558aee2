use Rattle.chip_text.proofs.Passing.{Whole, whole}
use Rattle.quote_page.proofs.Held.{page_held}
use Rattle.quote_page.proofs.on_page.Goals as goal

pub returns : goal.returns
returns c =
    let w : Whole c.args.c = search whole in
    page_held _ w _ c.pins_before.ensures _ c.within_page.ensures
