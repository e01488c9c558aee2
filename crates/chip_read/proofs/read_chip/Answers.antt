use Rattle.text_grammar.proofs.Left.{length_fails, length_fits}
use Rattle.chip_text.specs.Kind.{start, chip_kind}
use Rattle.chip_text.specs.Text.{read_chip}
use Rattle.chip_read.proofs.Lines.{refuses}
use borrow.Author.Rules.{rules}
use Rattle.chip_read.proofs.read_chip.Goals as goal

pub read_lines-requires : goal.read_lines-requires
read_lines-requires c = search (rules, length_fits chip_kind start)

pub returns-then-no-ne0 : goal.returns-then-no-ne0
unfolding read_chip
returns-then-no-ne0 c =
    let ok = refuses _ _ (length_fails chip_kind start _ _ c.length_fault-no.ensures _ c.if-no-ne0.true) in
    record { result_value = ok.meant; value = ok.whole }
