use Rattle.text_grammar.proofs.Left.{length_fails, length_fits}
use Rattle.record_text.specs.Kind.{start, record_kind}
use Rattle.record_text.specs.Text.{read_record}
use Rattle.record_read.proofs.Lines.{refuses}
use borrow.Author.Rules.{rules}
use Rattle.record_read.proofs.read_record.Goals as goal

pub read_lines-requires : goal.read_lines-requires
read_lines-requires c = search (rules, length_fits record_kind start)

pub returns-then-no-ne0 : goal.returns-then-no-ne0
unfolding read_record
returns-then-no-ne0 c =
    let ok = refuses _ _ (length_fails record_kind start _ _ c.length_fault-no.ensures _ c.if-no-ne0.true) in
    record { result_value = ok.meant; value = ok.whole }
