-- Reading the text of a record gives the record, where the text is accepted.
use mathlib.Core.Path.{◌≡◌}
use Rattle.model.specs.Meaning.{Record}
use Rattle.text_grammar.specs.Reading.{accepted}
use Rattle.text_grammar.proofs.Meaning as meaning
use Rattle.record_text.specs.Text.{read_record, record_text}
use Rattle.record_text.proofs.ItemsRecord.{same_items}
use Rattle.record_text.proofs.ItemsRun.{items_formed}
use Rattle.record_text.proofs.ReadText.{record_means}

pub text_read : (r d : Record) → read_record (record_text r) ≡ accepted d → d ≡ r
unfolding read_record record_text
text_read r d e = meaning.text_read record_means same_items r d (items_formed r) e
