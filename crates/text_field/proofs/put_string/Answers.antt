use Rattle.text_grammar.proofs.Cut.{part_end, part_end_fits}
use Rattle.text_field.proofs.OneField.{no_string, string_bytes}
use borrow.Author.Rules.{rules}
use Rattle.text_field.proofs.put_string.Goals as goal

pub returns-then-source-v : goal.returns-then-source-v
returns-then-source-v c = search (rules, no_string)

pub overflow_add-b : goal.overflow_add-b
overflow_add-b c = search (rules, part_end_fits)

pub slice_bounds-put_bytes-end : goal.slice_bounds-put_bytes-end
slice_bounds-put_bytes-end c = search (rules, part_end)

pub returns : goal.returns
returns c = search (rules, string_bytes)
