use Rattle.std.proofs.Common.{rules}
use Rattle.text_grammar.proofs.OneLine.{word_long}
use Rattle.text_walk.proofs.Walking.{unknown, in_table, word_stops, word_goes_on}
use Rattle.text_walk.proofs.walk_bytes.Goals as goal

pub slice_bounds-find_word-end : goal.slice_bounds-find_word-end
slice_bounds-find_word-end c = search word_long

pub returns-in_default : goal.returns-in_default
returns-in_default c = unknown _ _ _ _ _ _ c.bytes_before-size.ensures c.in_default.ensures

pub returns-then-no-ne0 : goal.returns-then-no-ne0
returns-then-no-ne0 c = word_stops _ _ _ _ _ _ c.bytes_before-size.ensures _ c.in-Some.ensures _ c.entry_fault-no.ensures c.if-no-ne0.true

pub returns : goal.returns
returns c = word_goes_on _ _ _ _ _ _ c.bytes_before-size.ensures _ c.in-Some.ensures _ c.entry_fault-no.ensures c.if-no-ne0.false
