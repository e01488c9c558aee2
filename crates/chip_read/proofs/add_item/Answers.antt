use Rattle.text_grammar.proofs.Entry.{entered_as}
use Rattle.chip_read.proofs.Item.{read_as_is, taken_as, end_taken}
use borrow.Author.Rules.{rules}
use Rattle.chip_read.proofs.add_item.Goals as goal

pub add_die-requires : goal.add_die-requires
add_die-requires c = search (rules, read_as_is)

pub add_fix-requires : goal.add_fix-requires
add_fix-requires c = search (rules, read_as_is, entered_as)

pub add_mac-requires : goal.add_mac-requires
add_mac-requires c = search (rules, read_as_is, entered_as)

pub add_net-requires : goal.add_net-requires
add_net-requires c = search (rules, read_as_is, entered_as)

pub add_pin-requires : goal.add_pin-requires
add_pin-requires c = search (rules, read_as_is, entered_as)

pub returns-in-Die : goal.returns-in-Die
returns-in-Die c = search taken_as

pub returns-in-Fix : goal.returns-in-Fix
returns-in-Fix c = search taken_as

pub returns-in-Mac : goal.returns-in-Mac
returns-in-Mac c = search taken_as

pub returns-in-Net : goal.returns-in-Net
returns-in-Net c = search taken_as

pub returns-in-Pin : goal.returns-in-Pin
returns-in-Pin c = search taken_as

pub returns-in-End : goal.returns-in-End
returns-in-End c = search end_taken
