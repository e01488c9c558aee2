use Rattle.fit_faults.proofs.Faults.{wrong_count, wrong_letter, short_list, all_pass}
use Rattle.fit_faults.proofs.fit_fault.Goals as goal

pub returns-then-letters_meant-count : goal.returns-then-letters_meant-count
returns-then-letters_meant-count c = search wrong_count

pub returns-then-not-are_letters : goal.returns-then-not-are_letters
returns-then-not-are_letters c = search wrong_letter

pub returns-then-room-slots : goal.returns-then-room-slots
returns-then-room-slots c = search short_list

pub returns : goal.returns
returns c = search all_pass
