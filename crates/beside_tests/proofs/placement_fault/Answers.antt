use Rattle.beside_tests.proofs.Faults.{other_count, illegal, other_length_law, all_pass}
use Rattle.beside_tests.proofs.placement_fault.Goals as goal

pub returns-then-count-c : goal.returns-then-count-c
returns-then-count-c c = search other_count

pub returns-then-not-is_legal : goal.returns-then-not-is_legal
returns-then-not-is_legal c = search illegal

pub returns-then-wl-length_of : goal.returns-then-wl-length_of
returns-then-wl-length_of c = search other_length_law

pub returns : goal.returns
returns c = search all_pass
