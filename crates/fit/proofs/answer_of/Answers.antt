use Rattle.fit.proofs.Answering.{has_coordinates, no_coordinates, second_coordinates, no_second}
use borrow.Author.Rules.{rules}
use Rattle.fit.proofs.answer_of.Goals as goal

pub returns-then-not-is_solved : goal.returns-then-not-is_solved
returns-then-not-is_solved c = search no_coordinates

pub returns-then-not-is_solved-2 : goal.returns-then-not-is_solved-2
returns-then-not-is_solved-2 c = search no_second

pub placed-requires : goal.placed-requires
placed-requires c =
    record {
      asking = search rules;
      solved_by = search has_coordinates;
      solved_by_2 = search second_coordinates;
    }
