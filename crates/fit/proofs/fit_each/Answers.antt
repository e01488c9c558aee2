use Rattle.fit.proofs.Answering.{direction_told, each_answered}
use borrow.Author.Rules.{rules}
use Rattle.fit.proofs.fit_each.Goals as goal

pub answer_of-requires : goal.answer_of-requires
answer_of-requires c =
    record {
      asking = search rules;
      directed = search direction_told;
      second = search rules;
    }

pub returns : goal.returns
returns c = search each_answered
