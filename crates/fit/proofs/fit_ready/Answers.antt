use Rattle.fit.proofs.Answering.{own_asked, own_answered, dots_within, dots_counted, dots_asked, dots_answered}
use borrow.Author.Rules.{rules}
use Rattle.fit.proofs.fit_ready.Goals as goal

pub fit_each-requires : goal.fit_each-requires
fit_each-requires c =
    record {
      asking = search own_asked;
      m_in_bounds = search rules;
    }

pub returns-then-letters-ne0 : goal.returns-then-letters-ne0
returns-then-letters-ne0 c = search own_answered

pub slice_bounds-dots-end : goal.slice_bounds-dots-end
slice_bounds-dots-end c = search dots_within

pub slice_bounds-fit_each-end : goal.slice_bounds-fit_each-end
slice_bounds-fit_each-end c = search (rules, dots_counted)

pub fit_each-requires-2 : goal.fit_each-requires-2
fit_each-requires-2 c =
    record {
      asking = search dots_asked;
      m_in_bounds = search rules;
    }

pub returns : goal.returns
returns c = search dots_answered
