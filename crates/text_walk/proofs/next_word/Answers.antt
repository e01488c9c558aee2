use Rattle.std.proofs.Common.{rules}
use Rattle.text_walk.proofs.Walking.{no_feed, line_walked}
use Rattle.text_walk.proofs.next_word.Goals as goal

pub returns-then-text-end : goal.returns-then-text-end
returns-then-text-end c = search no_feed

pub returns : goal.returns
returns c = search (rules, line_walked)
