use Rattle.test_vectors.proofs.Products.{pairs_fit}
use borrow.Author.Rules.{rules}
use Rattle.test_vectors.proofs.count.pair_slot.Goals as goal

pub overflow_mul-both : goal.overflow_mul-both
overflow_mul-both c = search (rules, pairs_fit)
