use Rattle.test_vectors.proofs.Products.{product_fits}
use borrow.Author.Rules.{rules}
use Rattle.test_vectors.proofs.count.product.Goals as goal

pub overflow_mul-result : goal.overflow_mul-result
overflow_mul-result c = search (rules, product_fits)
