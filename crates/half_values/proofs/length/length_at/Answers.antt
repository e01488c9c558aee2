use Rattle.half_values.proofs.Lengths.{terms_none, term_fits, terms_fits, terms_more, terms_all}
use Rattle.half_values.proofs.length.length_at.Goals as goal

pub loop-j-init : goal.loop-j-init
loop-j-init c = search terms_none

pub overflow_mul-l : goal.overflow_mul-l
overflow_mul-l c = search term_fits

pub overflow_add-l : goal.overflow_add-l
overflow_add-l c = search terms_fits

pub loop-j-preserved : goal.loop-j-preserved
loop-j-preserved c = search terms_more

pub returns : goal.returns
returns c = search terms_all
