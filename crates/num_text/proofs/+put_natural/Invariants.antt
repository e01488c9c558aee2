-- The digits of a number: the recursion goes on n / 10.
use Rattle.num_text.proofs.+put_natural.Given as goal

abbrev pub decreases-put_natural : goal.decreases-put_natural
decreases-put_natural l = l.n
