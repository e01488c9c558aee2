use Rattle.fit_axes.proofs.Pairing.{Writing}
use Rattle.fit_axes.proofs.pairlist.pair_slots.Given as goal

-- s slots are written, and the cursor is at the pair of letter s
abbrev pub invariant-loop-s : goal.invariant-loop-s
invariant-loop-s l = Writing l.c l.letters l.d l.pairs l.at l.s
