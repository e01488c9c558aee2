use Rattle.measure_nets.proofs.Places.{place_told}
use Rattle.measure_nets.proofs.place_of.Goals as goal

pub returns : goal.returns
returns c = search place_told
