use Rattle.model.specs.Meaning.{chip_of}
use Rattle.measure_list.proofs.Lists.{eight_measured}
use Rattle.measure_list.proofs.measure_list.Goals as goal

pub returns : goal.returns
returns c =
    eight_measured (chip_of c.args.c) c.args.spots.now _ _ _ _ _ _ _ _ _
    c.spot_or.ensures c.spot_or-2.ensures c.spot_or-3.ensures c.spot_or-4.ensures c.spot_or-5.ensures c.spot_or-6.ensures c.spot_or-7.ensures c.spot_or-8.ensures
    c.measure_eight.ensures
