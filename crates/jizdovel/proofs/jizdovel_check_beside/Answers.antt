use Rattle.jizdovel.proofs.Handing.{beside_handed}
use Rattle.jizdovel.proofs.jizdovel_check_beside.Goals as goal

pub returns : goal.returns
returns c = search beside_handed
