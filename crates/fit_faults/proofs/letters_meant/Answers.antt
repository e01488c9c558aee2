use Rattle.fit_faults.proofs.Faults.{dots_meant, letters_meant}
use Rattle.fit_faults.proofs.letters_meant.Goals as goal

pub returns-then-given-eq0 : goal.returns-then-given-eq0
returns-then-given-eq0 c = search dots_meant

pub returns : goal.returns
returns c = search letters_meant
