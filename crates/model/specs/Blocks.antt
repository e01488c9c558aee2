-- The blocks of a chip, its macros and fixes, as the program holds them: what its pairs are made of.
use Rattle.std.specs.Prelude.{[]}
use Rattle.model.specs.declared.Chip.{Chip as HeldChip}
use Rattle.model.specs.declared.Blocks.{Blocks}
use Rattle.model.specs.Meaning.{Chip, first_of, blank_fix, blank_mac}

abbrev pub blocks_of : HeldChip → Blocks
blocks_of c = record { n = c.n; macs = c.macs; k = c.k; fixes = c.fixes }

-- a chip with these blocks and no more
abbrev pub bare_of : Blocks → Chip
bare_of b = record { die = record { w = 0; h = 0 }; fixes = first_of blank_fix b.k b.fixes; macs = first_of blank_mac b.n b.macs; nets = [] }
