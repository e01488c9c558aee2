use mathlib.Core.Path.{◌≡◌, ◌∙◌}
use Prim.Native.Nat.{min}
use native.Mathlib.Omega.{arith}
use Rattle.std.proofs.Common.{rules}
use Rattle.chip_pins.proofs.Counting.{count_none, count_more, count_all}
use Rattle.chip_pins.proofs.pins_before.Goals as goal

pub loop-k-init : goal.loop-k-init
loop-k-init c = count_none c.args.nets

pub loop-k-preserved : goal.loop-k-preserved
loop-k-preserved c = search (rules, count_more)

pub returns : goal.returns
returns c = let wf = c.well_formed in let h : c.loop-k.k ≡ min c.args.j 32 = omega arith in search (rules, count_all)
