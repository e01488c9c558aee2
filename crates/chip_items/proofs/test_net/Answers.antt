use Prim.Native.Nat.{◌<◌}
use native.Mathlib.Omega.{arith}
use Rattle.chip_items.proofs.Tests.{in_count}
use Rattle.chip_items.proofs.NetTests.{net_refused, pins_answer}
use Rattle.chip_items.proofs.test_net.Goals as goal

pub returns-then-no-ne0 : goal.returns-then-no-ne0
returns-then-no-ne0 c = search net_refused

pub offset_bounds-nets-j : goal.offset_bounds-nets-j
offset_bounds-nets-j c = let h : c.args.j < 32 = search in_count in omega arith

pub bounds-nets-j : goal.bounds-nets-j
bounds-nets-j c = search in_count

pub returns : goal.returns
returns c = search pins_answer
