use Rattle.chip_print.proofs.Values.{die_values, fix_values, mac_values, net_values_law, pin_values, end_values}
use Rattle.chip_print.proofs.values_at.Goals as goal

pub returns-in-Die : goal.returns-in-Die
returns-in-Die c = search die_values

pub returns-in-Fix : goal.returns-in-Fix
returns-in-Fix c = search fix_values

pub returns-in-Mac : goal.returns-in-Mac
returns-in-Mac c = search mac_values

pub returns-in-Net : goal.returns-in-Net
returns-in-Net c = search net_values_law

pub returns-in-Pin : goal.returns-in-Pin
returns-in-Pin c = search pin_values

pub returns-in-End : goal.returns-in-End
returns-in-End c = search end_values
