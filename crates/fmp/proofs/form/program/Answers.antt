use Rattle.std.proofs.Common.{Ok, refl}
use Rattle.fmp.specs.Form.{bare_fmp, build, check, host, sim}
use Rattle.fmp.proofs.Growing.{one_command, plain}
use Rattle.fmp.proofs.form.program.Goals as goal

pub returns : goal.returns
returns c =
    let one = one_command (Ok c.bare.result) c.check_command.result _ bare_fmp check c.bare.ensures
    c.check_command.ensures c.with_command-program.ensures in
    let two = one_command c.with_command-program.result c.build_command.result _ _ build one c.build_command.ensures
    c.with_command-program-2.ensures in
    let three = one_command c.with_command-program-2.result c.sim_command.result _ _ sim two c.sim_command.ensures
    c.with_command-program-3.ensures in
    one_command c.with_command-program-3.result c.host_command.result _ _ host three c.host_command.ensures
    c.with_command.ensures

pub with_command-program-requires : goal.with_command-program-requires
with_command-program-requires c = plain c.check_command.result check refl c.check_command.ensures

pub with_command-program-requires-2 : goal.with_command-program-requires-2
with_command-program-requires-2 c = plain c.build_command.result build refl c.build_command.ensures

pub with_command-program-requires-3 : goal.with_command-program-requires-3
with_command-program-requires-3 c = plain c.sim_command.result sim refl c.sim_command.ensures

pub with_command-requires : goal.with_command-requires
with_command-requires c = plain c.host_command.result host refl c.host_command.ensures
