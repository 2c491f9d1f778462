use Rattle.fmp_arguments.proofs.Lines.{whole_wrong}
use Rattle.fmp_arguments.proofs.settings_faults.member_fault.Goals as goal

pub returns-in-Through : goal.returns-in-Through
returns-in-Through c =
    let begins = rw c.in-Through.is at c.in_ok-line.ensures in
    whole_wrong c.args.folder.now c.args.keys.now c.args.text.now c.in-Through.line c.args.wrong begins c.requires
