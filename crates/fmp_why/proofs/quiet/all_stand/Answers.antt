use Rattle.std.proofs.Common.{◌∙◌, sym}
use Rattle.fmp_why.proofs.ReportLemmas.{none-stand}
use Rattle.fmp_why.proofs.quiet.all_stand.Goals as goal

pub returns-in_default : goal.returns-in_default
returns-in_default c = sym (none-stand _ _ c.in_default.len_below) ∙ c.loop-cpu.invariant
