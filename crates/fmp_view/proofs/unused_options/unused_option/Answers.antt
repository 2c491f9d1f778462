use Rattle.std.proofs.Common.{sym}
use Rattle.fmp_view.proofs.unused_options.unused_option.Goals as goal

pub returns-in-Some : goal.returns-in-Some
returns-in-Some c = rw (sym c.in-Some.ensures) c.first_unused.ensures.unused
