use Rattle.std.proofs.Common.{nat_eq, sym}
use Rattle.fmp_expect.proofs.Splitting.{before_at, before_none}
use Rattle.fmp_expect.proofs.words.before_comment.Goals as goal

pub returns-in-Some : goal.returns-in-Some
returns-in-Some c = before_at (λ b. nat_eq b 35) c.args.line.now c.in-Some.place (sym c.in-Some.ensures)

pub returns-in-None : goal.returns-in-None
returns-in-None c = before_none (λ b. nat_eq b 35) c.args.line.now (sym c.in-None.ensures)
