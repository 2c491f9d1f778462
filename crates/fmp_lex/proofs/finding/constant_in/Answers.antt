use Rattle.std.proofs.Common.{rules, ◌≡◌}
use Rattle.fmp_lex.proofs.Placed.{constant_placed, constant_stands}
use Rattle.fmp_lex.proofs.finding.constant_in.Goals as goal

pub returns : goal.returns
returns c = λ k e.
    let placed : c.word_at.result ≡ constant_placed c.args.bytes.now = search rules in
    rw placed (rw e (constant_stands k))
