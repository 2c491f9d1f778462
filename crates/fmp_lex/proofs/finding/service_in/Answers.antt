use Rattle.std.proofs.Common.{rules, ◌≡◌}
use Rattle.fmp_lex.proofs.Placed.{service_placed, service_stands}
use Rattle.fmp_lex.proofs.finding.service_in.Goals as goal

pub returns : goal.returns
returns c = λ k e.
    let placed : c.word_at.result ≡ service_placed c.args.bytes.now = search rules in
    rw placed (rw e (service_stands k))
