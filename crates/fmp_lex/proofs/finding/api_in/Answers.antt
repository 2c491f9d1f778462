use Rattle.std.proofs.Common.{rules, ◌≡◌}
use Rattle.fmp_lex.proofs.Placed.{api_placed, api_stands}
use Rattle.fmp_lex.proofs.finding.api_in.Goals as goal

pub returns : goal.returns
returns c = λ k e.
    let placed : c.word_at.result ≡ api_placed c.args.bytes.now = search rules in
    rw placed (rw e (api_stands k))
