use Rattle.std.proofs.Common.{◌≡◌, arith}
use Rattle.fmp_lex.proofs.Windows.{passed_end, passed_start}
use Rattle.fmp_lex.proofs.window.Window.start.Goals as goal

pub returns-in-Some-clause-passed : goal.returns-in-Some-clause-passed
returns-in-Some-clause-passed c = λ before passed.
    let start = c.in-Some.start in
    let found = passed_start c.args.self.now before c.args.at start c.in-Some.ensures passed in
    let same : c.min.result ≡ start = omega (arith, c.min.ensures, found.1) in
    rw same found.0

pub returns-in-None-clause-passed : goal.returns-in-None-clause-passed
returns-in-None-clause-passed c = λ before passed.
    passed_end c.args.self.now before c.args.at c.in-None.ensures passed
