use Rattle.std.proofs.Common.{subst}
use Rattle.fmp_base.specs.Systems.{SystemTables}
use Rattle.fmp_witness.specs.Findings.{HasForbidden}
use Rattle.fmp_witness.proofs.SeenThere.{line_there}
use Rattle.fmp_witness.proofs.finding.tells_forbidden.Goals as goal

pub returns : goal.returns
returns c = λ yes.
    let s = c.args.subject.now in
    line_there s.image.now s.n c.args.steps.now c.args.kernel.now c.requires s.question.now c.args.place
    (subst
    (λ (sys : SystemTables). HasForbidden sys s.question.now c.args.kernel.now.world c.args.kernel.now.lines
    c.args.place)
    c.system.ensures.tables (c.has_forbidden.ensures yes))
