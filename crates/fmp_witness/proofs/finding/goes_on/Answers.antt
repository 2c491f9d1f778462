use Rattle.std.proofs.Common.{sym, ◌∙◌}
use Rattle.fmp_witness.proofs.Following.{followed_body}
use Rattle.fmp_witness.proofs.SeenThere.{endless_there}
use Rattle.fmp_witness.proofs.finding.goes_on.Goals as goal

pub is_endless-requires : goal.is_endless-requires
is_endless-requires c =
    let s = c.args.subject.now in
    c.vm.ensures ∙ sym (followed_body s.image.now s.n c.args.steps.now c.args.kernel.now c.requires)

pub returns : goal.returns
returns c = λ yes.
    let s = c.args.subject.now in
    endless_there s.image.now s.n c.args.steps.now c.args.kernel.now c.requires c.args.p
    (c.is_endless.ensures yes)
