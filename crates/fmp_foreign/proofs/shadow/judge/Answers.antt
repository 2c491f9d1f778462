use Rattle.std.proofs.Common.{◌≡◌, ◌≢◌, ◌∙◌, Some, ap, sym}
use Rattle.fmp_base.specs.Stretches.{ending}
use Rattle.fmp_outside.specs.Outside.{act_of}
use Rattle.fmp_foreign.proofs.Judging.{other_differs, same_follows}
use Rattle.fmp_foreign.proofs.shadow.judge.Goals as goal

pub returns-then-is_same-clause-follows : goal.returns-then-is_same-clause-follows
returns-then-is_same-clause-follows g c =
    let x = ending c.in-Some.stretch in
    let made : act_of x ≡ Some c.in-Some-of.made = sym c.of.ensures ∙ c.in-Some-of.is in
    let same : c.in-Some-of.made ≡ c.in-Act.act = c.is_same.ensures.0 c.if-is_same.true in
    λ h. same_follows g.B.Body.meaning c.args.kernel.now c.in-Act.p c.in-Act.act x c.args.given c.in-Act.is
    c.in-Some.ensures
    (made ∙ ap (λ a. Some a) same)

pub returns-else-is_same-clause-differs : goal.returns-else-is_same-clause-differs
returns-else-is_same-clause-differs g c =
    let x = ending c.in-Some.stretch in
    let made : act_of x ≡ Some c.in-Some-of.made = sym c.of.ensures ∙ c.in-Some-of.is in
    let other : c.in-Some-of.made ≢ c.in-Act.act = λ e. cc (c.if-is_same.false, c.is_same.ensures.1 e) in
    λ h. other_differs g.B.Body.meaning c.args.kernel.now c.in-Act.p c.in-Act.act c.in-Some-of.made x c.args.given
    c.in-Act.is
    c.in-Some.ensures made other
