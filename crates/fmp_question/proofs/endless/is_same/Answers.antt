use Rattle.std.proofs.Common.{IsTrue, ap, rules}
use Rattle.fmp_instructions.specs.declared.instructions.MachineContext.{MachineContext}
use Rattle.fmp_question.proofs.EndlessLemmas.{not_same, same_context, together}
use Rattle.fmp_question.proofs.endless.is_same.Goals as goal

pub returns-then-not-stand_together : goal.returns-then-not-stand_together
returns-then-not-stand_together c =
    not_same c.stand_together.result c.if-not-stand_together.true c.stand_together.ensures
    (together c.args.a.now c.args.b.now)

pub returns-then-not-are_same : goal.returns-then-not-are_same
returns-then-not-are_same c =
    not_same c.are_same.result c.if-not-are_same.true c.are_same.ensures (ap (λ (x : MachineContext). x.locals))

pub returns : goal.returns
returns c =
    let stand : IsTrue c.stand_together.result = search rules in
    let locals : IsTrue c.are_same.result = search rules in (
      λ last. same_context c.args.a.now c.args.b.now (c.stand_together.ensures.0 stand).0
          (c.stand_together.ensures.0 stand).1 (c.are_same.ensures.0 locals) (c.are_same-2.ensures.0 last),
      λ same. c.are_same-2.ensures.1 (ap (λ (x : MachineContext). x.operands) same),
    )
