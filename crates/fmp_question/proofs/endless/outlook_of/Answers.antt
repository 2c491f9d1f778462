use Rattle.std.proofs.Common.{◌≡◌, ◌+◌, ◌*◌, ◌^◌, ◌≤◌, ℕ, IsTrue, Option, ap, arith, false, rules, subst}
use Rattle.std.specs.Prelude.{IfNone}
use Rattle.fmp_base.specs.Stretches.{is_over}
use Rattle.fmp_instructions.specs.declared.instructions.MachineContext.{MachineContext}
use Rattle.fmp_instructions.specs.Machine.{code_meaning}
use Rattle.fmp_question.proofs.EndlessLemmas.{cut_once_more, ended_within, found_again, looked_on, none_made, not_ended}
use Rattle.fmp_question.proofs.endless.outlook_of.Goals as goal

pub loop-tried-init : goal.loop-tried-init
loop-tried-init c =
    record {
      marked = none_made c.args.body.now c.args.entry c.args.context;
      made = none_made c.args.body.now c.args.entry c.args.context;
      tried =
          λ n. ap (λ (k : ℕ). (code_meaning c.args.body.now).stretch c.args.entry k c.args.context) (omega arith);
      fits = c.requires.context;
    }

pub returns-in_default-clause-ends : goal.returns-in_default-clause-ends
returns-in_default-clause-ends c = λ _.
    let over = is_over ((code_meaning c.args.body.now).stretch c.args.entry 256 c.loop-tried.at) in
    let ended : over ≡ false =
    subst (λ (o : Option MachineContext). IfNone o (over ≡ false)) c.in_default.is c.cut.ensures.ends in
    let few : c.loop-tried.tried * 256 + 256 ≤ 2 ^ 26 = omega arith in
    ended_within c.args.body.now c.args.entry c.args.context c.loop-tried.at (c.loop-tried.tried * 256) 256 (2 ^ 26)
    c.loop-tried.invariant.tried ended few

pub returns-then-is_same-clause-endless : goal.returns-then-is_same-clause-endless
returns-then-is_same-clause-endless c = λ _.
    let yes : IsTrue c.is_same.result = search rules in
    found_again c.args.body.now c.args.entry c.args.context c.loop-tried.mark.context c.loop-tried.at c.in-Some.next
    256 (omega arith) c.loop-tried.invariant.marked c.loop-tried.invariant.made c.in-Some.ensures.value
    (c.is_same.ensures.0 yes)

pub returns-clause-unknown : goal.returns-clause-unknown
returns-clause-unknown c = λ _.
    let all : 2 ^ 26 ≡ c.loop-tried.tried * 256 = omega arith in
    not_ended c.args.body.now c.args.entry c.args.context c.loop-tried.at (c.loop-tried.tried * 256) (2 ^ 26)
    c.loop-tried.invariant.tried all

pub loop-tried-preserved : goal.loop-tried-preserved
loop-tried-preserved c =
    let at = c.loop-tried.at in
    let both = looked_on c.args.body.now c.args.entry c.args.context c.loop-tried.mark.context at c.in-Some.next
    c.advance.new.self.context 256 c.loop-tried.invariant.marked c.loop-tried.invariant.made c.in-Some.ensures.value
    c.advance.ensures in
    record {
      marked = both.0;
      made = both.1;
      tried =
          cut_once_more c.args.body.now c.args.entry c.args.context at c.in-Some.next (c.loop-tried.tried * 256) 256
          ((c.loop-tried.tried + 1) * 256) c.loop-tried.invariant.tried c.in-Some.ensures.value (omega arith);
      fits = c.in-Some.ensures.context;
    }
