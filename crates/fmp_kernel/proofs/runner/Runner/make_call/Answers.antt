use Rattle.std.proofs.Common.{◌≡◌, ◌∙◌, ap, refl, rules, sym}
use Rattle.fmp_base.specs.declared.calls.Answer.TheVariants.{Spins}
use Rattle.fmp_base.specs.Calls.{called}
use Rattle.fmp_base.specs.Outcomes.{CallOutcome}
use Rattle.fmp_base.specs.States.{Progress}
use Rattle.fmp_worlds.proofs.SettledLaws.{called-spins}
use Rattle.fmp_kernel.proofs.runner.Runner.make_call.Goals as goal

pub returns-in-Spins : goal.returns-in-Spins
returns-in-Spins g c =
    let h = c.self.inside.tables in
    let o = called h.system h.state c.args.p c.args.who c.args.made.now in
    let e = c.call.ensures.outcome in
    let k : o.answer ≡ Spins = sym (ap (λ (o : CallOutcome). o.answer) e) ∙ c.in-Spins.is in
    let same = ap (λ (o : CallOutcome). o.progress.state) e
    ∙ ap (λ (g : Progress). g.state) (called-spins h.system h.state c.args.p c.args.who c.args.made.now k) in
    record {
      effect = search rules;
      after = rw (← c.self.view_is, k, same) refl;
      bodies = search rules;
      clock = search rules;
    }
