use Rattle.std.proofs.Common.{◌≡◌, ◌∙◌, ap, refl, rules, sym}
use Rattle.fmp_base.specs.declared.calls.Answer.TheVariants.{Spins}
use Rattle.fmp_base.specs.declared.states.Caller.TheVariants as caller
use Rattle.fmp_base.specs.Calls.{called}
use Rattle.fmp_base.specs.Outcomes.{CallOutcome}
use Rattle.fmp_base.specs.States.{Progress}
use Rattle.fmp_worlds.proofs.SettledLaws.{called-spins}
use Rattle.fmp_kernel.proofs.runner.Runner.call_from.Goals as goal

pub returns-in-Some-Spins : goal.returns-in-Some-Spins
returns-in-Some-Spins g c =
    let h = c.self.inside.tables in
    let who = caller.Task c.args.t in
    let o = called h.system h.state c.args.p who c.args.made.now in
    let e = c.in-Some-Spins.ensures.outcome in
    let k : o.answer ≡ Spins = sym (ap (λ (o : CallOutcome). o.answer) e) ∙ c.in-Some-Spins.field-0-is in
    let same = ap (λ (o : CallOutcome). o.progress.state) e
    ∙ ap (λ (g : Progress). g.state) (called-spins h.system h.state c.args.p who c.args.made.now k) in
    record {
      effect = search rules;
      after = rw (← c.self.view_is, k, same) refl;
      bodies = search rules;
      clock = search rules;
    }

pub returns-in-None : goal.returns-in-None
returns-in-None g c =
    let made = rw (c.in-None.ensures.other) at c.call_apart-in-None.ensures in
    rw (← c.self.view_is) (record {
      effect = made.effect;
      after = made.after;
      bodies = record { body = made.bodies.body; bound = made.bodies.bound; system = made.bodies.system };
      clock = made.clock;
    })
