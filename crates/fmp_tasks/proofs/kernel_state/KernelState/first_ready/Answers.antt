use Rattle.std.proofs.Common.{◌<◌, ap, ◌∙◌, subst, sym, ℕ}
use Rattle.fmp_base.specs.Queues.{first_of}
use Rattle.fmp_base.specs.Systems.{tables_of}
use Rattle.fmp_tasks.proofs.SoundLemmas.{lists-enough, own_processors}
use Rattle.fmp_tasks.proofs.TopLemmas.{ready_list, first-is-ready}
use Rattle.fmp_tasks.proofs.kernel_state.KernelState.first_ready.Goals as goal

pub returns-clause-value : goal.returns-clause-value
returns-clause-value c =
    let tasks = c.self.invariant.tasks in
    let p : c.args.p < c.self.inside.system.processors = rw (← c.self.view_is) at c.requires.processor in
    let there : c.args.p < c.self.inside.waits.processors = subst (λ (n : ℕ). c.args.p < n)
    (sym (own_processors tasks ∙ tasks.processors)) p in
    rw (← c.self.view_is)
    (c.first.ensures.value ∙ ap first_of
    (ready_list c.self.inside.waits (tables_of c.self.inside.system) _ _ _ _ _ tasks.blocks tasks.kept there
    c.requires.urgent c.requires.least (lists-enough tasks)))

pub returns-clause-ready : goal.returns-clause-ready
returns-clause-ready c =
    let tasks = c.self.invariant.tasks in
    let p : c.args.p < c.self.inside.system.processors = rw (← c.self.view_is) at c.requires.processor in
    let there : c.args.p < c.self.inside.waits.processors = subst (λ (n : ℕ). c.args.p < n)
    (sym (own_processors tasks ∙ tasks.processors)) p in
    rw (← c.self.view_is)
    (first-is-ready _ _ _ _ _ (c.first.ensures.value ∙ ap first_of
    (ready_list c.self.inside.waits (tables_of c.self.inside.system) _ _ _ _ _ tasks.blocks tasks.kept there
    c.requires.urgent
    c.requires.least (lists-enough tasks))))
