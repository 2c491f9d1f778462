use Rattle.std.proofs.Common.{◌<◌, ◌∙◌, subst, sym, ℕ}
use Rattle.fmp_base.specs.Systems.{tables_of}
use Rattle.fmp_tasks.proofs.SoundLemmas.{lists-enough, own_processors}
use Rattle.fmp_tasks.proofs.TopLemmas.{most_urgent-is}
use Rattle.fmp_tasks.proofs.kernel_state.KernelState.top.Goals as goal

pub returns-clause-value : goal.returns-clause-value
returns-clause-value c =
    let tasks = c.self.invariant.tasks in
    let p : c.args.p < c.self.inside.system.processors = rw (← c.self.view_is) at c.requires in
    let there : c.args.p < c.self.inside.waits.processors = subst (λ (n : ℕ). c.args.p < n)
    (sym (own_processors tasks ∙ tasks.processors)) p in
    rw (← c.self.view_is)
    (c.top.ensures.value ∙ most_urgent-is c.self.inside.waits (tables_of c.self.inside.system) _ _ _ _ tasks.blocks
    tasks.kept there (lists-enough tasks))
