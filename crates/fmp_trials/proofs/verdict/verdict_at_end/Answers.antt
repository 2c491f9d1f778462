use Rattle.std.proofs.Common.{◌∙◌, ℕ, List, ap}
use Rattle.fmp_base.specs.declared.events.TaskState.{TaskState}
use Rattle.fmp_expect.specs.Meaning.{first_broken}
use Rattle.fmp_trials.specs.Verdicts.{states_in}
use Rattle.fmp_trials.proofs.verdict.verdict_at_end.Goals as goal

pub returns : goal.returns
returns g c = λ xs told are.
    c.verdict.ensures xs told are
    ∙ ap (λ (s : List TaskState). first_broken xs told s c.done.result) (c.deref.ensures.value ∙ c.in_ok-states.ensures)
    ∙ ap (λ (n : ℕ). first_broken xs told (states_in c.args.kernel.now) n) c.done.ensures
