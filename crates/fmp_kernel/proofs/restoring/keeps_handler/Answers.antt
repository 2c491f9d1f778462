use Rattle.std.proofs.Common.{Option, subst, sym, ◌∙◌}
use Rattle.fmp_base.specs.declared.states.Handler.{Handler}
use Rattle.fmp_worlds.specs.Settled.{IsThere}
use Rattle.fmp_kernel.proofs.RestoredLemmas.{going_free, handler_there, none_free}
use Rattle.fmp_kernel.proofs.restoring.keeps_handler.Goals as goal

pub returns-in-Some-clause-kept : goal.returns-in-Some-clause-kept
returns-in-Some-clause-kept g c = λ e h. handler_there _ (sym c.goes.ensures ∙ e)

pub returns-in-Some-clause-free : goal.returns-in-Some-clause-free
returns-in-Some-clause-free g c = λ e. going_free _ (sym c.goes.ensures ∙ e)

pub returns-in-None-clause-kept : goal.returns-in-None-clause-kept
returns-in-None-clause-kept g c =
    λ e h. absurd (subst (λ (o : Option Handler). IsThere o) c.in-None.is h)

pub returns-in-None-clause-free : goal.returns-in-None-clause-free
returns-in-None-clause-free g c = λ e. none_free _ c.has_handler.result c.has_handler.ensures e
