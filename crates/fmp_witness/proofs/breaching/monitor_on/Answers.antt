use Rattle.std.proofs.Common.{List, ap, sym, ◌∙◌}
use Rattle.fmp_base.specs.declared.events.Line.{Line}
use Rattle.fmp_schedules.specs.Monitors.{monitor_after}
use Rattle.fmp_witness.proofs.Following.{done_taken, kept_taken}
use Rattle.fmp_witness.proofs.BreachLemmas.{monitor_done, monitor_kept}
use Rattle.fmp_witness.proofs.breaching.monitor_on.Goals as goal

pub returns-in-Kept : goal.returns-in-Kept
returns-in-Kept c =
    let kept = sym c.in-Kept.is ∙ c.step.ensures.effect in
    record {
      taken = record { taken = kept_taken _ kept; view = c.step.ensures.state };
      monitor = monitor_kept c.args.monitor _ kept;
    }

pub returns-in-Done : goal.returns-in-Done
returns-in-Done c =
    let done = sym c.in-Done.is ∙ c.step.ensures.effect in
    record {
      taken = record { taken = done_taken _ done; view = c.step.ensures.state };
      monitor =
          c.after.ensures
          ∙ ap (λ (ls : List Line). monitor_after c.args.monitor ls) c.lines.ensures
          ∙ monitor_done c.args.monitor _ c.args.kernel.now c.step.new.self done c.step.ensures.state;
    }
