use Rattle.std.proofs.Common.{◌≡◌, ◌++◌, drop}
use Rattle.fmp_trace.specs.Fronts.{Begins}
use Rattle.fmp_trace.specs.Steps.{steps_text}
use Rattle.fmp_trace.proofs.events.append_steps.Given as goal

abbrev pub invariant-loop-event : goal.invariant-loop-event
invariant-loop-event l = record {
  text : l.out.items ++ steps_text (drop l.event-index l.events) ≡ l.initial.out.items ++ steps_text l.events;
  kept : Begins l.initial.out.items l.out.items;
}
