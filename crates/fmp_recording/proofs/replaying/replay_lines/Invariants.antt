use Rattle.std.proofs.Common.{drop}
use Rattle.fmp_recording.proofs.Replays.{AreDone, Leads}
use Rattle.fmp_recording.proofs.replaying.replay_lines.Given as goal

-- what is left leads to where all lines lead
abbrev pub invariant-loop-line : goal.invariant-loop-line
invariant-loop-line l = record {
  leads : Leads l.fn.hosted l.hosted l.lines (drop l.line-index l.lines) l.fn.trace.items l.trace.items;
  done : AreDone l.fn.hosted l.hosted l.lines (drop l.line-index l.lines) l.fn.trace.items l.trace.items;
}
