use Rattle.std.proofs.Common.{◌≡◌, ◌++◌, ◌+◌, ◌≤◌, ◌^◌, drop, length}
use Rattle.fmp_instructions.specs.Instructions.{code_tables}
use Rattle.fmp_frames.specs.Made.{positions_made}
use Rattle.fmp_frames.proofs.made.positions_made.Given as goal

abbrev pub invariant-loop-e : goal.invariant-loop-e
invariant-loop-e g l =
    record {
      made : l.made.items
          ++ positions_made g.B.Body.meaning (code_tables l.text.code.now) l.text.positions.now l.kernel
          (drop l.e-index l.events)
          ≡ positions_made g.B.Body.meaning (code_tables l.text.code.now) l.text.positions.now l.fn.kernel l.events;
      few : l.kernel.taken + length l.events ≤ 2 ^ 31 + l.e-index;
    }
