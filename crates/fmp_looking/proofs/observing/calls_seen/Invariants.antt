use Rattle.std.proofs.Common.{◌≡◌, ◌+◌, ◌≤◌, ◌^◌, drop, length}
use Rattle.fmp_instructions.specs.Instructions.{code_tables}
use Rattle.fmp_looking.specs.Observed.{heard_in, heard_of, unheard}
use Rattle.fmp_looking.proofs.observing.calls_seen.Given as goal

-- what is known so far, and by the events that are left
abbrev pub invariant-loop-e : goal.invariant-loop-e
invariant-loop-e g l =
    record {
      heard : heard_in g.B.Body.meaning (code_tables l.text.code.now) l.text.positions.now l.kernel
          (drop l.e-index l.events) (heard_of l.heard)
          ≡ heard_in g.B.Body.meaning (code_tables l.text.code.now) l.text.positions.now l.fn.kernel l.events
          (unheard l.fn.calls.items (length l.fn.kernel.system.tasks));
      few : l.kernel.taken + length l.events ≤ 2 ^ 31 + l.e-index;
    }
