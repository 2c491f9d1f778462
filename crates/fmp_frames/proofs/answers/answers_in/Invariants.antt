use Rattle.std.proofs.Common.{◌≡◌, ◌+◌, ◌≤◌, ◌^◌, drop, length}
use Rattle.fmp_frames.specs.Answers.{heard_in, heard_of, unheard}
use Rattle.fmp_frames.proofs.answers.answers_in.Given as goal

-- what is known so far, and by the events that are left
abbrev pub invariant-loop-e : goal.invariant-loop-e
invariant-loop-e g l =
    record {
      heard : heard_in g.B.Body.meaning l.kernel (drop l.e-index l.events) (heard_of l.heard)
          ≡ heard_in g.B.Body.meaning l.fn.kernel l.events (unheard l.tasks);
      few : l.kernel.taken + length l.events ≤ 2 ^ 31 + l.e-index;
    }
