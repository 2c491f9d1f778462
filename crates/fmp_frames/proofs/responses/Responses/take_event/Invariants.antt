use Rattle.std.proofs.Common.{◌≡◌, drop}
use Rattle.fmp_frames.specs.Responses.{after_event, after_lines, requests_of}
use Rattle.fmp_frames.proofs.responses.Responses.take_event.Given as goal

-- what the lines that are left make of the requests is what all lines make of those before the event
abbrev pub invariant-loop-line : goal.invariant-loop-line
invariant-loop-line l =
    after_lines l.now l.by (drop l.line-index l.lines) (requests_of l.self)
    ≡ after_event l.now l.lines (requests_of l.fn.self)
