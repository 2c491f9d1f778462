use Rattle.std.proofs.Common.{◌≡◌, drop}
use Rattle.fmp_expect.specs.Watches.{next_watches}
use Rattle.fmp_expect.proofs.checker.tell_lines.Given as goal

abbrev pub invariant-loop-line : goal.invariant-loop-line
invariant-loop-line l =
    next_watches l.number (drop l.line-index l.lines) l.watches ≡ next_watches l.number l.lines l.initial.watches
