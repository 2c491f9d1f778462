use Rattle.std.proofs.Common.{◌≡◌, ◌≤◌, ◌+◌, ◌++◌, drop, vec_len, vec_capacity}
use Rattle.fmp_kernel.proofs.runner.append.Given as goal

abbrev pub invariant-loop-line : goal.invariant-loop-line
invariant-loop-line l =
    record {
      items : l.lines.items ++ drop l.line-index l.more.items ≡ l.fn.lines.items ++ l.more.items;
      room : vec_len l.lines + vec_len l.more ≤ vec_capacity l.lines + l.line-index;
      capacity : vec_capacity l.lines ≡ vec_capacity l.fn.lines;
    }
