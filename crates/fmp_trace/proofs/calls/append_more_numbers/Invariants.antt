use Rattle.std.proofs.Common.{◌≡◌, ◌≤◌, ◌+◌, ◌*◌, ◌++◌, drop, take}
use Rattle.fmp_base.specs.Texts.{more_numbers_text}
use Rattle.fmp_trace.proofs.calls.append_more_numbers.Given as goal

abbrev pub invariant-loop-number : goal.invariant-loop-number
invariant-loop-number l = record {
  text : take l.end l.line ++ more_numbers_text (drop l.number-index l.numbers) ≡ take l.fn.end l.initial.line
      ++ more_numbers_text l.numbers;
  short : l.end ≤ l.fn.end + 12 * l.number-index;
}
