use Rattle.std.proofs.Common.{◌≡◌, ◌+◌, length}
use Rattle.fmp_trials.specs.Parts.{first_of}
use Rattle.fmp_trials.proofs.seeds.first_of.Given as goal

abbrev pub invariant-loop-part : goal.invariant-loop-part
invariant-loop-part l =
    record {
      same : first_of l.parts.items ≡ first_of l.fn.parts.items;
      left : length l.parts.items + l._part ≡ l._part-end;
    }
