use Rattle.std.proofs.Common.{◌≡◌, ◌+◌, ◌++◌, drop}
use Rattle.fmp_slices.specs.Resources.{cyclics_members}
use Rattle.fmp_slices.proofs.resource_file.write_cyclics.Given as goal

abbrev pub invariant-loop-cyclic : goal.invariant-loop-cyclic
invariant-loop-cyclic l =
    record {
      before : l.writer.before ≡ l.initial.writer.before;
      number : l.number ≡ l.cyclic-index + 1;
      tokens :
          l.writer.tokens ++ cyclics_members l.fn.bodies l.number (drop l.cyclic-index l.fn.sys.cyclics.items)
          ≡ l.initial.writer.tokens ++ cyclics_members l.fn.bodies 1 l.fn.sys.cyclics.items;
    }
