use Rattle.std.proofs.Common.{◌≡◌, ◌++◌, List, take}
use Rattle.std.specs.Prelude.{flat_map}
use Rattle.fmp_server.specs.declared.positions.TextRange.{TextRange}
use Rattle.fmp_server.specs.Messages.{edit}
use Rattle.fmp_server.specs.Positions.{AreRanges}
use Rattle.fmp_server.specs.Roles.{positions_of}
use Rattle.fmp_server.proofs.writing.write_edits.Given as goal

abbrev pub invariant-loop-one : goal.invariant-loop-one
invariant-loop-one l =
    record {
      before : l.writer.before ≡ l.initial.writer.before;
      tokens :
          (ranges : List TextRange) × AreRanges l.text (positions_of (take l.one-index l.positions)) ranges
          × (l.writer.tokens ≡ l.initial.writer.tokens ++ flat_map (λ r. edit r l.name) ranges);
    }
