use Rattle.std.proofs.Common.{◌≡◌, length, map, take}
use Rattle.fmp_fields.specs.FieldNumbers.{number_of}
use Rattle.fmp_fields.specs.Pieces.{fields_of_pieces}
use Rattle.fmp_live.specs.LiveLocals.{live_tables}
use Rattle.fmp_live.specs.Zeroed.{zeroed}
use Rattle.fmp_fields.proofs.reading.write_pieces.Given as goal

abbrev pub invariant-loop-next : goal.invariant-loop-next
invariant-loop-next g l =
    let world = zeroed l.kernel.system (live_tables l.live) l.kernel.world in
    record {
      long : length l.values ≡ length l.fn.values;
      place : l.at ≡ length (fields_of_pieces (take l.next l.pieces));
      told :
          take l.at l.values
          ≡ map (number_of l.kernel.system world l.came) (fields_of_pieces (take l.next l.pieces));
    }
