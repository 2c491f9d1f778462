use Rattle.std.proofs.Common.{◌≡◌, [], drop}
use Rattle.fmp_export.specs.Remarks.{line_comments}
use Rattle.fmp_export.proofs.remarks.line_comments.Given as goal

abbrev pub invariant-loop-byte : goal.invariant-loop-byte
invariant-loop-byte l =
    line_comments l.comments.items l.piece.items (drop l.byte-index l.line) ≡ line_comments [] [] l.line
