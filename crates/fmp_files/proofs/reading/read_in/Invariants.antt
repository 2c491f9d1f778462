-- Each turn but the last appends some bytes, and those so far are what was taken.
use Rattle.std.proofs.Common.{◌≡◌, ◌-◌, length}
use Rattle.std.specs.Io.KnownBytes.{Consumes}
use Rattle.fmp_files.specs.Files.{IsWithin}
use Rattle.fmp_files.proofs.reading.read_in.Given as goal

abbrev pub invariant-loop-limit : goal.invariant-loop-limit
invariant-loop-limit g l = record {
  within : IsWithin l.fn.limit (length l.bytes.items);
  taken : Consumes (g.S.Source.left l.initial.source) (g.S.Source.left l.source) l.bytes.items;
  failed : g.S.Source.failed l.source ≡ g.S.Source.failed l.initial.source;
}

abbrev pub decreases-loop-limit : goal.decreases-loop-limit
decreases-loop-limit g l = 18446744073709551615 - length l.bytes.items
