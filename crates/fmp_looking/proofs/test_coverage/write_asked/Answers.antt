use Rattle.std.proofs.lemmas.Result.{on_ok_weaker}
use Rattle.fmp_looking.specs.Covered.{IsTable, IsTestSeen, IsTracefile, Seen}
use Rattle.fmp_looking.proofs.TestEnds.{if_some}
use Rattle.fmp_looking.proofs.test_coverage.write_asked.Goals as goal

pub returns-in-Ok-clause-ok : goal.returns-in-Ok-clause-ok
returns-in-Ok-clause-ok g c =
    let seen = c.in-Ok.ensures in
    let read = c.args.read.now in
    let src = read.test.now.testing.src.now in
    let text = read.texts.src.now in
    let tracefile = c.in-Ok.covered.tracefile.items in
    let table = c.in-Ok.covered.table.items in
    let lcov : (s : Seen) × IsTestSeen read.test.now read.texts c.args.runs s × IsTracefile src text s tracefile
    = (seen.0, seen.1, seen.2) in
    let counted : (s : Seen) × IsTestSeen read.test.now read.texts c.args.runs s × IsTable src text s table
    = (seen.0, seen.1, seen.3) in
    on_ok_weaker c.write_covered.result
    (λ h. record {
      tracefile = tracefile;
      table = table;
      lcov = if_some _ read.test.now.testing.files.lcov lcov;
      coverage = if_some _ read.test.now.testing.files.coverage counted;
      done = h;
    }) c.write_covered.ensures.ok
