use Rattle.std.proofs.Common.{List, ◌+◌, arith, subst, sym, take}
use Rattle.std.proofs.lemmas.List.{take_all}
use Rattle.std.specs.List.{AllZip}
use Rattle.fmp_witness.specs.declared.finding.Finding.{Finding}
use Rattle.fmp_searching.specs.Seen.{IsSeen}
use Rattle.fmp_searching.specs.Sources.{source_tables}
use Rattle.fmp_searching.specs.declared.seen.Seen.{Seen}
use Rattle.fmp_searching.proofs.SeenLists.{seen_broken, seen_found, zip_more}
use Rattle.fmp_searching.proofs.seen.all_seen.Goals as goal

pub loop-i-preserved : goal.loop-i-preserved
loop-i-preserved c =
    let s = source_tables c.args.sources.now in
    let findings = c.args.findings.now in
    let at = c.loop-i.i in
    subst (λ (xs : List Seen). AllZip (IsSeen s) (take (at + 1) findings) xs) (sym c.in_ok-push.ensures.items)
    (zip_more (IsSeen s) findings c.loop-i.all.items at c.in_ok-seen_at.field-0 (omega (arith, c.loop-i-test.true))
    c.loop-i.invariant c.in_ok-seen_at.ensures)

pub returns : goal.returns
returns c =
    let s = source_tables c.args.sources.now in
    let findings = c.args.findings.now in
    let each : AllZip (IsSeen s) findings c.loop-i.all.items =
    subst (λ (fs : List Finding). AllZip (IsSeen s) fs c.loop-i.all.items)
    (take_all c.loop-i.i findings (omega (arith, c.loop-i-test.false))) c.loop-i.invariant in
    record {
      found = seen_found s findings c.loop-i.all.items each;
      broken = seen_broken s findings c.loop-i.all.items each;
      each = each;
    }
