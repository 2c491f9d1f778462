use Rattle.std.proofs.Common.{ap, option_map, subst}
use Rattle.std.specs.Prelude.{IfSome}
use Rattle.fmp_searching.specs.Files.{IsApart}
use Rattle.fmp_searching.proofs.Doing.{idle_writes, only_then, report_begin, report_begun, report_write, said_idle}
use Rattle.fmp_searching.proofs.Doing.{says_may, says_one}
use Rattle.fmp_searching.proofs.Printing.{quiet_begun, quiet_said, quiet_then}
use Rattle.fmp_searching.proofs.giving.write_report.Goals as goal

pub returns-in-Err-clause-quiet : goal.returns-in-Err-clause-quiet
returns-in-Err-clause-quiet g c =
    let done = g.O.Outside.done in
    quiet_then _ _ _ (quiet_begun _ _ (done c.args.outside.now) (done c.write_file.new.outside) c.in-Err.ensures.begun)
    (quiet_said (done c.write_file.new.outside) (done c.end.new.outside) c.end.ensures.said)

pub returns-in-Ok-clause-writes : goal.returns-in-Ok-clause-writes
returns-in-Ok-clause-writes g c = λ out.
    report_write c.args.exploring.now out c.args.explored.now c.in-Some.name.now c.in-Some-report.report _ _
    (ap (λ o. option_map (λ junit. junit.now) o) c.in-Some.is) c.in-Some-report.is
    (rw c.deref.ensures.value at c.in-Ok.ensures.ok)

pub returns-in-Err-clause-writes : goal.returns-in-Err-clause-writes
returns-in-Err-clause-writes g c = λ out.
    let done = g.O.Outside.done in
    let e = c.args.exploring.now in
    let x = c.args.explored.now in
    only_then _ _ _
    (report_begin e out x c.in-Some.name.now c.in-Some-report.report _ _
    (ap (λ o. option_map (λ junit. junit.now) o) c.in-Some.is) c.in-Some-report.is
    (rw c.deref.ensures.value at c.in-Err.ensures.begun))
    (idle_writes e out x (done c.write_file.new.outside) (done c.end.new.outside)
    (said_idle (done c.write_file.new.outside) (done c.end.new.outside) c.end.ensures.said))

pub returns-in-Err-clause-keeps : goal.returns-in-Err-clause-keeps
returns-in-Err-clause-keeps g c = λ out apart.
    let done = g.O.Outside.done in
    let e = c.args.exploring.now in
    only_then _ _ _
    (report_begun e out c.in-Some.name.now _ _ _
    (subst (λ o. IfSome o (λ junit. IsApart e junit.now)) c.in-Some.is apart)
    (ap (λ o. option_map (λ junit. junit.now) o) c.in-Some.is) c.in-Err.ensures.begun)
    (says_may e out (done c.write_file.new.outside) (done c.end.new.outside)
    (says_one (done c.write_file.new.outside) (done c.end.new.outside) c.end.ensures.said))
