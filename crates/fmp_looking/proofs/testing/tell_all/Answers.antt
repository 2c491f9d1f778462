use Rattle.std.proofs.lemmas.Result.{on_ok_weaker}
use Rattle.fmp_looking.proofs.testing.tell_all.Goals as goal

pub returns-clause-ok : goal.returns-clause-ok
returns-clause-ok g c =
    on_ok_weaker c.tell_refused.result
    (λ h. record {
      covered = g.O.Outside.done c.write_coverage.new.outside;
      covers = rw c.runs_made-runs.ensures at c.in_ok-write_coverage.ensures.ok;
      reported = g.O.Outside.done c.write_report.new.outside;
      reports = c.in_ok-write_report.ensures.ok;
      told = g.O.Outside.done c.tell_found.new.outside;
      tells = c.in_ok-tell_found.ensures.ok;
      refused = h.0;
      are = rw c.runs_made-runs.ensures at h.1;
      refuses = h.2;
    }) c.tell_refused.ensures.ok
