use Rattle.std.proofs.Common.{rules}
use Rattle.fmp_searching.proofs.exploring.explored_by.Goals as goal

pub returns : goal.returns
returns c = record {
  seen = c.args.seen.now;
  are_seen = c.requires.seen;
  text = c.in_ok-report_in.ensures;
  steps = search rules;
  report = c.in_ok-tests_asked.ensures.report;
  asked = c.in_ok-tests_asked.ensures.asked;
  status = search rules;
  clean = search rules;
}
