use Rattle.std.proofs.Common.{◌+◌, ◌≤◌, add-one, arith, drop, drop-cons, length}
use Rattle.std.proofs.lemmas.List.{drop_all}
use Rattle.std.proofs.lemmas.Result.{err_from_is_err_and}
use Rattle.fmp_trace.proofs.Appending.{on_err_from}
use Rattle.fmp_recording.proofs.Replays.{cut_off, done_first, done_more, leads_first, leads_last, leads_on}
use Rattle.fmp_recording.proofs.Replays.{leads_tied, not_all}
use Rattle.fmp_recording.proofs.replaying.replay_lines.Goals as goal

pub loop-line-init : goal.loop-line-init
loop-line-init c =
    let old = c.args.hosted.now in
    let rs = c.args.lines.now in
    let before = c.args.trace.now.items in
    record { leads = leads_first old rs before; done = done_first old rs before }

pub do_line-requires : goal.do_line-requires
do_line-requires c = leads_tied _ _ _ _ _ _ c.loop-line.invariant.leads c.requires

pub loop-line-preserved : goal.loop-line-preserved
loop-line-preserved c =
    let old = c.args.hosted.now in
    let h = c.loop-line.hosted in
    let rs = c.args.lines.now in
    let i = c.loop-line.line-index in
    let before = c.args.trace.now.items in
    let text = c.loop-line.trace.items in
    let new = c.do_line.new.hosted in
    let after = c.do_line.new.trace.items in
    record {
      leads = leads_on old h rs (drop i rs) before text c.loop-line.invariant.leads _ (drop (i + 1) rs) new after
          c.in_ok-do_line.ensures.ok (rw add-one (drop-cons rs i _ c.loop-line-test.true));
      done = done_more old h rs (drop i rs) before text c.loop-line.invariant.done _ (drop (i + 1) rs) new after
          c.in_ok-do_line.ensures.ok (rw add-one (drop-cons rs i _ c.loop-line-test.true));
    }

pub returns-clause-ok : goal.returns-clause-ok
returns-clause-ok c =
    let rs = c.args.lines.now in
    let i = c.loop-line.line-index in
    let past = c.loop-line-test.false in
    let none : length rs ≤ i = omega (arith, past) in
    leads_last c.args.hosted.now c.loop-line.hosted rs (drop i rs) c.args.trace.now.items c.loop-line.trace.items
    c.loop-line.invariant.leads (drop_all i rs none)

pub returns-in_err-do_line-clause-err : goal.returns-in_err-do_line-clause-err
returns-in_err-do_line-clause-err c =
    let rs = c.args.lines.now in
    let i = c.loop-line.line-index in
    let p = err_from_is_err_and c.from_residual.result c.from_residual.ensures.1 in
    rw (p.1, p.2) (not_all c.args.hosted.now c.loop-line.hosted rs (drop i rs) c.args.trace.now.items
    c.loop-line.trace.items c.loop-line.invariant.leads _ (drop (i + 1) rs) c.in_err-do_line.field-0.0
    c.in_err-do_line.ensures.err (rw add-one (drop-cons rs i _ c.loop-line-test.true)))

pub returns-in_err-do_line-clause-stopped : goal.returns-in_err-do_line-clause-stopped
returns-in_err-do_line-clause-stopped c =
    let rs = c.args.lines.now in
    on_err_from _ (cut_off c.args.hosted.now c.loop-line.hosted rs (drop c.loop-line.line-index rs)
    c.args.trace.now.items c.loop-line.trace.items c.do_line.new.trace.items c.loop-line.invariant.done
    c.in_err-do_line.ensures.kept)
