use Rattle.std.proofs.Common.{List, arith, string_bytes, subst}
use Rattle.fmp_files.specs.Deeds.{Deed, Does}
use Rattle.fmp_searching.proofs.Doing.{only_then}
use Rattle.fmp_searching.proofs.Endings.{written_all, written_step}
use Rattle.fmp_searching.proofs.Printing.{quiet_then}
use Rattle.fmp_searching.proofs.steps_files.write_steps.Goals as goal

pub loop-i-preserved : goal.loop-i-preserved
loop-i-preserved g c =
    let done = g.O.Outside.done in
    record {
      quiet = quiet_then _ _ _ c.loop-i.invariant.quiet c.write_at.ensures.quiet;
      only = only_then _ _ _ c.loop-i.invariant.only c.write_at.ensures.only;
      fronts = only_then _ _ _ c.loop-i.invariant.fronts c.write_at.ensures.fronts;
      written =
          written_step string_bytes (λ text. text.items) c.args.names.now c.args.texts.now c.loop-i.i
          (done c.args.outside.now) (done c.loop-i.outside) (done c.write_at.new.outside)
          (omega (arith, c.min-count.ensures, c.loop-i-test.true))
          (omega (arith, c.min-count.ensures, c.loop-i-test.true))
          c.loop-i.invariant.written c.in_ok-write_at.ensures.written;
    }

pub returns-in_err-write_at-clause-quiet : goal.returns-in_err-write_at-clause-quiet
returns-in_err-write_at-clause-quiet g c =
    quiet_then _ _ _ c.loop-i.invariant.quiet c.write_at.ensures.quiet

pub returns-in_err-write_at-clause-only : goal.returns-in_err-write_at-clause-only
returns-in_err-write_at-clause-only g c = only_then _ _ _ c.loop-i.invariant.only c.write_at.ensures.only

pub returns-in_err-write_at-clause-fronts : goal.returns-in_err-write_at-clause-fronts
returns-in_err-write_at-clause-fronts g c = only_then _ _ _ c.loop-i.invariant.fronts c.write_at.ensures.fronts

pub returns-clause-only : goal.returns-clause-only
returns-clause-only g c = c.loop-i.invariant.only

pub returns-clause-fronts : goal.returns-clause-fronts
returns-clause-fronts g c = c.loop-i.invariant.fronts

pub returns-clause-written : goal.returns-clause-written
returns-clause-written g c =
    let done = g.O.Outside.done in
    subst (λ (deeds : List Deed). Does (done c.args.outside.now) deeds (done c.loop-i.outside))
    (written_all string_bytes (λ text. text.items) c.args.names.now c.args.texts.now c.loop-i.i
    (omega (arith, c.min-count.ensures, c.loop-i-test.false)))
    c.loop-i.invariant.written
