use Rattle.std.proofs.Common.{subst}
use Rattle.fmp_files.specs.declared.failure.Failure.TheVariants.{Memory}
use Rattle.fmp_files.specs.Endings.{EndsPrinting}
use Rattle.fmp_files.specs.PrintsLaws.{does_nothing}
use Rattle.fmp.specs.declared.perform.Exit.TheVariants.{Failed}
use Rattle.fmp.specs.Runs.{done, failed, unread}
use Rattle.fmp.proofs.running.write_and_print.Goals as goal

pub returns-in-Err : goal.returns-in-Err
returns-in-Err g c =
    let before = g.O.Outside.done c.args.outside.now in
    failed (Failed (Memory c.in-Err.error)) before c.requires.kept (unread tt (does_nothing before)) c.end.ensures.line
    c.end.ensures.status

pub returns-in-Ok-carry_out : goal.returns-in-Ok-carry_out
returns-in-Ok-carry_out g c =
    let between = g.O.Outside.done c.carry_out.new.outside in
    let after = g.O.Outside.done c.print-status.new.outside in
    let fails = g.O.Outside.output_can_fail c.carry_out.new.outside in
    let printed = subst (λ bytes. EndsPrinting bytes fails between after c.print-status.result) c.deref.ensures.value
    c.print-status.ensures in
    let ended = subst (λ can_fail. EndsPrinting c.in-Ok-carry_out.out.items can_fail between after
    c.print-status.result) c.in-Ok-carry_out.ensures.output printed in
    done c.in-Ok-carry_out.out.items c.in-Ok-carry_out.counts between after c.requires.kept
    c.in-Ok-carry_out.ensures.ok ended c.say_arrivals.ensures

pub returns : goal.returns
returns g c =
    failed c.in-Err-carry_out.exit (g.O.Outside.done c.carry_out.new.outside) c.requires.kept
    c.in-Err-carry_out.ensures.err c.end-in-Err-carry_out.ensures.line c.end-in-Err-carry_out.ensures.status
