use Rattle.std.proofs.Common.{refl}
use Rattle.fmp_files.specs.Endings.{all_printed, some_printed}
use Rattle.fmp_files.specs.PrintsLaws.{prints_front, prints_one}
use Rattle.fmp_files.proofs.ending.print.Goals as goal

pub returns-in-Ok : goal.returns-in-Ok
returns-in-Ok g c = all_printed (prints_one _ _ c.args.bytes.now c.in-Ok.ensures.ok) refl

pub returns-in-Err-Device : goal.returns-in-Err-Device
returns-in-Err-Device g c =
    let begun = prints_front _ _ c.args.bytes.now c.in-Err-Device.ensures.err in
    some_printed c.in-Err-Device.ensures.device begun.front begun.left begun.bytes_are
    (g.O.Outside.done c.print.new.self)
    begun.printed_front (c.failed.result, c.failed.ensures, c.end.ensures.line) c.end.ensures.status
