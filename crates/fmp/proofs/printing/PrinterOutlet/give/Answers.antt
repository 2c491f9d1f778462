use Rattle.std.proofs.Common.{refl, sym, ◌∙◌}
use Rattle.fmp_files.specs.PrintsLaws.{prints_front}
use Rattle.fmp.proofs.Printed.{pieces_of_none, pieces_one}
use Rattle.fmp.proofs.printing.PrinterOutlet.give.Goals as goal

pub returns-then-is_empty : goal.returns-then-is_empty
returns-then-is_empty g c =
    let empty = sym c.if-is_empty.true ∙ c.is_empty.ensures in
    record { ok = (refl, refl, pieces_of_none _ c.args.piece.now empty); err = tt }

pub returns-in-Ok : goal.returns-in-Ok
returns-in-Ok g c =
    let some = sym c.if-is_empty.false ∙ c.is_empty.ensures in
    record { ok = (refl, c.in-Ok.ensures.output, pieces_one _ _ c.args.piece.now some c.in-Ok.ensures.ok); err = tt }

pub returns-in-Err-Device : goal.returns-in-Err-Device
returns-in-Err-Device g c =
    let begun = prints_front (g.O.Outside.done c.args.self.now.outside.now)
    (g.O.Outside.done c.print.new.self) c.args.piece.now c.in-Err-Device.ensures.err in
    record {
      ok = tt;
      err = (
        begun.left,
        record {
          front = begun.front;
          is_given = (refl, c.in-Err-Device.ensures.device, begun.printed_front);
          whole_is = begun.bytes_are;
        },
      );
    }
