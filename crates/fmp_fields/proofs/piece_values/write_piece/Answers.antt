use Rattle.std.proofs.Common.{◌≡◌, ◌+◌, ◌≤◌, ◌++◌, length, map, sym, subst, take}
use Rattle.std.specs.Prelude.{IfSome}
use Rattle.fmp_fields.specs.declared.piece.Piece.{Piece}
use Rattle.fmp_fields.specs.FieldNumbers.{number_of}
use Rattle.fmp_fields.specs.Pieces.{fields_of_piece}
use Rattle.fmp_live.specs.LiveLocals.{live_tables}
use Rattle.fmp_live.specs.Zeroed.{zeroed}
use Rattle.fmp_fields.proofs.piece_values.write_piece.Goals as goal

pub write_task-requires : goal.write_task-requires
write_task-requires g c =
    subst (λ (p : Piece). c.args.at + length (fields_of_piece p) ≤ length c.args.values.now) c.in-Task.is c.requires

pub write_whole_processor-requires : goal.write_whole_processor-requires
write_whole_processor-requires g c =
    subst (λ (p : Piece). c.args.at + length (fields_of_piece p) ≤ length c.args.values.now) c.in-Processor.is
    c.requires

pub write_field-requires : goal.write_field-requires
write_field-requires g c =
    subst (λ (p : Piece). c.args.at + length (fields_of_piece p) ≤ length c.args.values.now) c.in-Single.is c.requires

pub returns-in-Task-clause-end : goal.returns-in-Task-clause-end
returns-in-Task-clause-end g c =
    subst (λ (p : Piece). IfSome c.write_task.result (λ end. end ≡ c.args.at + length (fields_of_piece p)))
    (sym c.in-Task.is) c.write_task.ensures.end

pub returns-in-Task-clause-values : goal.returns-in-Task-clause-values
returns-in-Task-clause-values g c =
    let kernel = c.args.kernel.now in
    let world = zeroed kernel.system (live_tables c.args.live.now) kernel.world in
    subst (λ (p : Piece). IfSome c.write_task.result (λ end. take end c.write_task.new.values
    ≡ take c.args.at c.args.values.now ++ map (number_of kernel.system world c.args.came) (fields_of_piece p)))
    (sym c.in-Task.is) (c.write_task.ensures.values c.args.came)

pub returns-in-Processor-clause-end : goal.returns-in-Processor-clause-end
returns-in-Processor-clause-end g c =
    subst (λ (p : Piece). c.write_whole_processor.result ≡ c.args.at + length (fields_of_piece p))
    (sym c.in-Processor.is) c.write_whole_processor.ensures.end

pub returns-in-Processor-clause-values : goal.returns-in-Processor-clause-values
returns-in-Processor-clause-values g c =
    let kernel = c.args.kernel.now in
    let world = zeroed kernel.system (live_tables c.args.live.now) kernel.world in
    subst (λ (p : Piece). take c.write_whole_processor.result c.write_whole_processor.new.values
    ≡ take c.args.at c.args.values.now ++ map (number_of kernel.system world c.args.came) (fields_of_piece p))
    (sym c.in-Processor.is) (c.write_whole_processor.ensures.values c.args.came)

pub returns-in-Single-clause-end : goal.returns-in-Single-clause-end
returns-in-Single-clause-end g c =
    subst (λ (p : Piece). IfSome c.write_field.result (λ end. end ≡ c.args.at + length (fields_of_piece p)))
    (sym c.in-Single.is) c.write_field.ensures.end

pub returns-in-Single-clause-values : goal.returns-in-Single-clause-values
returns-in-Single-clause-values g c =
    let kernel = c.args.kernel.now in
    let world = zeroed kernel.system (live_tables c.args.live.now) kernel.world in
    subst (λ (p : Piece). IfSome c.write_field.result (λ end. take end c.write_field.new.values
    ≡ take c.args.at c.args.values.now ++ map (number_of kernel.system world c.args.came) (fields_of_piece p)))
    (sym c.in-Single.is) c.write_field.ensures.values
