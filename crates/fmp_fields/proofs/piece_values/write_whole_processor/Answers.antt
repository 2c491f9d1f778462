use Rattle.std.proofs.Common.{◌≡◌, ◌+◌, ◌++◌, ap, length, map, subst, sym, take, ◌∙◌, arith}
use Rattle.fmp_base.specs.Systems.{SystemTables}
use Rattle.fmp_fields.specs.declared.owner.Owner.TheVariants as owner
use Rattle.fmp_fields.specs.FieldNumbers.{number_of}
use Rattle.fmp_fields.specs.Pieces.{body_fields, processor_fields}
use Rattle.fmp_fields.proofs.Pieces.{body_length, both-written, processor_length, processor_size}
use Rattle.fmp_live.specs.LiveLocals.{live_tables}
use Rattle.fmp_live.specs.Zeroed.{zeroed}
use Rattle.fmp_fields.proofs.piece_values.write_whole_processor.Goals as goal

pub write_processor-requires : goal.write_processor-requires
write_processor-requires g c = omega (arith, c.requires, processor_length c.args.p c.args.room)

pub write_body-requires : goal.write_body-requires
write_body-requires g c =
    omega (arith, c.requires, processor_length c.args.p c.args.room, c.write_processor.ensures.length)

pub returns-clause-end : goal.returns-clause-end
returns-clause-end g c = omega (arith, processor_size c.args.p c.args.room, c.field_count.ensures)

pub returns-clause-values : goal.returns-clause-values
returns-clause-values g c = λ came.
    let kernel = c.args.kernel.now in
    let world = zeroed kernel.system (live_tables c.args.live.now) kernel.world in
    let p = c.args.p in
    let at = c.args.at in
    let room = c.args.room in
    let body = body_fields (owner.Handler p) room in
    let first = take at c.args.values.now in
    let middle = take (at + 5) c.write_processor.new.values in
    let last = c.write_body.new.values in
    let told = c.write_processor.ensures.values world came (sym c.tables.ensures.state) in
    let one = subst (λ (sys : SystemTables). middle ≡ first ++ map (number_of sys world came) (processor_fields p))
    c.tables.ensures.system told in
    let end : at + 5 + c.field_count.result ≡ at + 5 + length body =
    omega (arith, c.field_count.ensures, body_length (owner.Handler p) room) in
    ap (λ n. take n last) end
    ∙ both-written (number_of kernel.system world came) (processor_fields p) body first middle _ one
    (c.write_body.ensures.values came)
