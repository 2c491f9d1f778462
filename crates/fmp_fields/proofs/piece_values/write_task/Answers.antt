use Rattle.std.proofs.Common.{◌≡◌, ◌+◌, ◌++◌, ap, length, map, subst, sym, take, ◌∙◌, arith}
use Rattle.fmp_base.specs.Systems.{SystemTables}
use Rattle.fmp_fields.specs.declared.owner.Owner.TheVariants as owner
use Rattle.fmp_fields.specs.FieldNumbers.{number_of}
use Rattle.fmp_fields.specs.Pieces.{block_fields, body_fields}
use Rattle.fmp_fields.proofs.Pieces.{body_length, both-written, task_length, task_size}
use Rattle.fmp_live.specs.LiveLocals.{live_tables}
use Rattle.fmp_live.specs.Zeroed.{zeroed}
use Rattle.fmp_fields.proofs.piece_values.write_task.Goals as goal

pub write_block-requires : goal.write_block-requires
write_block-requires g c = omega (arith, c.requires, task_length c.args.t c.args.room)

pub write_body-requires : goal.write_body-requires
write_body-requires g c =
    omega (arith, c.requires, task_length c.args.t c.args.room, c.write_block.ensures.length)

pub returns-clause-end : goal.returns-clause-end
returns-clause-end g c = omega (arith, task_size c.args.t c.args.room, c.field_count.ensures)

pub returns-clause-values : goal.returns-clause-values
returns-clause-values g c = λ came.
    let kernel = c.args.kernel.now in
    let world = zeroed kernel.system (live_tables c.args.live.now) kernel.world in
    let t = c.args.t in
    let at = c.args.at in
    let room = c.args.room in
    let body = body_fields (owner.Task t) room in
    let first = take at c.args.values.now in
    let middle = take (at + 11) c.write_block.new.values in
    let last = c.write_body.new.values in
    let told = c.write_block.ensures.values world came (sym c.tables.ensures.state) c.if-not-write_block.false in
    let one = subst (λ (sys : SystemTables). middle ≡ first ++ map (number_of sys world came) (block_fields t))
    c.tables.ensures.system told in
    let end : at + 11 + c.field_count.result ≡ at + 11 + length body =
    omega (arith, c.field_count.ensures, body_length (owner.Task t) room) in
    ap (λ n. take n last) end
    ∙ both-written (number_of kernel.system world came) (block_fields t) body first middle _ one
    (c.write_body.ensures.values came)
