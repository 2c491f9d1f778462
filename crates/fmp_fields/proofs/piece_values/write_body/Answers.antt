use Rattle.std.proofs.Common.{◌≡◌, ◌+◌, ◌≤◌, ℕ, List, ◌++◌, Bor, Option, ap, length, map, sym, ◌∙◌, subst, take, arith}
use Rattle.std.specs.Option.{option_copied}
use Rattle.std.specs.List.{range_with_len}
use Rattle.fmp_fields.specs.Pieces.{body_fields}
use Rattle.fmp_fields.specs.Reading.{with_zeros}
use Rattle.fmp_fields.proofs.BodyNumbers.{context-told, nothing-told, zeros-told}
use Rattle.fmp_fields.proofs.Pieces.{body_length}
use Rattle.fmp_instructions.specs.declared.instructions.MachineContext.{MachineContext}
use Rattle.fmp_live.specs.LiveLocals.{live_tables}
use Rattle.fmp_live.specs.Zeroed.{zeroed}
use Rattle.fmp_fields.proofs.piece_values.write_body.Goals as goal

pub write_context-requires : goal.write_context-requires
write_context-requires g c =
    subst (λ (n : ℕ). c.args.at + n ≤ length c.args.values.now) (body_length c.args.owner c.args.room) c.requires

pub write_zeros-requires : goal.write_zeros-requires
write_zeros-requires g c =
    omega (arith, c.requires, c.field_count.ensures, body_length c.args.owner c.args.room)

pub returns-in-Some-clause-values : goal.returns-in-Some-clause-values
returns-in-Some-clause-values g c = λ came.
    let kernel = c.args.kernel.now in
    let world = zeroed kernel.system (live_tables c.args.live.now) kernel.world in
    let row = c.row_of-row.result.now in
    let at = c.args.at in
    let new = c.write_context.new.values in
    let found = ap (λ (x : Option (Bor MachineContext)). with_zeros row (option_copied x)) c.in-Some.is in
    let told = context-told kernel.system world came c.args.owner c.args.room _ (sym found ∙ c.row_of-row.ensures) in
    ap (λ (n : ℕ). take (at + n) new) (body_length c.args.owner c.args.room)
    ∙ (c.write_context.ensures.values ∙ ap (λ (ns : List ℕ). take at c.args.values.now ++ ns) told)

pub returns-in-None-clause-values : goal.returns-in-None-clause-values
returns-in-None-clause-values g c = λ came.
    let kernel = c.args.kernel.now in
    let world = zeroed kernel.system (live_tables c.args.live.now) kernel.world in
    let row = c.row_of-row.result.now in
    let at = c.args.at in
    let new = c.write_zeros.new.values in
    let fields = body_fields c.args.owner c.args.room in
    let found = ap (λ (x : Option (Bor MachineContext)). with_zeros row (option_copied x)) c.in-None.is in
    let told = nothing-told kernel.system world came c.args.owner c.args.room (sym found ∙ c.row_of-row.ensures) in
    let size : c.field_count.result ≡ length fields =
    c.field_count.ensures ∙ sym (body_length c.args.owner c.args.room) in
    ap (λ (n : ℕ). take (at + n) new) (sym size)
    ∙ (c.write_zeros.ensures.values
    ∙ ap (λ (ns : List ℕ). take at c.args.values.now ++ ns)
    (ap (λ (n : ℕ). map (λ (k : ℕ). 0) (range_with_len 0 n)) size ∙ (zeros-told 0 fields ∙ told)))
