use Rattle.std.proofs.Common.{◌≡◌, ◌+◌, ◌<◌, length, arith}
use Rattle.fmp_lex.proofs.Packing.{is_held, one_of_all, packed_position, part_held}
use Rattle.fmp_lex.proofs.packed.Tokens.position.Goals as goal

pub returns : goal.returns
returns c =
    let inside = c.self.inside in
    let text = inside.text.now in
    let ps = inside.packed.items in
    let k = c.offset-place.result in
    let lt : k < length ps = omega (arith, c.if-place-len.false, c.len.ensures) in
    let held : inside.first + k ≡ c.args.at =
    is_held inside.first c.args.at k (length ps) c.offset-place.ensures.held c.offset-place.ensures.absent lt
    (omega (arith, c.self.invariant.0, c.self.invariant.2)) in
    let p = c.index.result.now in
    let packed = one_of_all text ps k _ p c.self.invariant.3 lt c.index.ensures in
    let start = c.get-start.ensures.value in
    rw (← c.self.view_is, part_held text inside.first ps c.args.at k held)
    (packed_position text ps k _ p c.position_of_piece.result lt c.index.ensures packed
    (rw start at c.position_of_piece.ensures.line) (rw start at c.position_of_piece.ensures.start)
    (rw start at c.position_of_piece.ensures.end))
