use Rattle.std.proofs.Common.{◌≡◌, ◌+◌, ◌<◌, length, arith}
use Rattle.fmp_lex.proofs.Packing.{is_held, part_start}
use Rattle.fmp_lex.proofs.packed.Tokens.start.Goals as goal

pub returns : goal.returns
returns c =
    let inside = c.self.inside in
    let ps = inside.packed.items in
    let k = c.offset-place.result in
    let lt : k < length ps = omega (arith, c.if-place-len.false, c.len.ensures) in
    let held : inside.first + k ≡ c.args.at =
    is_held inside.first c.args.at k (length ps) c.offset-place.ensures.held c.offset-place.ensures.absent lt
    (omega (arith, c.self.invariant.0, c.self.invariant.2)) in
    rw (c.get.ensures.value, ← c.self.view_is)
    (part_start inside.text.now inside.first ps c.args.at k _ c.index.result.now held lt c.index.ensures)
