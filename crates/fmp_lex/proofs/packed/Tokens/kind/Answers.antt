use Rattle.std.proofs.Common.{◌≡◌, ◌+◌, ◌<◌, length, arith}
use Rattle.fmp_lex.proofs.Packing.{is_held, one_of_all, part_kind, part_kind_absent, part_kind_past}
use Rattle.fmp_lex.proofs.packed.Tokens.kind.Goals as goal

pub kind_of-requires : goal.kind_of-requires
kind_of-requires c =
    (one_of_all c.self.inside.text.now c.self.inside.packed.items c.offset-place.result _ c.index-packed.result.now
    c.self.invariant.3 (omega (arith, c.if-place-len.false, c.len.ensures)) c.index-packed.ensures).0

pub returns-then-at-self-clause-value : goal.returns-then-at-self-clause-value
returns-then-at-self-clause-value c =
    let inside = c.self.inside in
    rw (← c.self.view_is) (part_kind_absent inside.text.now inside.first inside.packed.items c.args.at
    c.if-at-self.true)

pub returns-else-at-self-clause-value : goal.returns-else-at-self-clause-value
returns-else-at-self-clause-value c =
    let inside = c.self.inside in
    let place = c.offset-place.ensures.held (omega (arith, c.if-at-self.false)) in
    rw (← c.self.view_is) (part_kind_past inside.text.now inside.first inside.packed.items c.args.at
    (omega (arith, place, c.if-place-len.true, c.len.ensures)))

pub returns-clause-value : goal.returns-clause-value
returns-clause-value c =
    let inside = c.self.inside in
    let k = c.offset-place.result in
    let lt : k < length inside.packed.items = omega (arith, c.if-place-len.false, c.len.ensures) in
    let held : inside.first + k ≡ c.args.at =
    is_held inside.first c.args.at k (length inside.packed.items) c.offset-place.ensures.held
    c.offset-place.ensures.absent lt (omega (arith, c.self.invariant.0, c.self.invariant.2)) in
    rw (c.kind_of.ensures, ← c.self.view_is)
    (part_kind inside.text.now inside.first inside.packed.items c.args.at k _ c.index-packed.result.now held lt
    c.index-packed.ensures)
