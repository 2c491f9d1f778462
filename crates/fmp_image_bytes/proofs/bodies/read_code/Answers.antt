use Rattle.std.proofs.Common.{◌≡◌, ◌*◌, false, nat_lt, length, arith}
use Rattle.std.proofs.lemmas.Bool.{le-ltb}
use Rattle.fmp_image_bytes.proofs.KeptCode.{refused}
use Rattle.fmp_image_bytes.proofs.bodies.read_code.Goals as goal

pub returns-then-not-is_depth_table : goal.returns-then-not-is_depth_table
returns-then-not-is_depth_table c =
    let long : nat_lt (length c.args.bytes.now) (6 * c.args.size)
    ≡ false = le-ltb _ _ (omega (arith, c.if-bytes-end.false)) in
    rw long
    (refused c.args.version c.args.locals c.args.size c.args.bytes.now c.in_ok-depths.depths.items
    (omega (arith, c.if-bytes-end.false)) c.in_ok-depths.ensures.read
    (λ code rest read. rw c.deref.ensures.value at (c.is_depth_table.ensures.refused c.args.locals code
    c.if-not-is_depth_table.true)))
