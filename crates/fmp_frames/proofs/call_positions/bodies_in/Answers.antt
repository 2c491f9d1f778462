use Rattle.std.proofs.Common.{◌+◌, ◌++◌, ◌<◌, append_assoc, drop, length, map, sym, ap, ◌∙◌, arith}
use Rattle.fmp_frames.proofs.Bodies.{bodies_in_at}
use Rattle.fmp_frames.proofs.call_positions.bodies_in.Goals as goal
use Rattle.fmp_frames.specs.CallPositions.{bodies_in, body_at, text_body}

pub loop-at-preserved : goal.loop-at-preserved
loop-at-preserved c =
    let begins = c.args.text.begins.now in
    let ts = c.args.text.tokens.now in
    let i = c.loop-at.at in
    let bodies = map text_body c.loop-at.bodies.items in
    let more = bodies_in begins (drop (i + 1) ts) in
    let within : i < length ts = omega (arith, c.len-at-end.ensures, c.loop-at-test.true) in
    ap (λ xs. xs ++ more) c.in_ok-add_body_at.ensures
    ∙ append_assoc bodies (body_at begins ts i) more
    ∙ ap (λ r. bodies ++ r) (sym (bodies_in_at begins ts i within))
    ∙ c.loop-at.invariant
