use Rattle.std.proofs.Common.{◌∙◌, ◌<◌, ℕ, get_or, length, set, ap, arith}
use Rattle.std.proofs.lemmas.List.{get_or_default}
use Rattle.std.proofs.lemmas.List.Edits.{map_over_more}
use Rattle.fmp_session.specs.Answers.{comma_for}
use Rattle.fmp_session.proofs.answers.put_commas.Goals as goal

pub loop-byte-preserved : goal.loop-byte-preserved
loop-byte-preserved c =
    let now = c.loop-byte.bytes in
    let i = c.loop-byte.byte-index in
    let x = get_or now i 0 in
    let inside : i < length now = omega arith in
    ap (λ (z : ℕ). set now i z) c.comma_for.ensures
    ∙ map_over_more comma_for c.args.bytes.now now i x c.loop-byte-test.true c.loop-byte.invariant
    (get_or_default now i 0 x inside)
