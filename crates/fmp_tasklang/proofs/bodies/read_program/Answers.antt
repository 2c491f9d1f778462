use Rattle.std.proofs.Common.{◌≤◌, ◌<◌, length, arith}
use Rattle.std.proofs.lemmas.List.{length-map}
use Rattle.std.proofs.lemmas.Result.{err_from_is_err_and}
use Rattle.fmp_lex.specs.Reading.{kinds_of}
use Rattle.fmp_tasklang.specs.Reading.{bodies_view}
use Rattle.fmp_tasklang.proofs.BodyPaths.{verdict_stopped, verdict_longer, verdict_found}
use Rattle.fmp_tasklang.proofs.bodies.read_program.Goals as goal

pub returns-in_err-bodies : goal.returns-in_err-bodies
returns-in_err-bodies c =
    let ts = kinds_of c.args.tokens.now in
    let e = err_from_is_err_and c.from_residual.result c.from_residual.ensures.1 in
    rw (e.1, e.2) (verdict_stopped ts c.in_err-bodies.field-0.0 c.in_err-bodies.ensures)

pub returns-then-next-len : goal.returns-then-next-len
returns-then-next-len c =
    let ts = kinds_of c.args.tokens.now in
    let lt : c.in_ok-bodies.next < length ts = simp length-map (omega (arith, c.len.ensures)) in
    verdict_longer ts (bodies_view c.in_ok-bodies.bodies) c.in_ok-bodies.next lt c.in_ok-bodies.ensures

pub returns : goal.returns
returns c =
    let ts = kinds_of c.args.tokens.now in
    let past : length ts ≤ c.in_ok-bodies.next = simp length-map (omega (arith, c.len.ensures)) in
    verdict_found ts (bodies_view c.in_ok-bodies.bodies) c.in_ok-bodies.next past c.in_ok-bodies.ensures
