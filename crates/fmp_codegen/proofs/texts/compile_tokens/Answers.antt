use Rattle.std.proofs.Common.{◌≤◌, ◌<◌, length, arith}
use Rattle.std.proofs.lemmas.List.{length-map}
use Rattle.std.proofs.lemmas.Result.{err_from_is_err_and}
use Rattle.fmp_base.specs.Systems.{tables_of}
use Rattle.fmp_lex.specs.Reading.{kinds_of}
use Rattle.fmp_tasklang.proofs.BodyPaths.{verdict_longer, verdict_found}
use Rattle.fmp_codegen.proofs.TextMaking.{made-stopped}
use Rattle.fmp_codegen.proofs.texts.compile_tokens.Goals as goal

pub returns-in_err-made : goal.returns-in_err-made
returns-in_err-made c =
    let ts = kinds_of c.args.tokens.now in
    let e = err_from_is_err_and c.from_residual.result c.from_residual.ensures.1 in
    rw (e.1, e.2) (made-stopped (tables_of c.args.objects.now.system.now) ts c.in_err-made.field-0.0
    c.in_err-made.ensures)

pub returns-then-next-len : goal.returns-then-next-len
returns-then-next-len c =
    let ts = kinds_of c.args.tokens.now in
    let x = c.in_ok-made.ensures in
    let lt : c.in_ok-made.next < length ts = simp length-map (omega (arith, c.len.ensures)) in
    verdict_longer ts x.0 c.in_ok-made.next lt x.2

pub returns : goal.returns
returns c =
    let ts = kinds_of c.args.tokens.now in
    let x = c.in_ok-made.ensures in
    let past : length ts ≤ c.in_ok-made.next = simp length-map (omega (arith, c.len.ensures)) in
    (x.0, x.1, (verdict_found ts x.0 c.in_ok-made.next past x.2).0)
