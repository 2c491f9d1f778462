use Rattle.std.proofs.lemmas.Result.{err_from_is_err_and}
use Rattle.fmp_lex.specs.Reading.{kinds_of}
use Rattle.fmp_tasklang.proofs.BodyPaths.{variable_missing, variable_stop, variable_length, variable_open}
use Rattle.fmp_tasklang.proofs.BodyPaths.{variable_found}
use Rattle.fmp_tasklang.proofs.bodies.variable.Goals as goal

pub returns-in_err-next : goal.returns-in_err-next
returns-in_err-next c =
    let ts = kinds_of c.args.tokens.now in
    let i = c.args.at in
    let p = err_from_is_err_and c.from_residual.result c.from_residual.ensures.1 in
    let f = c.in_err-next.field-0.0 in
    rw (p.1, p.2) (variable_missing ts i f.at f.why c.in_err-next.ensures)

pub returns-in_err-name : goal.returns-in_err-name
returns-in_err-name c =
    let ts = kinds_of c.args.tokens.now in
    let i = c.args.at in
    let p = err_from_is_err_and c.from_residual-in_err-name.result c.from_residual-in_err-name.ensures.1 in
    let f = c.in_err-name.field-0.0 in
    rw (p.1, p.2) (variable_stop ts i c.in_ok-next.next c.in_ok-next.ensures f.at f.why c.in_err-name.ensures)

pub returns-in_err-length : goal.returns-in_err-length
returns-in_err-length c =
    let ts = kinds_of c.args.tokens.now in
    let i = c.args.at in
    let p = err_from_is_err_and c.from_residual-in_err-length.result c.from_residual-in_err-length.ensures.1 in
    let f = c.in_err-length.field-0.0 in
    rw (p.1, p.2) (variable_length ts i c.in_ok-next.next c.in_ok-next.ensures c.in_ok-name.name c.in_ok-name.next
    c.in_ok-name.ensures f.at f.why c.in_err-length.ensures)

pub returns-in_err-next-2 : goal.returns-in_err-next-2
returns-in_err-next-2 c =
    let ts = kinds_of c.args.tokens.now in
    let i = c.args.at in
    let p = err_from_is_err_and c.from_residual-in_err-next-2.result c.from_residual-in_err-next-2.ensures.1 in
    let f = c.in_err-next-2.field-0.0 in
    rw (p.1, p.2) (variable_open ts i c.in_ok-next.next c.in_ok-next.ensures c.in_ok-name.name c.in_ok-name.next
    c.in_ok-name.ensures c.in_ok-length.length c.in_ok-length.next c.in_ok-length.ensures f.at f.why
    c.in_err-next-2.ensures)

pub returns : goal.returns
returns c =
    let ts = kinds_of c.args.tokens.now in
    let i = c.args.at in
    variable_found ts i c.in_ok-next.next c.in_ok-next.ensures c.in_ok-name.name c.in_ok-name.next
    c.in_ok-name.ensures c.in_ok-length.length c.in_ok-length.next c.in_ok-length.ensures c.in_ok-next-2.next
    c.in_ok-next-2.ensures
