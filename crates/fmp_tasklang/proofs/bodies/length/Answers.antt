use Rattle.std.proofs.Common.{◌≤◌, length, rules}
use Rattle.std.proofs.lemmas.List.{length-map}
use Rattle.std.proofs.lemmas.Result.{err_from_is_err_and}
use Rattle.fmp_lex.specs.Reading.{kinds_of}
use Rattle.fmp_tasklang.proofs.BodyPaths.{length_none, length_stop, length_open, length_found}
use Rattle.fmp_tasklang.proofs.bodies.length.Goals as goal

pub returns-then-not-is_symbol_at : goal.returns-then-not-is_symbol_at
returns-then-not-is_symbol_at c =
    let within : c.args.at ≤ length (kinds_of c.args.tokens.now) = simp length-map c.requires in
    length_none (kinds_of c.args.tokens.now) c.args.at (c.is_symbol_at.ensures.no (search rules)) within

pub returns-in_err-number : goal.returns-in_err-number
returns-in_err-number c =
    let ts = kinds_of c.args.tokens.now in
    let is = c.is_symbol_at.ensures.yes (search rules) in
    let p = err_from_is_err_and c.from_residual.result c.from_residual.ensures.1 in
    let f = c.in_err-number.field-0.0 in
    rw (p.1, p.2) (length_stop ts c.args.at is f.at f.why c.in_err-number.ensures)

pub returns-in_err-next : goal.returns-in_err-next
returns-in_err-next c =
    let ts = kinds_of c.args.tokens.now in
    let is = c.is_symbol_at.ensures.yes (search rules) in
    let p = err_from_is_err_and c.from_residual-in_err-next.result c.from_residual-in_err-next.ensures.1 in
    let f = c.in_err-next.field-0.0 in
    rw (p.1, p.2) (length_open ts c.args.at is c.in_ok-number.number c.in_ok-number.next c.in_ok-number.ensures f.at
    f.why c.in_err-next.ensures)

pub returns : goal.returns
returns c =
    let ts = kinds_of c.args.tokens.now in
    let is = c.is_symbol_at.ensures.yes (search rules) in
    length_found ts c.args.at is c.in_ok-number.number c.in_ok-number.next c.in_ok-number.ensures c.in_ok-next.next
    c.in_ok-next.ensures
