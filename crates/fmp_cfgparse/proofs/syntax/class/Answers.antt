use Rattle.std.proofs.lemmas.Result.{err_from_is_err_and}
use Rattle.fmp_lex.specs.Reading.{kinds_of, found, stopped, Anywhere, RightToken, Right, At, Star}
use Rattle.fmp_lex.specs.Reading as reading
use Rattle.fmp_lex.proofs.Sequences.{item_framed}
use Rattle.fmp_lex.proofs.Answered.{err_as, find_as, step_as}
use Rattle.fmp_cfgparse.specs.Grammar.{name_of, OneApi}
use Rattle.fmp_cfgparse.specs.Reading.{itself, RightName, RightApis, RightClass}
use Rattle.fmp_cfgparse.specs.Trees.{apis_view, class_view}
use Rattle.fmp_cfgparse.proofs.Items.{name_fills}
use Rattle.fmp_lex.proofs.Repetitions.{star_framed, closed_found, closed_missing, closed_stop}
use Rattle.fmp_lex.proofs.Heads.{left, right, word_stop, left_stop, thing_stop, right_stop, last_stop, rest_then}
use Rattle.fmp_cfgparse.proofs.Classes.{class_word, open_brace, close_brace, Block, block_fills, class_as}
use Rattle.fmp_cfgparse.proofs.Classes.{brace_follows, api_framed}
use Rattle.fmp_cfgparse.proofs.syntax.class.Goals as goal

pub returns-in_err-next : goal.returns-in_err-next
returns-in_err-next c =
    let ts = kinds_of c.args.tokens.now in
    let e = err_from_is_err_and c.from_residual.result c.from_residual.ensures.1 in
    rw (e.1, e.2) (step_as class_view c.in_err-next.field-0.0 (RightToken ts class_word c.args.at)
    (RightClass ts c.args.at)
    (λ j why x. class_as ts c.args.at (stopped j why)
    (word_stop class_word open_brace (reading.Item name_of) Block (item_framed name_of) name_fills block_fills
    Anywhere ts c.args.at j why x))
    c.in_err-next.ensures)

pub returns-in_err-place : goal.returns-in_err-place
returns-in_err-place c =
    let ts = kinds_of c.args.tokens.now in
    let e = err_from_is_err_and c.from_residual-in_err-place.result c.from_residual-in_err-place.ensures.1 in
    rw (e.1, e.2) (step_as class_view c.in_err-place.field-0.0 (RightToken ts left c.in_ok-next.next)
    (RightClass ts c.args.at)
    (λ j why x. class_as ts c.args.at (stopped j why)
    (left_stop class_word open_brace (reading.Item name_of) Block (item_framed name_of) name_fills block_fills
    Anywhere ts c.args.at c.in_ok-next.next c.in_ok-next.ensures j why x))
    c.in_err-place.ensures)

pub returns-in_err-name : goal.returns-in_err-name
returns-in_err-name c =
    let ts = kinds_of c.args.tokens.now in
    let e = err_from_is_err_and c.from_residual-in_err-name.result c.from_residual-in_err-name.ensures.1 in
    rw (e.1, e.2) (find_as itself class_view c.in_err-name.field-0.0 (RightName ts c.in_ok-place.place)
    (RightClass ts c.args.at)
    (λ j why x. class_as ts c.args.at (stopped j why) (thing_stop class_word open_brace (reading.Item name_of) Block
    (item_framed name_of) name_fills block_fills Anywhere ts c.args.at c.in_ok-next.next c.in_ok-next.ensures
    c.in_ok-place.place
    c.in_ok-place.ensures j why x)) c.in_err-name.ensures)

pub returns-in_err-next-2 : goal.returns-in_err-next-2
returns-in_err-next-2 c =
    let ts = kinds_of c.args.tokens.now in
    let e = err_from_is_err_and c.from_residual-in_err-next-2.result c.from_residual-in_err-next-2.ensures.1 in
    rw (e.1, e.2) (step_as class_view c.in_err-next-2.field-0.0 (RightToken ts right c.in_ok-name.next)
    (RightClass ts c.args.at)
    (λ j why x. class_as ts c.args.at (stopped j why) (right_stop class_word open_brace (reading.Item name_of) Block
    (item_framed name_of) name_fills block_fills Anywhere ts c.args.at c.in_ok-next.next c.in_ok-next.ensures
    c.in_ok-place.place
    c.in_ok-place.ensures c.in_ok-name.name c.in_ok-name.next c.in_ok-name.ensures j why x)) c.in_err-next-2.ensures)

pub returns-in_err-next-3 : goal.returns-in_err-next-3
returns-in_err-next-3 c =
    let ts = kinds_of c.args.tokens.now in
    let e = err_from_is_err_and c.from_residual-in_err-next-3.result c.from_residual-in_err-next-3.ensures.1 in
    rw (e.1, e.2) (step_as class_view c.in_err-next-3.field-0.0 (RightToken ts open_brace c.in_ok-next-2.next)
    (RightClass ts c.args.at)
    (λ j why x. class_as ts c.args.at (stopped j why) (last_stop class_word open_brace (reading.Item name_of) Block
    (item_framed name_of) name_fills block_fills Anywhere ts c.args.at c.in_ok-next.next c.in_ok-next.ensures
    c.in_ok-place.place
    c.in_ok-place.ensures c.in_ok-name.name c.in_ok-name.next c.in_ok-name.ensures c.in_ok-next-2.next
    c.in_ok-next-2.ensures j why x))
    c.in_err-next-3.ensures)

pub returns-in_err-apis : goal.returns-in_err-apis
returns-in_err-apis c =
    let ts = kinds_of c.args.tokens.now in
    let e = err_from_is_err_and c.from_residual-in_err-apis.result c.from_residual-in_err-apis.ensures.1 in
    rw (e.1, e.2) (err_as apis_view class_view c.in_err-apis.field-0.0 (RightApis ts c.in_ok-next-3.next)
    (RightClass ts c.args.at)
    (λ j why x. class_as ts c.args.at (stopped j why) (rest_then class_word open_brace (reading.Item name_of) Block
    (item_framed name_of) name_fills block_fills Anywhere ts c.args.at c.in_ok-next.next c.in_ok-next.ensures
    c.in_ok-place.place
    c.in_ok-place.ensures c.in_ok-name.name c.in_ok-name.next c.in_ok-name.ensures c.in_ok-next-2.next
    c.in_ok-next-2.ensures
    c.in_ok-next-3.next c.in_ok-next-3.ensures (stopped j why) (closed_stop (Star OneApi) close_brace
    (star_framed OneApi api_framed) brace_follows x))) c.in_err-apis.ensures)

pub returns-in_err-next-4 : goal.returns-in_err-next-4
returns-in_err-next-4 c =
    let ts = kinds_of c.args.tokens.now in
    let e = err_from_is_err_and c.from_residual-in_err-next-4.result c.from_residual-in_err-next-4.ensures.1 in
    rw (e.1, e.2) (step_as class_view c.in_err-next-4.field-0.0 (RightToken ts close_brace c.in_ok-apis.next)
    (RightClass ts c.args.at)
    (λ j why x. class_as ts c.args.at (stopped j why) (rest_then class_word open_brace (reading.Item name_of) Block
    (item_framed name_of) name_fills block_fills Anywhere ts c.args.at c.in_ok-next.next c.in_ok-next.ensures
    c.in_ok-place.place
    c.in_ok-place.ensures c.in_ok-name.name c.in_ok-name.next c.in_ok-name.ensures c.in_ok-next-2.next
    c.in_ok-next-2.ensures
    c.in_ok-next-3.next c.in_ok-next-3.ensures (stopped j why) (closed_missing (Star OneApi) close_brace
    (star_framed OneApi api_framed) brace_follows c.in_ok-apis.ensures x))) c.in_err-next-4.ensures)

pub returns : goal.returns
returns c =
    let ts = kinds_of c.args.tokens.now in
    class_as ts c.args.at
    (found ((c.in_ok-place.place, c.in_ok-name.name), apis_view c.in_ok-apis.apis) c.in_ok-next-4.next) (rest_then
    class_word open_brace (reading.Item name_of) Block (item_framed name_of) name_fills block_fills Anywhere ts
    c.args.at c.in_ok-next.next c.in_ok-next.ensures c.in_ok-place.place c.in_ok-place.ensures
    c.in_ok-name.name c.in_ok-name.next c.in_ok-name.ensures c.in_ok-next-2.next c.in_ok-next-2.ensures
    c.in_ok-next-3.next c.in_ok-next-3.ensures (found (apis_view c.in_ok-apis.apis) c.in_ok-next-4.next)
    (closed_found (Star OneApi) close_brace (star_framed OneApi api_framed) brace_follows c.in_ok-apis.ensures
    c.in_ok-next-4.ensures))
