use Rattle.std.proofs.Common.{rules, sym, subst}
use mir.Syntax.{w32}
use mir.Val.{SFits}
use Rattle.std.proofs.lemmas.Int.{to_z-of_z}
use Rattle.std.proofs.lemmas.Result.{err_from_is_err_and}
use Rattle.fmp_lex.specs.Reading.{kinds_of, found, stopped, Anywhere, RightToken, Right, At, Star}
use Rattle.fmp_lex.specs.Reading as reading
use Rattle.fmp_lex.proofs.Sequences.{item_framed}
use Rattle.fmp_lex.proofs.Answered.{err_as, find_as, step_as}
use Rattle.fmp_cfgparse.specs.Grammar.{token_number, OneClass}
use Rattle.fmp_cfgparse.specs.Reading.{itself, EndsClasses, RightNumber, RightClasses, RightConfig}
use Rattle.fmp_cfgparse.specs.Trees.{classes_view, configuration_view}
use Rattle.fmp_cfgparse.proofs.Items.{number_fills}
use Rattle.fmp_lex.proofs.Repetitions.{star_fills}
use Rattle.fmp_lex.proofs.Heads.{left, right, word_stop, left_stop, thing_stop, right_stop, last_stop, rest_then}
use Rattle.fmp_cfgparse.proofs.Classes.{processors_word, semicolon, config_as}
use Rattle.fmp_cfgparse.proofs.syntax.configuration.Goals as goal

pub returns-in_err-next : goal.returns-in_err-next
returns-in_err-next c =
    let ts = kinds_of c.args.tokens.now in
    let e = err_from_is_err_and c.from_residual.result c.from_residual.ensures.1 in
    rw (e.1, e.2) (step_as configuration_view c.in_err-next.field-0.0 (RightToken ts processors_word 0)
    (RightConfig ts 0)
    (λ j why x. config_as ts (stopped j why)
    (word_stop processors_word semicolon (reading.Item token_number) (Star OneClass)
    (item_framed token_number) number_fills (star_fills OneClass) EndsClasses ts 0 j why x))
    c.in_err-next.ensures)

pub returns-in_err-at : goal.returns-in_err-at
returns-in_err-at c =
    let ts = kinds_of c.args.tokens.now in
    let e = err_from_is_err_and c.from_residual-in_err-at.result c.from_residual-in_err-at.ensures.1 in
    rw (e.1, e.2) (step_as configuration_view c.in_err-at.field-0.0 (RightToken ts left c.in_ok-next.next)
    (RightConfig ts 0)
    (λ j why x. config_as ts (stopped j why) (left_stop processors_word semicolon (reading.Item token_number)
    (Star OneClass)
    (item_framed token_number) number_fills (star_fills OneClass) EndsClasses ts 0 c.in_ok-next.next
    c.in_ok-next.ensures j why x))
    c.in_err-at.ensures)

pub returns-in_err-processors : goal.returns-in_err-processors
returns-in_err-processors c =
    let ts = kinds_of c.args.tokens.now in
    let e = err_from_is_err_and c.from_residual-in_err-processors.result c.from_residual-in_err-processors.ensures.1 in
    rw (e.1, e.2) (find_as itself configuration_view c.in_err-processors.field-0.0 (RightNumber ts c.in_ok-at.at)
    (RightConfig ts 0)
    (λ j why x. config_as ts (stopped j why) (thing_stop processors_word semicolon (reading.Item token_number)
    (Star OneClass)
    (item_framed token_number) number_fills (star_fills OneClass) EndsClasses ts 0 c.in_ok-next.next
    c.in_ok-next.ensures c.in_ok-at.at
    c.in_ok-at.ensures j why x)) c.in_err-processors.ensures)

pub returns-in_err-next-2 : goal.returns-in_err-next-2
returns-in_err-next-2 c =
    let ts = kinds_of c.args.tokens.now in
    let e = err_from_is_err_and c.from_residual-in_err-next-2.result c.from_residual-in_err-next-2.ensures.1 in
    rw (e.1, e.2) (step_as configuration_view c.in_err-next-2.field-0.0 (RightToken ts right c.in_ok-processors.next)
    (RightConfig ts 0)
    (λ j why x. config_as ts (stopped j why) (right_stop processors_word semicolon (reading.Item token_number)
    (Star OneClass)
    (item_framed token_number) number_fills (star_fills OneClass) EndsClasses ts 0 c.in_ok-next.next
    c.in_ok-next.ensures c.in_ok-at.at
    c.in_ok-at.ensures c.in_ok-processors.processors c.in_ok-processors.next c.in_ok-processors.ensures j why x))
    c.in_err-next-2.ensures)

pub returns-in_err-next-3 : goal.returns-in_err-next-3
returns-in_err-next-3 c =
    let ts = kinds_of c.args.tokens.now in
    let e = err_from_is_err_and c.from_residual-in_err-next-3.result c.from_residual-in_err-next-3.ensures.1 in
    rw (e.1, e.2) (step_as configuration_view c.in_err-next-3.field-0.0 (RightToken ts semicolon c.in_ok-next-2.next)
    (RightConfig ts 0)
    (λ j why x. config_as ts (stopped j why) (last_stop processors_word semicolon (reading.Item token_number)
    (Star OneClass)
    (item_framed token_number) number_fills (star_fills OneClass) EndsClasses ts 0 c.in_ok-next.next
    c.in_ok-next.ensures c.in_ok-at.at
    c.in_ok-at.ensures c.in_ok-processors.processors c.in_ok-processors.next c.in_ok-processors.ensures
    c.in_ok-next-2.next
    c.in_ok-next-2.ensures j why x)) c.in_err-next-3.ensures)

pub returns-in_err-classes : goal.returns-in_err-classes
returns-in_err-classes c =
    let ts = kinds_of c.args.tokens.now in
    let e = err_from_is_err_and c.from_residual-in_err-classes.result c.from_residual-in_err-classes.ensures.1 in
    rw (e.1, e.2) (err_as classes_view configuration_view c.in_err-classes.field-0.0
    (RightClasses ts c.in_ok-next-3.next) (RightConfig ts 0)
    (λ j why x. config_as ts (stopped j why) (rest_then processors_word semicolon (reading.Item token_number)
    (Star OneClass)
    (item_framed token_number) number_fills (star_fills OneClass) EndsClasses ts 0 c.in_ok-next.next
    c.in_ok-next.ensures c.in_ok-at.at
    c.in_ok-at.ensures c.in_ok-processors.processors c.in_ok-processors.next c.in_ok-processors.ensures
    c.in_ok-next-2.next
    c.in_ok-next-2.ensures c.in_ok-next-3.next c.in_ok-next-3.ensures (stopped j why) x)) c.in_err-classes.ensures)

pub returns : goal.returns
returns c =
    let ts = kinds_of c.args.tokens.now in
    let n = c.in_ok-processors.processors in
    let fits : SFits w32 n = search rules in
    let x =
    config_as ts (found ((c.in_ok-at.at, n), classes_view c.in_ok-classes.classes) c.in_ok-classes.next) (rest_then
    processors_word semicolon (reading.Item token_number) (Star OneClass) (item_framed token_number) number_fills
    (star_fills OneClass) EndsClasses ts 0 c.in_ok-next.next c.in_ok-next.ensures c.in_ok-at.at
    c.in_ok-at.ensures c.in_ok-processors.processors c.in_ok-processors.next c.in_ok-processors.ensures
    c.in_ok-next-2.next c.in_ok-next-2.ensures c.in_ok-next-3.next c.in_ok-next-3.ensures
    (found (classes_view c.in_ok-classes.classes) c.in_ok-classes.next) c.in_ok-classes.ensures) in
    subst (λ m. RightConfig ts 0 (found (record {
      processors = m;
      at = c.in_ok-at.at;
      classes = classes_view c.in_ok-classes.classes;
    }) c.in_ok-classes.next)) (sym (to_z-of_z w32 n fits)) x
