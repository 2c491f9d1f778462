use Rattle.std.proofs.Common.{◌≡◌, ◌∙◌, ap, length, rules, sym, vec_len}
use Rattle.std.specs.Str.Lossy.{utf8_lossy}
use Rattle.std.proofs.lemmas.Result.{IfOk-weaker}
use Rattle.fmp_server.specs.Messages.{answer, hover}
use Rattle.fmp_server.proofs.Hovering.{has_position, says_it, says_nothing}
use Rattle.fmp_server.proofs.hover.answer_at.Goals as goal

pub returns-then-is_empty : goal.returns-then-is_empty
returns-then-is_empty c =
    let said = c.say_word.new.out in
    let count : vec_len said ≡ length said.items = search rules in
    IfOk-weaker c.null_answer.result _ _
    (λ bytes nothing. says_nothing _ _ _ _ _ _ _ _ c.new-said.ensures.items count
    (sym c.is_empty.ensures ∙ c.if-is_empty.true) c.in_ok-say_word.ensures nothing c.requires)
    c.null_answer.ensures

pub returns-in-Some : goal.returns-in-Some
returns-in-Some c =
    IfOk-weaker c.answer.result _ _
    (λ bytes e. says_it _ _ _ _ c.in-Some.position c.range_of.result _ _ _ _ c.bytes_of-text.ensures
    (sym c.position.ensures ∙ c.in-Some.is) c.range_of.ensures c.new-said.ensures.items c.in_ok-say_word.ensures
    (e ∙ ap (λ said. answer c.args.id (hover c.range_of.result (utf8_lossy said))) c.deref.ensures.value) c.requires)
    c.answer.ensures

pub returns : goal.returns
returns c = absurd (has_position _ _ c.requires (sym c.position.ensures ∙ c.in-None.is))
