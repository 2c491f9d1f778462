use Rattle.std.proofs.Common.{inl, inr}
use Rattle.std.proofs.lemmas.Result.{IfOk-weaker}
use Rattle.fmp_server.proofs.Hovering.{at_position, is_within}
use Rattle.fmp_server.proofs.Order.{in_order}
use Rattle.fmp_server.proofs.hover.hover.Goals as goal

pub word_at-requires : goal.word_at-requires
word_at-requires c = in_order _ _ c.in_ok-list.ensures

pub answer_at-requires : goal.answer_at-requires
answer_at-requires c = is_within _ _ _ c.in-Some.ensures.word

pub returns-in-Some : goal.returns-in-Some
returns-in-Some c =
    IfOk-weaker c.answer_at.result _ _
    (λ bytes h. at_position _ _ _ _ _ _ _ c.bytes_of-text.ensures c.in_ok-list.ensures c.offset_at.ensures
    (inl (c.in-Some.at, c.in-Some.ensures, h)))
    c.answer_at.ensures

pub returns : goal.returns
returns c =
    IfOk-weaker c.null_answer.result _ _
    (λ bytes h. at_position _ _ _ _ _ _ _ c.bytes_of-text.ensures c.in_ok-list.ensures c.offset_at.ensures
    (inr (c.in-None.ensures, h)))
    c.null_answer.ensures
