use Rattle.std.proofs.Common.{Ok, inl, inr, subst, sym}
use Rattle.std.proofs.lemmas.Result.{IfOk-weaker}
use Rattle.fmp_searching.specs.declared.asking.ExploreWords.{ExploreWords}
use Rattle.fmp_searching.specs.Questions.{IsWanted}
use Rattle.fmp_searching.proofs.Doing.{if_ok, on_err, says_idle, says_may}
use Rattle.fmp_searching.proofs.searching.explore_image.Goals as goal

pub question_by-requires : goal.question_by-requires
question_by-requires g c =
    subst (λ (a : ExploreWords). IsWanted a (Ok c.args.opened.now.wanted.now)) (sym c.requires.0) c.requires

pub returns-in-Ok-clause-holds : goal.returns-in-Ok-clause-holds
returns-in-Ok-clause-holds g c =
    let asked = rw c.in-Ok.is at c.in_ok-question.ensures in
    let asks = rw c.requires.0 at asked.1 in
    IfOk-weaker c.explore_question.result _ _
    (λ status claims zero. record {
      bodies = c.in_ok-lines.lines;
      are = c.in_ok-lines.ensures;
      question = c.in-Ok.question;
      asks = asks;
      holds = claims zero;
    }) c.explore_question.ensures.claimed

pub returns-in-Ok-clause-ended : goal.returns-in-Ok-clause-ended
returns-in-Ok-clause-ended g c =
    let asked = rw c.in-Ok.is at c.in_ok-question.ensures in
    let asks = rw c.requires.0 at asked.1 in
    IfOk-weaker c.explore_question.result _ _
    (λ status ends told. record {
      bodies = c.in_ok-lines.lines;
      are = c.in_ok-lines.ensures;
      question = c.in-Ok.question;
      asks = asks;
      holds = ends told;
    }) c.explore_question.ensures.ended

pub returns-in-Ok-clause-mistaken : goal.returns-in-Ok-clause-mistaken
returns-in-Ok-clause-mistaken g c =
    let asked = rw c.in-Ok.is at c.in_ok-question.ensures in
    let asks = rw c.requires.0 at asked.1 in
    IfOk-weaker c.explore_question.result _ _
    (λ status shown two. inr (record {
      bodies = c.in_ok-lines.lines;
      are = c.in_ok-lines.ensures;
      question = c.in-Ok.question;
      asks = asks;
      holds = shown two;
    })) c.explore_question.ensures.mistaken

pub returns-in-Ok-clause-shown : goal.returns-in-Ok-clause-shown
returns-in-Ok-clause-shown g c =
    let asked = rw c.in-Ok.is at c.in_ok-question.ensures in
    let asks = rw c.requires.0 at asked.1 in
    IfOk-weaker c.explore_question.result _ _
    (λ status shown. inr (record {
      bodies = c.in_ok-lines.lines;
      are = c.in_ok-lines.ensures;
      question = c.in-Ok.question;
      asks = asks;
      holds = shown;
    })) c.explore_question.ensures.shown

pub returns-clause-quiet : goal.returns-clause-quiet
returns-clause-quiet g c =
    let done = g.O.Outside.done in
    on_err c.refuse_question.result
    (says_idle (done c.args.outside.now) (done c.refuse_question.new.outside) c.refuse_question.ensures.says)

pub returns-clause-shown : goal.returns-clause-shown
returns-clause-shown g c =
    let done = g.O.Outside.done in
    if_ok c.refuse_question.result
    (inl (says_idle (done c.args.outside.now) (done c.refuse_question.new.outside) c.refuse_question.ensures.says))

pub returns-clause-keeps : goal.returns-clause-keeps
returns-clause-keeps g c = λ apart.
    let done = g.O.Outside.done in
    says_may c.args.opened.now.exploring.now _ (done c.args.outside.now) (done c.refuse_question.new.outside)
    c.refuse_question.ensures.says
