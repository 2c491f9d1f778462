use Rattle.std.proofs.Common.{[], ◌∷◌, None, ap, codes, refl, sym}
use Rattle.std.proofs.lemmas.List.{append-nil}
use Rattle.fmp_server.specs.declared.documents.Documents.{Documents}
use Rattle.fmp_server.specs.declared.messages.Message.TheVariants as message
use Rattle.fmp_server.specs.declared.messages.Refusal.TheVariants as refusal
use Rattle.fmp_server.specs.Messages.{refused}
use Rattle.fmp_server.proofs.Joining.{then_ok}
use Rattle.fmp_server.proofs.Notices.{pushed}
use Rattle.fmp_server.proofs.Taking.{ok_both}
use Rattle.fmp_server.proofs.workspace.Workspace.take_value.Goals as goal

pub returns-in_ok-push-in-Request : goal.returns-in_ok-push-in-Request
returns-in_ok-push-in-Request c =
    let taken = c.in_ok-reply-in-Request.ensures in
    let reply = c.in_ok-reply-in-Request.reply in (
      message.Request c.in-Request.id c.in-Request.method,
      reply.items ∷ [],
      c.in-Request.ensures,
      (reply.items, refl, taken.reply, taken.stage, ap (λ (d : Documents). d.list.items) taken.documents),
      pushed (λ b. b.items) _ _ _ c.in_ok-push-in-Request.ensures.items,
    )

pub returns-in-Notification : goal.returns-in-Notification
returns-in-Notification c =
    ok_both c.take_notification.result c.take_notification.ensures.answers c.take_notification.ensures.notified
    (λ answers notified. (
      message.Notification c.in-Notification.method,
      answers.more,
      c.in-Notification.ensures,
      (answers.are, notified),
      answers.is,
    ))

pub returns-in-Answer : goal.returns-in-Answer
returns-in-Answer c = (message.Answer, [], c.in-Answer.ensures, (refl, refl), sym (append-nil _))

pub returns-in-Invalid : goal.returns-in-Invalid
returns-in-Invalid c =
    let sentence = codes "no message" in
    then_ok c.add_refusal.result c.add_refusal.ensures
    (λ said. (
      message.Invalid,
      refused None refusal.NoRequest sentence ∷ [],
      c.in-Invalid.ensures,
      (refl, (sentence, refl)),
      said,
    ))
