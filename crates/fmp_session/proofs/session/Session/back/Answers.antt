use Rattle.std.proofs.Common.{◌∙◌, List, take, ap, arith}
use Rattle.std.proofs.lemmas.List.{length-take}
use Rattle.fmp_base.specs.declared.events.Event.{Event}
use Rattle.fmp_replay.specs.Replays.{kernel_after}
use Rattle.fmp_session.proofs.Following.{legal_take}
use Rattle.fmp_session.proofs.session.Session.back.Goals as goal

pub kernel_over-requires-clause-legal : goal.kernel_over-requires-clause-legal
kernel_over-requires-clause-legal c =
    let s = c.args.self.now in
    rw c.deref.ensures.value (legal_take s.image.now s.bound s.events.items c.saturating_sub-left.result
    c.requires.legal)

pub returns-clause-session : goal.returns-clause-session
returns-clause-session c =
    let s = c.args.self.now in
    let left = c.saturating_sub-left.result in
    let short = length-take left s.events.items in
    record {
      few = rw c.truncate.ensures.items (omega (arith, short, c.requires.few));
      legal = rw c.truncate.ensures.items (legal_take s.image.now s.bound s.events.items left c.requires.legal);
      kernel = rw c.truncate.ensures.items
          (c.replace.ensures.after ∙ c.in_ok-kernel.ensures ∙ ap (λ (xs : List Event). kernel_after s.image.now
          s.bound (take left xs)) c.deref.ensures.value);
    }
