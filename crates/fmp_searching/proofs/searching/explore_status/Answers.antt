use Rattle.std.proofs.Common.{inl}
use Rattle.fmp_searching.proofs.Doing.{only_then, refusal_may, said_idle, says_idle, says_may, says_quiet}
use Rattle.fmp_searching.proofs.Printing.{quiet_before}
use Rattle.fmp_searching.proofs.ShownLemmas.{shown_after}
use Rattle.fmp_searching.proofs.searching.explore_status.Goals as goal

pub returns-in-Ok-clause-mistaken : goal.returns-in-Ok-clause-mistaken
returns-in-Ok-clause-mistaken g c = λ two.
    let done = g.O.Outside.done in
    let told = rw c.in-Ok.is at c.explore_image.ensures.mistaken in
    quiet_before _ _ _
    (says_quiet (done c.args.outside.now) (done c.say_unhandled.new.outside) c.say_unhandled.ensures) (told two)

pub returns-in-Ok-clause-shown : goal.returns-in-Ok-clause-shown
returns-in-Ok-clause-shown g c =
    let done = g.O.Outside.done in
    let shown = rw c.in-Ok.is at c.explore_image.ensures.shown in
    shown_after _ _ _ _ _ (done c.args.outside.now) (done c.say_unhandled.new.outside) _ c.say_unhandled.ensures shown

pub returns-in-Ok-clause-keeps : goal.returns-in-Ok-clause-keeps
returns-in-Ok-clause-keeps g c = λ apart.
    let done = g.O.Outside.done in
    only_then _ _ _
    (says_may c.args.opened.now.exploring.now _ (done c.args.outside.now) (done c.say_unhandled.new.outside)
    c.say_unhandled.ensures)
    (c.explore_image.ensures.keeps apart)

pub returns-in-Err-clause-shown : goal.returns-in-Err-clause-shown
returns-in-Err-clause-shown g c =
    let done = g.O.Outside.done in
    let quiet = rw c.in-Err.is at c.explore_image.ensures.quiet in
    inl
    (only_then _ _ _
    (says_idle (done c.args.outside.now) (done c.say_unhandled.new.outside) c.say_unhandled.ensures)
    (only_then _ _ _ quiet
    (said_idle (done c.explore_image.new.outside) (done c.end.new.outside) c.end.ensures.said)))

pub returns-in-Err-clause-keeps : goal.returns-in-Err-clause-keeps
returns-in-Err-clause-keeps g c = λ apart.
    let done = g.O.Outside.done in
    let e = c.args.opened.now.exploring.now in
    only_then _ _ _
    (says_may e _ (done c.args.outside.now) (done c.say_unhandled.new.outside) c.say_unhandled.ensures)
    (only_then _ _ _ (c.explore_image.ensures.keeps apart)
    (refusal_may e _ (done c.explore_image.new.outside) (done c.end.new.outside) c.end.ensures.said))
