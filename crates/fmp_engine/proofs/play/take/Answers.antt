use Rattle.std.proofs.Common.{◌≡◌, ◌++◌, ◌∙◌, ℕ, List, [], ap, append_assoc, append-nil, refl, rules, sym}
use Rattle.fmp_base.specs.Systems.{tables_of}
use Rattle.fmp_base.specs.Texts.{lines_text}
use Rattle.fmp_trace.proofs.Appending.{on_err_from}
use Rattle.fmp_engine.specs.Outlets.{Given}
use Rattle.fmp_engine.specs.Plays.{text_of_events}
use Rattle.fmp_engine.proofs.OutletLemmas.{front_before, front_through, given_before, given_through, left_is}
use Rattle.fmp_engine.proofs.play.take.Goals as goal

pub loop-event-preserved-in-Continue-1 : goal.loop-event-preserved-in-Continue-1
loop-event-preserved-in-Continue-1 g c =
    let gave = g.T.Outlet.gave in
    let i = c.loop-event.invariant in
    let page = c.loop-event.page in
    let all = c.args.page.now ++ text_of_events g.B.Body.meaning c.args.kernel.now
    (g.E.Events.left c.args.events.now) in
    let lines = lines_text (tables_of c.args.sys.now) c.done.result c.lines.result.now in
    let rest = text_of_events g.B.Body.meaning c.step.new.self (g.E.Events.left c.next_event.new.self) in
    let one : lines ++ rest ≡ text_of_events g.B.Body.meaning c.loop-event.kernel
    (g.E.Events.left c.loop-event.events) = search rules in
    let printed : c.print.new.self ++ rest ≡ page ++ text_of_events g.B.Body.meaning c.loop-event.kernel
    (g.E.Events.left c.loop-event.events) =
    ap (λ (xs : List ℕ). xs ++ rest) c.print.ensures ∙ append_assoc page lines rest
    ∙ ap (λ (xs : List ℕ). page ++ xs) one in
    let before : Given gave c.args.outlet.now c.loop-event.outlet (c.print.new.self ++ rest) all =
    left_is gave _ _ _ _ all (sym printed) i.given in
    record {
      given =
          given_through gave gave gave g.met.T.Outlet.gave_more _ _ _ _ _ all before
          (given_before gave _ _ c.give_piece.new.page c.print.new.self rest c.in_ok-give_piece-in-Done.ensures.ok);
      state = search rules;
      system = search rules;
      short = c.give_piece.ensures.short;
      few = search rules;
    }

pub returns-in_err-give_piece-in-Done-clause-err : goal.returns-in_err-give_piece-in-Done-clause-err
returns-in_err-give_piece-in-Done-clause-err g c =
    let gave = g.T.Outlet.gave in
    let stopped = g.T.Outlet.stopped in
    let i = c.loop-event.invariant in
    let page = c.loop-event.page in
    let all = c.args.page.now ++ text_of_events g.B.Body.meaning c.args.kernel.now
    (g.E.Events.left c.args.events.now) in
    let lines = lines_text (tables_of c.args.sys.now) c.done.result c.lines.result.now in
    let rest = text_of_events g.B.Body.meaning c.step.new.self (g.E.Events.left c.next_event.new.self) in
    let one : lines ++ rest ≡ text_of_events g.B.Body.meaning c.loop-event.kernel
    (g.E.Events.left c.loop-event.events) = search rules in
    let printed : c.print.new.self ++ rest ≡ page ++ text_of_events g.B.Body.meaning c.loop-event.kernel
    (g.E.Events.left c.loop-event.events) =
    ap (λ (xs : List ℕ). xs ++ rest) c.print.ensures ∙ append_assoc page lines rest
    ∙ ap (λ (xs : List ℕ). page ++ xs) one in
    let before : Given gave c.args.outlet.now c.loop-event.outlet (c.print.new.self ++ rest) all =
    left_is gave _ _ _ _ all (sym printed) i.given in
    on_err_from _
    (front_through gave stopped stopped g.met.T.Outlet.stopped_later _ _ _ _ all before
    (front_before stopped _ _ c.print.new.self rest _ refl c.in_err-give_piece-in-Done.ensures.err))

pub returns-clause-ok : goal.returns-clause-ok
returns-clause-ok g c =
    let gave = g.T.Outlet.gave in
    let i = c.loop-event.invariant in
    let page = c.loop-event.page in
    let all = c.args.page.now ++ text_of_events g.B.Body.meaning c.args.kernel.now
    (g.E.Events.left c.args.events.now) in
    let none : text_of_events g.B.Body.meaning c.loop-event.kernel (g.E.Events.left c.loop-event.events)
    ≡ [] = search rules in
    let left : page ++ text_of_events g.B.Body.meaning c.loop-event.kernel (g.E.Events.left c.loop-event.events)
    ≡ page =
    ap (λ (xs : List ℕ). page ++ xs) none ∙ append-nil page in
    record {
      given = left_is gave _ _ _ _ all left i.given;
      state = search rules;
      system = search rules;
    }
