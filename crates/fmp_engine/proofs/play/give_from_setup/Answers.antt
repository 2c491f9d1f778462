use Rattle.std.proofs.Common.{◌≡◌, ◌∙◌, ℕ, List, ap, ◌++◌, rules}
use Rattle.fmp_base.specs.States.{KernelState}
use Rattle.fmp_base.specs.Systems.{tables_of}
use Rattle.fmp_base.specs.Texts.{lines_text, states_text}
use Rattle.fmp_trace.proofs.Appending.{on_err_from}
use Rattle.fmp_engine.specs.Plays.{state_after, text_of_events}
use Rattle.fmp_engine.proofs.OutletLemmas.{end_stopped, events_stopped, lines_stopped, run_given}
use Rattle.fmp_engine.proofs.PlayLemmas.{on_err_then, on_ok_then, whole}
use Rattle.fmp_engine.proofs.play.give_from_setup.Goals as goal

pub returns-clause-ok : goal.returns-clause-ok
returns-clause-ok g c body n start =
    let sys = tables_of c.args.sys.now in
    let meaning = g.B.Body.meaning in
    let k = c.args.kernel.now in
    let es = g.E.Events.left c.args.events.now in
    let first : c.print_setup.new.page ≡ lines_text sys 0 k.lines = search rules in
    let left : c.finish.new.out.items ≡ c.take.new.page =
    c.finish.ensures.text ∙ ap (λ (xs : List ℕ). xs ++ c.take.new.page) c.requires.free.no_text in
    on_ok_then c.give_states.result
    (λ last. run_given g.T.Outlet.gave g.T.Outlet.stopped g.met.T.Outlet.gave_more g.met.T.Outlet.stopped_later _ _ _ _
    c.print_setup.new.page c.give_piece.new.page c.take.new.page _ (text_of_events meaning k es)
    (states_text sys (state_after meaning k es)) _
    (whole meaning body n sys k es c.print_setup.new.page start first)
    c.in_ok-give_piece.ensures.ok c.in_ok-take.ensures.ok.given
    (ap (λ (xs : List ℕ). xs ++ states_text sys c.take.new.kernel.world.state) left
    ∙ ap (λ (s : KernelState). c.take.new.page ++ states_text sys s) c.in_ok-take.ensures.ok.state) last)
    c.give_states.ensures.ok

pub returns-clause-err : goal.returns-clause-err
returns-clause-err g c body n start =
    let sys = tables_of c.args.sys.now in
    let meaning = g.B.Body.meaning in
    let k = c.args.kernel.now in
    let es = g.E.Events.left c.args.events.now in
    let first : c.print_setup.new.page ≡ lines_text sys 0 k.lines = search rules in
    let left : c.finish.new.out.items ≡ c.take.new.page =
    c.finish.ensures.text ∙ ap (λ (xs : List ℕ). xs ++ c.take.new.page) c.requires.free.no_text in
    on_err_then c.give_states.result
    (λ last. end_stopped g.T.Outlet.gave g.T.Outlet.stopped g.met.T.Outlet.gave_more g.met.T.Outlet.stopped_later _ _
    _ _
    c.print_setup.new.page c.give_piece.new.page c.take.new.page _ (text_of_events meaning k es)
    (states_text sys (state_after meaning k es)) _
    (whole meaning body n sys k es c.print_setup.new.page start first)
    c.in_ok-give_piece.ensures.ok c.in_ok-take.ensures.ok.given
    (ap (λ (xs : List ℕ). xs ++ states_text sys c.take.new.kernel.world.state) left
    ∙ ap (λ (s : KernelState). c.take.new.page ++ states_text sys s) c.in_ok-take.ensures.ok.state) last)
    c.give_states.ensures.err

pub returns-in_err-give_piece-clause-err : goal.returns-in_err-give_piece-clause-err
returns-in_err-give_piece-clause-err g c body n start =
    let sys = tables_of c.args.sys.now in
    let meaning = g.B.Body.meaning in
    let k = c.args.kernel.now in
    let es = g.E.Events.left c.args.events.now in
    let first : c.print_setup.new.page ≡ lines_text sys 0 k.lines = search rules in
    on_err_from _
    (lines_stopped g.T.Outlet.gave g.T.Outlet.stopped g.met.T.Outlet.gave_more g.met.T.Outlet.stopped_later _ _
    c.print_setup.new.page (text_of_events meaning k es) (states_text sys (state_after meaning k es)) _
    (whole meaning body n sys k es c.print_setup.new.page start first) c.in_err-give_piece.ensures.err)

pub returns-in_err-take-clause-err : goal.returns-in_err-take-clause-err
returns-in_err-take-clause-err g c body n start =
    let sys = tables_of c.args.sys.now in
    let meaning = g.B.Body.meaning in
    let k = c.args.kernel.now in
    let es = g.E.Events.left c.args.events.now in
    let first : c.print_setup.new.page ≡ lines_text sys 0 k.lines = search rules in
    on_err_from _
    (events_stopped g.T.Outlet.gave g.T.Outlet.stopped g.met.T.Outlet.gave_more g.met.T.Outlet.stopped_later _ _ _
    c.print_setup.new.page c.give_piece.new.page (text_of_events meaning k es)
    (states_text sys (state_after meaning k es)) _
    (whole meaning body n sys k es c.print_setup.new.page start first)
    c.in_ok-give_piece.ensures.ok c.in_err-take.ensures.err)
