use Rattle.std.proofs.Common.{◌∙◌, List, ap}
use Rattle.std.proofs.lemmas.Result.{IfOk-weaker, err_from_is_err_and}
use Rattle.fmp_base.specs.declared.events.Line.{Line}
use Rattle.fmp_base.specs.Systems.{SystemTables}
use Rattle.fmp_frames.specs.Watches.{after_first}
use Rattle.fmp_named.specs.Lines.{named_lines}
use Rattle.fmp_looking.proofs.Fresh.{room}
use Rattle.fmp_looking.proofs.expecting.event_text.Goals as goal

pub count_up_to-requires : goal.count_up_to-requires
count_up_to-requires g c = room _ _ c.in_ok-kernel.ensures.taken c.requires

pub returns-in_err-kernel : goal.returns-in_err-kernel
returns-in_err-kernel g c = rw ((err_from_is_err_and c.from_residual.result c.from_residual.ensures.1).1) tt

pub returns : goal.returns
returns g c =
    let start = g.O.Opened.start c.args.opened.now in
    let lines = c.lines.ensures
    ∙ ap (λ k. k.lines) c.count_up_to.ensures.after
    ∙ ap (λ k. (after_first g.T.Coming.reaction k c.args.events.now c.count_up_to.result).lines)
    c.in_ok-kernel.ensures.start in
    IfOk-weaker c.lines_text-text.result _ _
    (λ out h. record {
      count = c.count_up_to.result;
      leads = rw c.in_ok-kernel.ensures.start at c.count_up_to.ensures.count;
      text =
          h
          ∙ ap (λ (t : SystemTables). named_lines t c.args.number c.lines.result.now) c.system.ensures
          ∙ ap (λ (ls : List Line). named_lines start.system c.args.number ls) lines;
    }) c.lines_text-text.ensures
