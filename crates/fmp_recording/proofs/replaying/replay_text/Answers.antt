use Rattle.std.proofs.Common.{◌≡◌, ◌∙◌, ◌++◌, List, Ok, ap, rules}
use Rattle.std.proofs.lemmas.Result.{err_from_is_err_and}
use Rattle.fmp_base.specs.declared.events.Line.{Line}
use Rattle.fmp_base.specs.declared.systems.System.{System}
use Rattle.fmp_base.specs.Systems.{tables_of}
use Rattle.fmp_base.specs.Texts.{lines_text, states_text}
use Rattle.fmp_foreign.specs.Hosting.{ForeignKernel}
use Rattle.fmp_recording.proofs.Replays.{left_by, not_run, whole}
use Rattle.fmp_recording.specs.Recordings.{recorded_of}
use Rattle.fmp_recording.proofs.replaying.replay_text.Goals as goal

pub returns-clause-ok : goal.returns-clause-ok
returns-clause-ok c =
    let old = c.args.hosted.now in
    let new = c.replay_lines.new.hosted in
    let now = new.kernel.world.state in
    let done = c.in_ok-replay_lines.ensures.ok in
    let same = ap (λ (s : System). c.replay_lines.new.trace.items ++ states_text (tables_of s) now) done.system in
    let first =
    c.in-Ok.ensures.ok
    ∙ ap (λ (ls : List Line). c.args.trace.now.items ++ lines_text (tables_of old.system) 0 ls) c.lines.ensures in
    record {
      lines = c.as_slice.result.now;
      recorded = search rules;
      trace = whole old.system old.kernel c.as_slice.result.now now c.args.trace.now.items c.print.new.out.items
          c.replay_lines.new.trace.items c.append_states.new.trace.items c.requires first done.text
          (ap (λ (k : ForeignKernel). k.world.state) done.kernel) (c.in-Ok-append_states.ensures.ok ∙ same);
    }

pub returns-in_err-replay_lines-clause-err : goal.returns-in_err-replay_lines-clause-err
returns-in_err-replay_lines-clause-err c =
    let system = c.args.hosted.now.system in
    let p = err_from_is_err_and c.from_residual-in_err-replay_lines.result
    c.from_residual-in_err-replay_lines.ensures.1 in
    let recorded : recorded_of system.processors c.args.recording.now ≡ Ok c.as_slice.result.now = search rules in
    rw (p.1, p.2) (not_run system c.args.recording.now c.args.hosted.now.kernel c.as_slice.result.now
    c.in_err-replay_lines.field-0.0 c.requires recorded c.in_err-replay_lines.ensures.err)

pub returns-in_err-replay_lines-clause-left : goal.returns-in_err-replay_lines-clause-left
returns-in_err-replay_lines-clause-left c =
    let old = c.args.hosted.now in
    let p = err_from_is_err_and c.from_residual-in_err-replay_lines.result
    c.from_residual-in_err-replay_lines.ensures.1 in
    let recorded : recorded_of old.system.processors c.args.recording.now ≡ Ok c.as_slice.result.now = search rules in
    let first =
    c.in-Ok.ensures.ok
    ∙ ap (λ (ls : List Line). c.args.trace.now.items ++ lines_text (tables_of old.system) 0 ls) c.lines.ensures in
    rw (p.1, p.2) (left_by old.system c.args.recording.now old.kernel c.as_slice.result.now c.args.trace.now.items
    c.print.new.out.items c.replay_lines.new.trace.items c.in_err-replay_lines.field-0.0 c.requires recorded first
    c.in_err-replay_lines.ensures.err c.in_err-replay_lines.ensures.stopped)
