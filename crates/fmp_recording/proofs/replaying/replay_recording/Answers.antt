use Rattle.fmp_recording.proofs.Replays.{if_err_then, leaves_trace, of_described, on_ok_then}
use Rattle.fmp_recording.proofs.replaying.replay_recording.Goals as goal

pub returns-in-Ok-clause-ok : goal.returns-in-Ok-clause-ok
returns-in-Ok-clause-ok c =
    on_ok_then c.replay_text-replayed.result
    (λ h. record { system = c.in-Ok.hosted.system; described = c.in-Ok.ensures.new.read; replayed = h })
    c.replay_text-replayed.ensures.ok

pub returns-in-Ok-clause-err : goal.returns-in-Ok-clause-err
returns-in-Ok-clause-err c =
    if_err_then c.replay_text-replayed.result
    (λ why h. of_described c.args.cfg.now c.args.recording.now c.in-Ok.hosted.system c.in-Ok.ensures.new.read why h)
    c.replay_text-replayed.ensures.err

pub returns-in-Ok-clause-left : goal.returns-in-Ok-clause-left
returns-in-Ok-clause-left c =
    if_err_then c.replay_text-replayed.result
    (λ why h. leaves_trace c.args.cfg.now c.args.recording.now c.in-Ok.hosted.system c.args.trace.now.items
    c.replay_text-replayed.new.trace.items c.in-Ok.ensures.new.read why h)
    c.replay_text-replayed.ensures.left
