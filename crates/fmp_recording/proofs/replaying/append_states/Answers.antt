use Rattle.std.proofs.Common.{◌≡◌, ◌∙◌, ◌++◌, List, ℕ, ap, length, map}
use Rattle.fmp_base.specs.Runs.{task_state}
use Rattle.fmp_base.specs.States.{places_from}
use Rattle.fmp_base.specs.Systems.{SystemTables, tables_of}
use Rattle.fmp_recording.proofs.Replays.{listed, on_ok_then}
use Rattle.fmp_recording.proofs.replaying.append_states.Goals as goal

pub returns : goal.returns
returns c =
    let now = c.args.hosted.now.kernel.world.state in
    let sys = tables_of c.args.hosted.now.system in
    let states : c.as_slice.result.now ≡ map (task_state now) (places_from 0 (length sys.tasks)) =
    c.as_slice.ensures.value ∙ c.in_ok-states.ensures
    ∙ ap (λ (s : SystemTables). map (task_state now) (places_from 0 (length s.tasks))) c.requires in
    record {
      ok = on_ok_then c.print_states.result
          (λ h. h ∙ ap (λ (text : List ℕ). c.args.trace.now.items ++ text)
          (listed sys now c.as_slice.result.now states))
          c.print_states.ensures.ok;
      err = c.print_states.ensures.err;
    }
