use Rattle.std.proofs.Common.{ap, sym, ◌∙◌}
use Rattle.fmp_timeline.specs.Recordings.{changed_at, changes_in}
use Rattle.fmp_timeline.specs.Tracks.{shown}
use Rattle.fmp_timeline.proofs.Recordings.{shown_next}
use Rattle.fmp_timeline.proofs.recording.show_all.Goals as goal

pub loop-place-preserved : goal.loop-place-preserved
loop-place-preserved g c =
    c.in_ok-show_at.ensures
    ∙ ap
    (λ all. changed_at (shown g.S.PartialEq.eq c.args.event c.index-states-place.result) all c.loop-place.place)
    c.loop-place.invariant
    ∙ sym
    (shown_next g.S.PartialEq.eq c.args.event c.args.states.now (changes_in c.args.tracks.now) c.loop-place.place
    c.index-states-place.result c.loop-place-test.true c.index-states-place.is)
