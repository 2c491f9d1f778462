use Rattle.std.proofs.Common.{◌≡◌, take}
use Rattle.fmp_timeline.specs.Recordings.{all_shown, changes_in}
use Rattle.fmp_timeline.proofs.recording.show_all.Given as goal

abbrev pub invariant-loop-place : goal.invariant-loop-place
invariant-loop-place g l =
    changes_in l.tracks ≡ all_shown g.S.PartialEq.eq l.event (take l.place l.states) (changes_in l.initial.tracks)
