use Rattle.std.proofs.Common.{◌≡◌, ◌∙◌, ◌++◌, Some, ap, sym}
use Rattle.std.specs.Prelude.{slice_get}
use Rattle.fmp_slices.specs.declared.lanes.Lane.{Lane}
use Rattle.fmp_slices.specs.Tracks.{processor_lane}
use Rattle.fmp_slices.specs.Traces.{source_of, turn_text}
use Rattle.fmp_slices.proofs.Drops.{drop_found}
use Rattle.fmp_slices.proofs.Joined.{pieces_next}
use Rattle.fmp_slices.proofs.tracing.SliceSource.append_processor.Goals as goal
use Rattle.fmp_timeline.specs.Tracks.{stays_of}

pub loop-number-preserved : goal.loop-number-preserved
loop-number-preserved c =
    let s = source_of c.args.self in
    let stay = c.in-Some.stay in
    let stays = stays_of c.args.track.now in
    let old = c.loop-number.out.items in
    let found : slice_get stays c.loop-number.number ≡ Some stay = sym c.in-Some.ensures in
    let wrote : c.append_turn.new.out.items ≡ old ++ turn_text s (processor_lane c.args.place) stay =
    c.in_ok-append_turn.ensures ∙ ap (λ (on : Lane). old ++ turn_text s on stay) c.processor_lane.ensures in
    pieces_next (turn_text s (processor_lane c.args.place)) _ old _ stays c.loop-number.number stay
    (drop_found stays c.loop-number.number stay found) wrote c.loop-number.invariant
