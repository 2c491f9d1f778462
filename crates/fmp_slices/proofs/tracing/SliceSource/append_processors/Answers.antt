use Rattle.std.proofs.Common.{◌≡◌, ◌<◌, ◌≤◌, length, get_or, min, take, arith}
use Rattle.fmp_slices.specs.Traces.{source_of, turns_text}
use Rattle.fmp_slices.proofs.Drops.{drop_all_taken, drop_taken}
use Rattle.fmp_slices.proofs.Joined.{texts_end, texts_next}
use Rattle.fmp_slices.proofs.tracing.SliceSource.append_processors.Goals as goal

pub loop-place-preserved : goal.loop-place-preserved
loop-place-preserved c =
    let all = c.args.self.run.now.occupants in
    let place = c.loop-place.place in
    let track = c.index.result.now in
    let within : place < length all.items = omega (arith, all.ok.0) in
    let is : track ≡ get_or all.items place track = cc in
    texts_next (turns_text (source_of c.args.self)) _ c.loop-place.out.items _ (take 255 all.items) place track
    (drop_taken all.items 255 place track (omega arith) within is) c.in_ok-append_processor.ensures
    c.loop-place.invariant

pub returns : goal.returns
returns c =
    let all = c.args.self.run.now.occupants in
    let place = c.loop-place.place in
    let reach : min (length all.items) 255 ≤ place = omega (arith, all.ok.0) in
    texts_end (turns_text (source_of c.args.self)) _ c.loop-place.out.items _ place
    (drop_all_taken all.items 255 place reach)
    c.loop-place.invariant
