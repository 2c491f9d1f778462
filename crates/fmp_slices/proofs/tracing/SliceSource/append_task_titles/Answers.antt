use Rattle.std.proofs.Common.{◌≡◌, ◌<◌, ◌≤◌, ◌∙◌, ℕ, List, ◌++◌, length, get_or, min, take, ap, arith}
use Rattle.fmp_slices.specs.declared.lanes.Lane.{Lane}
use Rattle.fmp_slices.specs.Tracks.{task_lane}
use Rattle.fmp_slices.specs.Traces.{task_title, track_title}
use Rattle.fmp_slices.proofs.Drops.{drop_all_taken, drop_taken}
use Rattle.fmp_slices.proofs.Joined.{texts_end, texts_next}
use Rattle.fmp_slices.proofs.tracing.SliceSource.append_task_titles.Goals as goal

pub loop-place-preserved : goal.loop-place-preserved
loop-place-preserved c =
    let all = c.args.self.sys.now.tasks in
    let place = c.loop-place.place in
    let config = c.index.result.now in
    let old = c.loop-place.out.items in
    let within : place < length all.items = omega (arith, all.ok.0) in
    let is : config ≡ get_or all.items place config = cc in
    let wrote : c.append_track.new.out.items ≡ old ++ task_title place config =
    c.in_ok-append_track.ensures
    ∙ ap (λ (on : Lane). old ++ track_title on c.as_bytes.result.now) c.task_lane.ensures
    ∙ ap (λ (name : List ℕ). old ++ track_title (task_lane place) name) c.as_bytes.ensures in
    texts_next task_title _ old _ (take 255 all.items) place config
    (drop_taken all.items 255 place config (omega arith) within is) wrote c.loop-place.invariant

pub returns : goal.returns
returns c =
    let all = c.args.self.sys.now.tasks in
    let place = c.loop-place.place in
    let reach : min (length all.items) 255 ≤ place = omega (arith, all.ok.0) in
    texts_end task_title _ c.loop-place.out.items _ place (drop_all_taken all.items 255 place reach)
    c.loop-place.invariant
