use Rattle.std.proofs.Common.{◌≡◌, ◌<◌, ◌∙◌, length}
use Rattle.std.specs.Prelude.{slice_index_or}
use Rattle.std.proofs.lemmas.List.{get_or_read}
use Rattle.fmp_ready.specs.ReadyLists.{AreExact}
use Rattle.fmp_ready.proofs.TopLemmas.{top-some, top-none}
use Rattle.fmp_ready.proofs.queues.ReadyQueues.top.Goals as goal

pub returns-in-Some-clause-value : goal.returns-in-Some-clause-value
returns-in-Some-clause-value c =
    let exact : AreExact c.self.inside.bitmaps.items c.args.rings.now = rw (← c.self.view_is) at c.requires.exact in
    let there : c.args.p < length c.self.inside.bitmaps.items = rw (← c.self.view_is) at c.requires.processor in
    let bitmap : c.index.result.now ≡ slice_index_or c.self.inside.bitmaps.items c.args.p 0 = get_or_read _ _ _ there
    c.index.ensures 0 in
    let lowest = c.in-Some.ensures in
    c.as_byte.ensures ∙ c.first.ensures.value ∙ top-some _ _ _ _ exact there lowest.0 (rw bitmap at lowest.1)
    (rw bitmap at lowest.2)

pub returns-in-None-clause-value : goal.returns-in-None-clause-value
returns-in-None-clause-value c =
    let exact : AreExact c.self.inside.bitmaps.items c.args.rings.now = rw (← c.self.view_is) at c.requires.exact in
    let there : c.args.p < length c.self.inside.bitmaps.items = rw (← c.self.view_is) at c.requires.processor in
    let bitmap : c.index.result.now ≡ slice_index_or c.self.inside.bitmaps.items c.args.p 0 = get_or_read _ _ _ there
    c.index.ensures 0 in
    top-none _ _ _ exact there (rw bitmap at c.in-None.ensures)
