use Rattle.std.proofs.Common.{◌≡◌, List, Some, refl, slice_get, subst, sym}
use Rattle.std.proofs.lemmas.Option.{slice_get_read}
use Rattle.fmp_base.specs.declared.events.Event.{Event}
use Rattle.fmp_explore.specs.declared.trying.StateMarks.{StateMarks}
use Rattle.fmp_explore.specs.Searching.{AreMarks, watched_in}
use Rattle.fmp_explore.proofs.MarkLemmas.{marks_more}
use Rattle.fmp_explore.proofs.SearchStepLemmas.{same_grows}
use Rattle.fmp_explore.proofs.TryingLemmas.{one_tried, tried_stays}
use Rattle.fmp_explore.proofs.searches.Search.try_at.Goals as goal
use Rattle.fmp_witness.specs.Asked.{asked_of}

pub may_try-requires : goal.may_try-requires
may_try-requires c = record { few = c.requires.state.few }

pub attempt-requires-clause-attempt : goal.attempt-requires-clause-attempt
attempt-requires-clause-attempt c =
    record { state = c.requires.state; few = c.may_try.ensures.few c.if-not-may_try.false }

pub returns-then-not-may_try-clause-trying : goal.returns-then-not-may_try-clause-trying
returns-then-not-may_try-clause-trying c =
    let asked = asked_of c.args.here.subject.now in
    let t = c.requires.trying in
    let a = c.args.self.now in
    let w = c.args.kernel.now.world in
    let x = watched_in asked.question c.args.here.at.now in
    let e = c.index-event.result.now in
    let found = slice_get_read a.tries.items _ c.args.place c.index-event.result.now refl c.requires.place
    c.index-event.ensures in
    let tried = subst (λ (xs : List Event). slice_get xs c.args.place ≡ Some c.index-event.result.now)
    t.search.table.tries found in
    one_tried asked w x a a c.args.marks.now c.args.marks.now c.args.place e t
    tried (same_grows a) t.marks
    (λ _ may. absurd (c.may_try.ensures.no w c.if-not-may_try.true t.marks may))

pub returns-then-not-branch-clause-trying : goal.returns-then-not-branch-clause-trying
returns-then-not-branch-clause-trying c =
    let asked = asked_of c.args.here.subject.now in
    let t = c.requires.trying in
    let a = c.args.self.now in
    let w = c.args.kernel.now.world in
    let x = watched_in asked.question c.args.here.at.now in
    let e = c.index-event.result.now in
    let dealt = c.in_ok-attempt.ensures.dealt in
    let found = slice_get_read a.tries.items _ c.args.place c.index-event.result.now refl c.requires.place
    c.index-event.ensures in
    let tried = subst (λ (xs : List Event). slice_get xs c.args.place ≡ Some c.index-event.result.now)
    t.search.table.tries found in
    one_tried asked w x a c.attempt.new.self c.args.marks.now c.args.marks.now
    c.args.place e t tried dealt.grows t.marks (λ sure may. dealt.leads sure may)

pub returns-clause-trying : goal.returns-clause-trying
returns-clause-trying c =
    let asked = asked_of c.args.here.subject.now in
    let t = c.requires.trying in
    let a = c.args.self.now in
    let w = c.args.kernel.now.world in
    let x = watched_in asked.question c.args.here.at.now in
    let e = c.index-event.result.now in
    let dealt = c.in_ok-attempt.ensures.dealt in
    let found = slice_get_read a.tries.items _ c.args.place c.index-event.result.now refl c.requires.place
    c.index-event.ensures in
    let tried = subst (λ (xs : List Event). slice_get xs c.args.place ≡ Some c.index-event.result.now)
    t.search.table.tries found in
    let more =
    marks_more asked w x c.args.marks.now e c.keeps_rules.ensures c.requires.ready.sound
    t.marks
    (c.in_ok-attempt.ensures.does c.if-not-branch.false) (c.may_try.ensures.request c.if-not-may_try.false) in
    let marks = subst (λ (m : StateMarks). AreMarks asked w x m)
    (sym c.note.ensures) more in
    tried_stays asked w x c.attempt.new.self _ c.note.new.self _
    (record {
      same = record { tries = refl; fields = refl; first = refl; outs = refl; live = refl };
      seen = refl;
      sure = λ e. e;
    })
    (one_tried asked w x a c.attempt.new.self c.args.marks.now c.note.new.self
    c.args.place e t tried dealt.grows marks (λ sure may. dealt.leads sure may))
