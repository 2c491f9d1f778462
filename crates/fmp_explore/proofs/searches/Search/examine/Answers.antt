use Rattle.std.proofs.Common.{◌<◌, length, refl, subst, sym, ℕ}
use Rattle.std.proofs.lemmas.Result.{IfOk-weaker}
use Rattle.std.specs.Prelude.{[], slice_get, unwrap_or}
use Rattle.fmp_explore.specs.Searching.{HasExamined, HasTold}
use Rattle.fmp_explore.proofs.SearchLemmas.{state_examined, state_lost}
use Rattle.fmp_explore.proofs.SearchStepLemmas.{same_live, stays_on, stays_search}
use Rattle.fmp_visited.specs.Seen.{SeenStates}
use Rattle.fmp_explore.proofs.searches.Search.examine.Goals as goal
use Rattle.fmp_witness.specs.Asked.{asked_of}

pub stand_at-requires-clause-live : goal.stand_at-requires-clause-live
stand_at-requires-clause-live c =
    same_live (asked_of c.args.subject.now) c.args.self.now c.examined.new.self c.examined.ensures.stays.same
    c.requires.search.table.live

pub stand_at-requires-clause-there : goal.stand_at-requires-clause-there
stand_at-requires-clause-there c =
    subst (λ (s : SeenStates). c.in_ok-at.at.state < length s.rows) (sym c.examined.ensures.stays.seen)
    (subst (λ (state : ℕ). state < length c.args.self.now.seen.rows) (sym c.in_ok-at.ensures.state) c.requires.there)

pub stand_at-requires-clause-told : goal.stand_at-requires-clause-told
stand_at-requires-clause-told c =
    let s = c.examined.new.self in
    subst (λ (state : ℕ). HasTold s.rows (unwrap_or (slice_get s.seen.rows state) [])) (sym c.in_ok-at.ensures.state)
    c.in_ok-at.ensures.row

pub examine_on-requires-clause-search : goal.examine_on-requires-clause-search
examine_on-requires-clause-search c =
    let asked = asked_of c.args.subject.now in
    stays_search asked c.args.self.now c.stand_at.new.self
    (stays_on c.args.self.now c.examined.new.self c.stand_at.new.self c.examined.ensures.stays
    c.stand_at.ensures.stays) c.requires.search

pub examine_on-requires-clause-ready : goal.examine_on-requires-clause-ready
examine_on-requires-clause-ready c = (c.in_ok-stand_at.ensures.stands c.if-not-branch.false).ready

pub returns-then-not-branch-clause-examined : goal.returns-then-not-branch-clause-examined
returns-then-not-branch-clause-examined c =
    let asked = asked_of c.args.subject.now in
    state_lost asked c.args.self.now _ c.args.state c.requires.search
    (stays_on c.args.self.now c.examined.new.self _ c.examined.ensures.stays
    (stays_on c.examined.new.self c.stand_at.new.self _ c.stand_at.ensures.stays
    (record {
      same = record { tries = refl; fields = refl; first = refl; outs = refl; live = refl };
      seen = refl;
      sure = λ e. absurd (cc (e));
    })))
    refl

pub returns-clause-examined : goal.returns-clause-examined
returns-clause-examined c =
    let asked = asked_of c.args.subject.now in
    let at = c.in_ok-at.at in
    IfOk-weaker c.examine_on.result _ _
    (λ _ tried. subst (λ (state : ℕ). HasExamined asked c.args.self.now c.examine_on.new.self
    state) c.in_ok-at.ensures.state
    (state_examined asked c.args.self.now c.stand_at.new.self c.examine_on.new.self at
    c.stand_at.new.kernel
    (stays_on c.args.self.now c.examined.new.self c.stand_at.new.self c.examined.ensures.stays
    c.stand_at.ensures.stays) (c.in_ok-stand_at.ensures.stands c.if-not-branch.false) tried))
    c.examine_on.ensures.tried

pub stand_at-requires-clause-other : goal.stand_at-requires-clause-other
stand_at-requires-clause-other c = c.requires.kernels.work

pub stand_at-requires-clause-over : goal.stand_at-requires-clause-over
stand_at-requires-clause-over c = c.requires.kernels.top

pub examine_on-requires-clause-work : goal.examine_on-requires-clause-work
examine_on-requires-clause-work c = c.requires.kernels.work

pub returns-then-not-branch-clause-kernels : goal.returns-then-not-branch-clause-kernels
returns-then-not-branch-clause-kernels c = record { top = c.stand_at.ensures.over; work = c.requires.kernels.work }
