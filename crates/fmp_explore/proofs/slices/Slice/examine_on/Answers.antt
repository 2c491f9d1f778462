use Rattle.std.proofs.Common.{refl, subst, ℕ}
use Rattle.std.proofs.lemmas.Result.{IfOk-weaker}
use Rattle.fmp_explore.specs.Slices.{HasExaminedFirst}
use Rattle.fmp_explore.proofs.SearchStepLemmas.{stays_grows, stays_search}
use Rattle.fmp_explore.proofs.SliceLemmas.{taken_examined}
use Rattle.fmp_explore.proofs.slices.Slice.examine_on.Goals as goal
use Rattle.fmp_witness.specs.Asked.{asked_of}

pub examine_first-requires-clause-search : goal.examine_first-requires-clause-search
examine_first-requires-clause-search c =
    stays_search (asked_of c.args.subject.now) c.args.self.now.search c.cover.new.self c.in_ok-cover.ensures
    c.requires.search

pub returns : goal.returns
returns c = λ whole taken.
    let asked = asked_of c.args.subject.now in
    let a = c.args.self.now in
    let b = c.cover.new.self in
    IfOk-weaker c.examine_first.result _ _
    (λ _ x.
    taken_examined asked whole a (record a { search = c.examine_first.new.self }) b taken refl
    (stays_grows a.search b c.in_ok-cover.ensures)
    (subst (λ (count : ℕ). HasExaminedFirst asked count b c.examine_first.new.self) c.len-count.ensures x))
    c.examine_first.ensures
