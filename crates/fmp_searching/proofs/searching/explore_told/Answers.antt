use Rattle.std.proofs.Common.{subst}
use Rattle.std.proofs.lemmas.Result.{IfOk-weaker}
use Rattle.fmp_searching.specs.Claimed.{HasClaimed, HasEnded, HasShown, HasShownAll}
use Rattle.fmp_searching.specs.Deeds.{DoesOnly, MayDo}
use Rattle.fmp_searching.specs.Sources.{SourceTables}
use Rattle.fmp_searching.proofs.searching.explore_told.Goals as goal

pub returns-clause-shown : goal.returns-clause-shown
returns-clause-shown g c =
    IfOk-weaker c.explore_sources.result _ _
    (λ status h. record {
      names = c.args.sources.now.names.now;
      so =
          subst
          (λ (s : SourceTables). HasShown c.args.opened.now.exploring.now s (g.O.Outside.done c.args.outside.now)
          (g.O.Outside.done c.explore_sources.new.outside))
          c.requires.same h;
    }) c.explore_sources.ensures.shown

pub returns-clause-claimed : goal.returns-clause-claimed
returns-clause-claimed g c =
    IfOk-weaker c.explore_sources.result _ _
    (λ status h is. record {
      names = c.args.sources.now.names.now;
      so =
          subst (λ (s : SourceTables). HasClaimed s (g.O.Outside.done c.explore_sources.new.outside)) c.requires.same
          (h is);
    }) c.explore_sources.ensures.claimed

pub returns-clause-ended : goal.returns-clause-ended
returns-clause-ended g c =
    IfOk-weaker c.explore_sources.result _ _
    (λ status h is. record {
      names = c.args.sources.now.names.now;
      so =
          subst
          (λ (s : SourceTables). HasEnded c.args.opened.now.exploring.now s status
          (g.O.Outside.done c.explore_sources.new.outside))
          c.requires.same (h is);
    }) c.explore_sources.ensures.ended

pub returns-clause-mistaken : goal.returns-clause-mistaken
returns-clause-mistaken g c =
    IfOk-weaker c.explore_sources.result _ _
    (λ status h is. record {
      names = c.args.sources.now.names.now;
      so =
          subst (λ (s : SourceTables). HasShownAll s (g.O.Outside.done c.explore_sources.new.outside)) c.requires.same
          (h is);
    }) c.explore_sources.ensures.mistaken

pub returns-clause-keeps : goal.returns-clause-keeps
returns-clause-keeps g c = λ apart.
    let done = g.O.Outside.done in
    subst
    (λ (s : SourceTables). DoesOnly (MayDo c.args.opened.now.exploring.now s.out) (done c.args.outside.now)
    (done c.explore_sources.new.outside))
    c.requires.same (c.explore_sources.ensures.keeps apart)
