use Rattle.std.proofs.Common.{inl}
use Rattle.fmp_searching.proofs.Doing.{tells_may}
use Rattle.fmp_searching.proofs.Printing.{or_weaker}
use Rattle.fmp_searching.proofs.ShownLemmas.{fault_of_texts}
use Rattle.fmp_searching.proofs.searching.explore_system.Goals as goal

pub returns-in-Ok-clause-holds : goal.returns-in-Ok-clause-holds
returns-in-Ok-clause-holds g c = λ zero.
    record {
      image = c.in-Ok.image;
      builds = c.in-Ok.ensures.builds;
      configured = c.args.configured.now;
      described = c.requires.described;
      holds = c.explore_status-status.ensures.holds zero;
    }

pub returns-in-Ok-clause-ended : goal.returns-in-Ok-clause-ended
returns-in-Ok-clause-ended g c = λ told.
    record {
      image = c.in-Ok.image;
      builds = c.in-Ok.ensures.builds;
      configured = c.args.configured.now;
      described = c.requires.described;
      holds = c.explore_status-status.ensures.ended told;
    }

pub returns-in-Ok-clause-mistaken : goal.returns-in-Ok-clause-mistaken
returns-in-Ok-clause-mistaken g c = λ two.
    or_weaker
    (λ h. record {
      image = c.in-Ok.image;
      builds = c.in-Ok.ensures.builds;
      configured = c.args.configured.now;
      described = c.requires.described;
      holds = h;
    })
    (c.explore_status-status.ensures.mistaken two)

pub returns-in-Ok-clause-shown : goal.returns-in-Ok-clause-shown
returns-in-Ok-clause-shown g c =
    or_weaker
    (λ h. inl (record {
      image = c.in-Ok.image;
      builds = c.in-Ok.ensures.builds;
      configured = c.args.configured.now;
      described = c.requires.described;
      holds = h;
    }))
    c.explore_status-status.ensures.shown

pub returns-in-Err-clause-shown : goal.returns-in-Err-clause-shown
returns-in-Err-clause-shown g c =
    fault_of_texts _ _ _ _ _ _ _ c.refuse_texts.ensures.tells c.refuse_texts.ensures.shown

pub returns-in-Err-clause-keeps : goal.returns-in-Err-clause-keeps
returns-in-Err-clause-keeps g c = λ apart.
    let done = g.O.Outside.done in
    tells_may c.args.opened.now.exploring.now _ (done c.args.outside.now) (done c.refuse_texts.new.outside)
    c.refuse_texts.ensures.tells
