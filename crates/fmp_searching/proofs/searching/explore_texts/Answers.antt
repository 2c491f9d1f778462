use Rattle.fmp_searching.proofs.Doing.{tells_may}
use Rattle.fmp_searching.proofs.ShownLemmas.{fault_of_texts}
use Rattle.fmp_searching.proofs.searching.explore_texts.Goals as goal

pub returns-in-Err-clause-shown : goal.returns-in-Err-clause-shown
returns-in-Err-clause-shown g c =
    fault_of_texts _ _ _ _ _ _ _ c.refuse_texts.ensures.tells c.refuse_texts.ensures.shown

pub returns-in-Err-clause-keeps : goal.returns-in-Err-clause-keeps
returns-in-Err-clause-keeps g c = λ apart.
    let done = g.O.Outside.done in
    tells_may c.args.opened.now.exploring.now _ (done c.args.outside.now) (done c.refuse_texts.new.outside)
    c.refuse_texts.ensures.tells
