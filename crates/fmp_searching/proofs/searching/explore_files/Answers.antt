use Rattle.fmp_searching.proofs.Doing.{idly_refused, refusal_may}
use Rattle.fmp_searching.proofs.Printing.{or_weaker}
use Rattle.fmp_searching.proofs.ShownLemmas.{of_files}
use Rattle.fmp_searching.proofs.searching.explore_files.Goals as goal

pub returns-in-Ok-clause-holds : goal.returns-in-Ok-clause-holds
returns-in-Ok-clause-holds g c = λ zero.
    let of_cfg = rw c.deref.ensures.value at c.explore_texts.ensures.holds in
    let of_both = rw c.deref-in-Ok.ensures.value at of_cfg in
    let claimed = rw c.deref-in-Ok-2.ensures.value at of_both in
    record {
      cfg = c.in-Ok.cfg.items;
      is_cfg = c.in-Ok.ensures.cfg;
      src = c.in-Ok.src.items;
      is_src = c.in-Ok.ensures.src;
      holds = record { said = c.in-Ok.said.items; is_said = c.in-Ok.ensures.said; holds = claimed zero };
    }

pub returns-in-Ok-clause-ended : goal.returns-in-Ok-clause-ended
returns-in-Ok-clause-ended g c = λ told.
    let of_cfg = rw c.deref.ensures.value at c.explore_texts.ensures.ended in
    let of_both = rw c.deref-in-Ok.ensures.value at of_cfg in
    let ends = rw c.deref-in-Ok-2.ensures.value at of_both in
    record {
      cfg = c.in-Ok.cfg.items;
      is_cfg = c.in-Ok.ensures.cfg;
      src = c.in-Ok.src.items;
      is_src = c.in-Ok.ensures.src;
      holds = record { said = c.in-Ok.said.items; is_said = c.in-Ok.ensures.said; holds = ends told };
    }

pub returns-in-Ok-clause-mistaken : goal.returns-in-Ok-clause-mistaken
returns-in-Ok-clause-mistaken g c = λ two.
    let of_cfg = rw c.deref.ensures.value at c.explore_texts.ensures.mistaken in
    let of_both = rw c.deref-in-Ok.ensures.value at of_cfg in
    let told = rw c.deref-in-Ok-2.ensures.value at of_both in
    or_weaker
    (λ h. record {
      cfg = c.in-Ok.cfg.items;
      is_cfg = c.in-Ok.ensures.cfg;
      src = c.in-Ok.src.items;
      is_src = c.in-Ok.ensures.src;
      holds = record { said = c.in-Ok.said.items; is_said = c.in-Ok.ensures.said; holds = h };
    })
    (told two)

pub returns-in-Ok-clause-shown : goal.returns-in-Ok-clause-shown
returns-in-Ok-clause-shown g c =
    let of_cfg = rw c.deref.ensures.value at c.explore_texts.ensures.shown in
    let of_both = rw c.deref-in-Ok.ensures.value at of_cfg in
    let told = rw c.deref-in-Ok-2.ensures.value at of_both in
    of_files _ _ _ _ _ _ _
    (λ h. record {
      cfg = c.in-Ok.cfg.items;
      is_cfg = c.in-Ok.ensures.cfg;
      src = c.in-Ok.src.items;
      is_src = c.in-Ok.ensures.src;
      holds = record { said = c.in-Ok.said.items; is_said = c.in-Ok.ensures.said; holds = h };
    })
    told

pub returns-in-Err-clause-shown : goal.returns-in-Err-clause-shown
returns-in-Err-clause-shown g c = idly_refused _ _ c.end.ensures.said

pub returns-in-Err-clause-keeps : goal.returns-in-Err-clause-keeps
returns-in-Err-clause-keeps g c = λ apart.
    let done = g.O.Outside.done in
    refusal_may c.args.exploring.now _ (done c.args.outside.now) (done c.end.new.outside) c.end.ensures.said
