use Rattle.std.proofs.Common.{◌≡◌, ◌∙◌, ℕ, ap, arith, false, length, map, subst}
use Rattle.fmp_searching.specs.Claimed.{text_of}
use Rattle.fmp_searching.specs.Files.{RemovesSteps, is_refusal}
use Rattle.fmp_searching.proofs.Doing.{idle_writes, on_err, only_then, removes_idle, removes_may, removes_quiet}
use Rattle.fmp_searching.proofs.Doing.{says_idle, says_may, says_quiet}
use Rattle.fmp_searching.proofs.Endings.{told_after, two_after}
use Rattle.fmp_searching.proofs.Printing.{no_image, quiet_then}
use Rattle.fmp_searching.proofs.searching.explore_sources.Goals as goal

pub returns-clause-shown : goal.returns-clause-shown
returns-clause-shown g c =
    let done = g.O.Outside.done in
    let e = c.args.exploring.now in
    let out = c.args.sources.now.named.out.now in
    let x = c.in_ok-explored.explored in
    record {
      explored = c.in_ok-explored.explored;
      is = c.in_ok-explored.ensures.explored;
      before = done c.write_report-written.new.outside;
      quiet =
          quiet_then _ _ _
          (says_quiet (done c.args.outside.now) (done c.explored_aloud.new.outside) c.explored_aloud.ensures.says)
          (quiet_then _ _ _
          (removes_quiet e _ _ (done c.explored_aloud.new.outside) (done c.remove_earlier.new.outside)
          c.remove_earlier.ensures)
          c.write_report-written.ensures.quiet);
      prints = c.give-status.ensures.text;
      writes =
          only_then _ _ _
          (idle_writes e out x (done c.args.outside.now) (done c.explored_aloud.new.outside)
          (says_idle (done c.args.outside.now) (done c.explored_aloud.new.outside) c.explored_aloud.ensures.says))
          (only_then _ _ _
          (idle_writes e out x (done c.explored_aloud.new.outside) (done c.remove_earlier.new.outside)
          (removes_idle e out _ (done c.explored_aloud.new.outside) (done c.remove_earlier.new.outside)
          c.remove_earlier.ensures))
          (only_then _ _ _ (c.write_report-written.ensures.writes out) c.give-status.ensures.writes));
    }

pub returns-clause-keeps : goal.returns-clause-keeps
returns-clause-keeps g c = λ apart.
    let done = g.O.Outside.done in
    let e = c.args.exploring.now in
    let out = c.args.sources.now.named.out.now in
    let told = done c.explored_aloud.new.outside in
    only_then _ _ _ (says_may e out (done c.args.outside.now) told c.explored_aloud.ensures.says)
    (only_then _ _ _ (removes_may e out _ told (done c.remove_earlier.new.outside) c.remove_earlier.ensures)
    (only_then _ _ _ (c.write_report-written.ensures.keeps out apart) c.give-status.ensures.keeps))

pub returns-in_err-explored-clause-quiet : goal.returns-in_err-explored-clause-quiet
returns-in_err-explored-clause-quiet g c =
    let done = g.O.Outside.done in
    on_err c.from_residual.result
    (says_idle (done c.args.outside.now) (done c.explored_aloud.new.outside) c.explored_aloud.ensures.says)

pub returns-in_err-explored-clause-keeps : goal.returns-in_err-explored-clause-keeps
returns-in_err-explored-clause-keeps g c = λ apart.
    let done = g.O.Outside.done in
    says_may c.args.exploring.now c.args.sources.now.named.out.now (done c.args.outside.now)
    (done c.explored_aloud.new.outside) c.explored_aloud.ensures.says

pub returns-in_err-remove_earlier-clause-quiet : goal.returns-in_err-remove_earlier-clause-quiet
returns-in_err-remove_earlier-clause-quiet g c =
    let done = g.O.Outside.done in
    on_err c.from_residual-in_err-remove_earlier.result
    (only_then _ _ _
    (says_idle (done c.args.outside.now) (done c.explored_aloud.new.outside) c.explored_aloud.ensures.says)
    (removes_idle c.args.exploring.now _ _ (done c.explored_aloud.new.outside) (done c.remove_earlier.new.outside)
    c.remove_earlier.ensures))

pub returns-in_err-remove_earlier-clause-keeps : goal.returns-in_err-remove_earlier-clause-keeps
returns-in_err-remove_earlier-clause-keeps g c = λ apart.
    let done = g.O.Outside.done in
    let e = c.args.exploring.now in
    let out = c.args.sources.now.named.out.now in
    let told = done c.explored_aloud.new.outside in
    only_then _ _ _ (says_may e out (done c.args.outside.now) told c.explored_aloud.ensures.says)
    (removes_may e out _ told (done c.remove_earlier.new.outside) c.remove_earlier.ensures)

pub returns-clause-claimed : goal.returns-clause-claimed
returns-clause-claimed g c = λ zero.
    let explored = c.in_ok-explored.ensures.explored in
    let clean = explored.tells.clean (c.give-status.ensures.status (c.status_after.ensures.zero zero)) in
    let steps = c.in_ok-explored.explored.steps.items in
    let no_steps = no_image (λ text. text.items) steps (explored.tells.steps ∙ ap (map text_of) clean.none) in
    record {
      nothing = explored.nothing clean.holds;
      report = explored.report;
      clean = clean;
      seen = explored.tells.seen;
      text = c.in_ok-explored.explored.text.items;
      is = explored.tells.text;
      printed = (_, c.give-status.ensures.printed (c.status_after.ensures.zero zero) no_steps);
    }

pub returns-clause-ended : goal.returns-clause-ended
returns-clause-ended g c = λ told.
    let done = g.O.Outside.done in
    let e = c.args.exploring.now in
    let out = c.args.sources.now.named.out.now in
    let steps = c.in_ok-explored.explored.steps in
    let count : c.len.result ≡ length steps.items = omega (arith, c.len.ensures, steps.ok.0) in
    let after =
    told_after c.write_report-written.result c.give-status.result c.status_after.result
    c.write_report-written.ensures.status c.status_after.ensures.value told in
    let given = c.give-status.ensures.given (subst (λ (r : ℕ). is_refusal r ≡ false) after.1 told) in
    record {
      explored = c.in_ok-explored.explored;
      is = c.in_ok-explored.ensures.explored;
      status_is = after.1 ∙ given.0;
      searched = _;
      cleared = _;
      clears =
          subst
          (λ (n : ℕ). RemovesSteps e out n (done c.explored_aloud.new.outside) (done c.remove_earlier.new.outside))
          count c.remove_earlier.ensures;
      reported = _;
      reports = c.write_report-written.ensures.written after.0;
      gives = given.1;
      claimed = returns-clause-claimed g c;
    }

pub returns-clause-mistaken : goal.returns-clause-mistaken
returns-clause-mistaken g c = λ two.
    record {
      explored = c.in_ok-explored.explored;
      is = c.in_ok-explored.ensures.explored;
      before = _;
      prints =
          c.give-status.ensures.mistaken
          (two_after c.write_report-written.result c.give-status.result c.status_after.result
          c.write_report-written.ensures.status c.status_after.ensures.value two);
    }
