use Rattle.std.proofs.Common.{◌≡◌, ◌≤◌, ◌+◌, List, ap, arith, false, length, refl, subst, sym}
use Rattle.fmp_base.specs.declared.events.Event.{Event}
use Rattle.fmp_schedules.specs.Monitors.{is_any_broken_in}
use Rattle.fmp_schedules.specs.Tries.{all_tries}
use Rattle.fmp_schedules.specs.declared.monitor.Monitor.{Monitor}
use Rattle.fmp_explore.proofs.MarkLemmas.{running_free}
use Rattle.fmp_explore.proofs.SearchStepLemmas.{same_self}
use Rattle.fmp_explore.proofs.TryingLemmas.{all_tried, fewer_of}
use Rattle.fmp_explore.proofs.searches.Search.finish_busy.Goals as goal
use Rattle.fmp_witness.specs.Asked.{asked_of}

pub returns-clause-tried : goal.returns-clause-tried
returns-clause-tried c =
    let asked = asked_of c.args.here.subject.now in
    let w = c.args.kernel.now.world in
    let a = c.args.self.now in
    let b = c.try_at.new.self in
    let t = c.in_ok-try_at.ensures in
    let same = ap (λ (es : List Event). length es) c.requires.trying.search.table.tries in
    let long = a.tries.ok.0 in
    let all : length (all_tries asked.image.system) ≤ c.args.last + 1 = omega (arith, same, long, c.requires.last) in
    all_tried asked w _ a b b c.try_at.new.marks c.keeps_rules.ensures
    (fewer_of asked w _ a b c.try_at.new.marks (c.args.last + 1) (length (all_tries asked.image.system)) all
    (record { trying = t.trying; grows = t.grows }))
    (record {
      stays = record { same = same_self b; seen = refl; sure = λ e. e };
      upheld = λ _. subst (λ (ms : List Monitor). is_any_broken_in ms w.state ≡ false) (sym c.requires.none) refl;
      free = λ _. running_free asked w _ c.args.marks c.requires.trying.marks c.requires.busy;
    })
