use Rattle.std.proofs.Common.{◌≡◌, ◌-◌, ◌∙◌, List, Some, ap, length, refl, slice_get, sym, take}
use Rattle.std.proofs.lemmas.Option.{slice_get_read}
use Rattle.fmp_schedules.specs.declared.monitor.Monitor.{Monitor}
use Rattle.fmp_witness.specs.Asked.{asked_of}
use Rattle.fmp_witness.proofs.BreachLemmas.{last_apart, so_breached, some_last}
use Rattle.fmp_witness.proofs.finding.is_breached.Goals as goal

pub returns : goal.returns
returns c = λ broken.
    let s = c.args.subject.now in
    let es = c.args.steps.now in
    let monitor : Monitor = c.in-Some.monitor.now in
    let place = c.args.breached.monitor in
    let look = c.in-Some.ensures.lookup in
    let read = slice_get_read c.deref.result.now (length c.deref.result.now) place monitor refl look.3.0 look.1 in
    let there : slice_get s.question.now.monitors.items place ≡ Some monitor =
    ap (λ (ss : List Monitor). slice_get ss place) (sym c.deref.ensures.value) ∙ read in
    let size = some_last es (sym c.if-is_empty.false ∙ c.is_empty.ensures) in
    so_breached (asked_of s) es (take (length es - 1) es) _ monitor c.args.breached
    (last_apart es (length es - 1) _ size) there (c.is_broken.ensures broken)
