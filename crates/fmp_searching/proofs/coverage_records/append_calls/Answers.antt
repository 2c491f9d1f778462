use Rattle.std.proofs.Common.{append_assoc}
use Rattle.fmp_searching.proofs.coverage_records.append_calls.Goals as goal

pub returns : goal.returns
returns c =
    let unmade = rw c.deref.ensures.value at c.in_ok-append_all_unmade.ensures in
    let answered = rw (c.deref-2.ensures.value, unmade) at c.in_ok-append_answers.ensures in
    rw (c.deref-3.ensures.value, answered, append_assoc, append_assoc) at c.append_all_refused.ensures
