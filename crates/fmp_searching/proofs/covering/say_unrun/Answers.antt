use Rattle.fmp_searching.proofs.covering.say_unrun.Goals as goal

pub returns : goal.returns
returns c =
    let tasks =
    rw (c.new-words.ensures.items, c.deref.ensures.value, c.deref-2.ensures.value) at c.in_ok-say_unrun_rows.ensures in
    let both = rw (c.deref-3.ensures.value, c.deref-4.ensures.value, tasks) at c.in_ok-say_unrun_rows-2.ensures in
    rw (c.deref-5.ensures.value, both) at c.say_row.ensures
