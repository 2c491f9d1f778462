use Rattle.fmp_hostrun.proofs.Counting.{counted_ok, is_run_of, not_full}
use Rattle.fmp_engine.proofs.hosting.run_board.Goals as goal

pub returns-in-Ok-clause-counted : goal.returns-in-Ok-clause-counted
returns-in-Ok-clause-counted g c =
    counted_ok _ _ _ _ _ _ _ _ c.requires.new c.requires.count (rw c.in-Ok.is at c.run_work-seats.ensures.added)
    c.close_all-closed.ensures.counted

pub returns-in-Ok-clause-ran : goal.returns-in-Ok-clause-ran
returns-in-Ok-clause-ran g c =
    is_run_of _ _ _ _ _ _ _ _ _ c.requires.new c.requires.count c.requires.room
    (rw c.in-Ok.is at c.run_work-seats.ensures.answer) c.close_all-closed.ensures.counted

pub returns-in-Err-clause-fault : goal.returns-in-Err-clause-fault
returns-in-Err-clause-fault g c =
    let other = rw c.in-Err.is at c.run_work-seats.ensures.fault in (
      other.0,
      other.1,
      other.2,
      not_full _ _ _ _ _ _ _ _ _ c.requires.new c.requires.count c.requires.room
          (rw c.in-Err.is at c.run_work-seats.ensures.added) c.close_all-closed.ensures.counted
          (rw c.in-Err.is at c.run_work-seats.ensures.answer),
    )
