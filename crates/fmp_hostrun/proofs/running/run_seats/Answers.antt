use Rattle.std.proofs.Common.{rules}
use denote.Param.Send.{sendable}
use Rattle.fmp_board.proofs.Crossing.{board_sync}
use Rattle.fmp_hostrun.proofs.Joining.{has_full, is_answer, never_held, not_limit, not_stale}
use Rattle.fmp_hostrun.proofs.Starting.{all_as_they_were, all_at, kept_as_they_were, kept_back, same_count}
use Rattle.fmp_hostrun.proofs.running.run_seats.Goals as goal

pub run_threads-requires-sync-B : goal.run_threads-requires-sync-B
run_threads-requires-sync-B g c κs within = search (board_sync, c.type_bounds.send-S, sendable) depth 20

pub returns-in_default-clause-seats : goal.returns-in_default-clause-seats
returns-in_default-clause-seats g c = kept_as_they_were _ _ _ _ _ (search rules)

pub returns-in_default-clause-added : goal.returns-in_default-clause-added
returns-in_default-clause-added g c = all_as_they_were _ _ _ _ _ _ (search rules)

pub returns-clause-seats : goal.returns-clause-seats
returns-clause-seats g c = kept_back _ _ _ _ _ _ _ c.run_threads.ensures.added

pub returns-clause-at : goal.returns-clause-at
returns-clause-at g c = all_at _ _ _ _ _ _ (kept_back _ _ _ _ _ _ _ c.run_threads.ensures.added) c.requires.at

pub returns-clause-count : goal.returns-clause-count
returns-clause-count g c = same_count _ _ _ _ _ _ (kept_back _ _ _ _ _ _ _ c.run_threads.ensures.added)

pub returns-clause-answer : goal.returns-clause-answer
returns-clause-answer g c = is_answer _ _ _ _ _ _ _ _ c.run_threads.ensures

pub returns-clause-full : goal.returns-clause-full
returns-clause-full g c = has_full _ _ _ _ _ _ _ _ c.run_threads.ensures

pub returns-clause-held : goal.returns-clause-held
returns-clause-held g c = never_held _ _ _ _ _ _ _ _ c.run_threads.ensures

pub returns-clause-stale : goal.returns-clause-stale
returns-clause-stale g c = not_stale _ _ _ _ _ _ _ _ c.run_threads.ensures

pub returns-clause-limit : goal.returns-clause-limit
returns-clause-limit g c = not_limit _ _ _ _ _ _ _ _ c.run_threads.ensures
