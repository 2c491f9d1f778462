use Rattle.std.proofs.Common.{IfOk, Result, subst, sym}
use Rattle.std.specs.declared.alloc.AllocError.{AllocError}
use Rattle.fmp_explore.specs.Slices.{IsTaken}
use Rattle.fmp_explore.specs.declared.slices.Slice.{Slice}
use Rattle.fmp_explore.proofs.SliceLemmas.{last_taken}
use Rattle.fmp_explore.proofs.rounds.take_last.Goals as goal

pub returns-clause-taken : goal.returns-clause-taken
returns-clause-taken c = λ asked whole h.
    (last_taken asked whole c.args.taken.now.items c.pop.new.self.items c.pop.result c.pop.ensures.items h).0

pub returns-clause-last : goal.returns-clause-last
returns-clause-last c = λ asked whole h.
    subst (λ (r : Result Slice AllocError). IfOk r (IsTaken asked whole)) (sym c.unwrap_or.ensures)
    (last_taken asked whole c.args.taken.now.items c.pop.new.self.items c.pop.result c.pop.ensures.items h).1
