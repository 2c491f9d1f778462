use Rattle.std.proofs.Common.{OnOk, subst, sym, ℕ}
use Rattle.fmp_explore.specs.Searching.{HasKept}
use Rattle.fmp_explore.specs.States.{AreFew, watched_with}
use Rattle.fmp_explore.proofs.searches.Search.keep_next.Goals as goal
use Rattle.fmp_witness.specs.Asked.{asked_of}

pub came-requires : goal.came-requires
came-requires c = c.requires.attempt.state.few

pub keep-requires-clause-few : goal.keep-requires-clause-few
keep-requires-clause-few c =
    let s = c.args.attempt.here.subject.now in
    subst (λ (came : ℕ). AreFew s.question.now came) (sym c.came.ensures) c.requires.attempt.few

pub returns : goal.returns
returns c =
    let asked = asked_of c.args.attempt.here.subject.now in
    subst (λ (came : ℕ). OnOk c.keep.result (HasKept asked c.args.self.now c.keep.new.self
    c.args.kernel.now.world (watched_with asked.question came c.args.monitors.now))) c.came.ensures c.keep.ensures
