use Rattle.std.proofs.Common.{IfOk, List, Result, ℕ, ◌≤◌, arith, length, subst, sym}
use Rattle.std.specs.declared.alloc.AllocError.{AllocError}
use Rattle.std.proofs.lemmas.List.Elements.{All-nil}
use Rattle.fmp_explore.specs.Searching.{IsSearching}
use Rattle.fmp_explore.specs.Slices.{AreSlices, IsSlice}
use Rattle.fmp_explore.specs.declared.slices.Slice.{Slice}
use Rattle.fmp_explore.proofs.SearchLemmas.{all_examined, none_examined}
use Rattle.fmp_explore.proofs.searches.Search.examine_all.Goals as goal
use Rattle.fmp_witness.specs.Asked.{asked_of}

pub loop-turn-init : goal.loop-turn-init
loop-turn-init g c =
    let asked = asked_of c.args.subject.now in
    record {
      searching =
          subst (λ (k : ℕ). IsSearching asked k c.args.self.now) (sym c.new-progress.ensures.next)
          (none_examined asked c.args.self.now c.requires.begun);
      pending =
          subst (λ (slices : List (Result Slice AllocError)). AreSlices asked c.args.self.now slices)
          (sym c.new-progress.ensures.pending) (All-nil (λ s. IfOk s (IsSlice asked c.args.self.now)));
      kernels = c.requires.kernels;
    }

pub loop-turn-preserved : goal.loop-turn-preserved
loop-turn-preserved g c =
    record {
      searching = c.in_ok-advance.ensures.searching;
      pending = c.in_ok-advance.ensures.pending;
      kernels = c.in_ok-advance.ensures.kernels;
    }

pub returns-then-progress-len : goal.returns-then-progress-len
returns-then-progress-len g c = λ _.
    let asked = asked_of c.args.subject.now in
    let l = c.loop-turn in
    let past : length l.self.seen.rows ≤ l.progress.next = omega (arith, c.len.ensures.rows, c.if-progress-len.true) in
    all_examined asked l.self l.progress.next l.invariant.searching past
