use Rattle.std.proofs.Common.{◌≡◌, ◌<◌, ◌≤◌, ℕ, List, [], None, length, take}
use Rattle.fmp_expect.specs.declared.expectation.Expected.{Expected}
use Rattle.fmp_expect.specs.Runs.{run_told}
use Rattle.fmp_expect.specs.Watches.{AreTold}
use Rattle.fmp_kernel.specs.Comings.{reaction_of, view_after_each}
use Rattle.fmp_trials.specs.Choices.{AreDrawn}
use Rattle.fmp_trials.specs.Drawn.{broken_so_far}
use Rattle.fmp_trials.specs.Taking.{TakesAll}
use Rattle.fmp_trials.specs.Verdicts.{IsBeside}
use Rattle.fmp_trials.proofs.Choosing.{choices_after}
use Rattle.fmp_trials.proofs.random_run.random_run.Given as goal

-- the kernel has come along the steps so far, of which the checker was told, and they break nothing
abbrev pub invariant-loop-turn : goal.invariant-loop-turn
invariant-loop-turn g l =
    record {
      taken : l.kernel.taken ≤ l._turn;
      count : length l.steps.items ≡ l._turn;
      beside : IsBeside l.fn.kernel l.kernel;
      all_taken : TakesAll g.B.Body.meaning l.fn.kernel l.steps.items;
      along : l.kernel ≡ view_after_each (reaction_of g.B.Body.meaning) l.fn.kernel l.steps.items;
      told : (xs : List Expected) → AreTold xs [] l.fn.checker
          → AreTold xs (run_told (reaction_of g.B.Body.meaning) l.fn.kernel l.steps.items) l.checker;
      drawn : AreDrawn g.B.Body.meaning l.fn.kernel l.fn.choices l.steps.items;
      choices : l.choices ≡ choices_after g.B.Body.meaning l.fn.kernel l.fn.choices l.steps.items;
      unbroken : (xs : List Expected) → AreTold xs [] l.fn.checker → (n : ℕ) → n < length l.steps.items
          → broken_so_far g.B.Body.meaning l.fn.kernel xs (take n l.steps.items) ≡ None;
      quiet : (xs : List Expected) → AreTold xs [] l.fn.checker
          → broken_so_far g.B.Body.meaning l.fn.kernel xs l.steps.items ≡ None;
    }
