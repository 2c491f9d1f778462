-- What a run breaks of sentences that look at where a line stands. Of such sentences it is told in which line of their
-- text the first one stands that a line breaks, where it was just told on a kernel.
use Rattle.std.specs.Prelude.{ℕ, List, [], ◌∷◌, Option, None, option_map}
use Rattle.fmp_base.specs.declared.events.Line.{Line}
use Rattle.fmp_base.specs.Steps.{Reaction, Nothing, Did, Kept}
use Rattle.fmp_kernel.specs.KernelViews.{KernelView, view_after}
use Rattle.fmp_expect.specs.declared.checker.BrokenExpectation.{BrokenExpectation}
use Rattle.fmp_expect.specs.Parts.{or_else}

-- the first sentence that lines break
abbrev pub first_by : (breaks : Line → Option ℕ) → List Line → Option ℕ
first_by breaks [] = None
first_by breaks (l ∷ ls) = or_else (breaks l) (first_by breaks ls)

module _ {B C : Type 0} (breaks : KernelView B C → Line → Option ℕ) where
  -- what the last event of a kernel breaks
  abbrev pub broken_here : KernelView B C → Option BrokenExpectation
  broken_here k = option_map (λ n. record { line = n; event = k.done }) (first_by (breaks k) k.lines)

  -- what an event breaks that comes to a kernel and does this
  abbrev pub broken_after : KernelView B C → Reaction C → Option BrokenExpectation
  broken_after k Nothing = None
  broken_after k (Did d) = broken_here (view_after k (Did d))
  broken_after k (Kept p w) = None

  -- what the first event breaks that breaks something, of those that come to a kernel
  abbrev pub broken_along : {X : Type 0} → (KernelView B C → X → Reaction C) → KernelView B C → List X
      → Option BrokenExpectation
  broken_along reaction k [] = None
  broken_along reaction k (x ∷ xs) =
      or_else (broken_after k (reaction k x)) (broken_along reaction (view_after k (reaction k x)) xs)
