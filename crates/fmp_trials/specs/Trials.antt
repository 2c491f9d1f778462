-- What it is that a run fails, and that none of its events can be left out.
use Rattle.std.specs.Prelude.{ℕ, ◌≡◌, ◌+◌, ◌<◌, ◌++◌, List, Option, Some, None, Bool, false, take, drop, length, nat_eq}
use Rattle.fmp_base.specs.declared.events.Event.{Event}
use Rattle.fmp_base.specs.declared.events.Line.{Line}
use Rattle.fmp_base.specs.Meanings.{Meaning}
use Rattle.fmp_kernel.specs.Comings.{reaction_of}
use Rattle.fmp_expect.specs.declared.checker.BrokenExpectation.{BrokenExpectation}
use Rattle.fmp_expect.specs.declared.expectation.Expected.{Expected}
use Rattle.fmp_expect.specs.Judges.{broken_along}
use Rattle.fmp_expect.specs.Parts.{or_else}
use Rattle.fmp_kernel.specs.KernelViews.{KernelView}
use Rattle.fmp_trials.specs.Verdicts.{verdict}

-- which of the sentences of a judge, that look at where a line stands, a line breaks which was just told on a kernel
abbrev pub Breaks : (B C J : Type 0) → Type 0
Breaks B C J = J → KernelView B C → Line → Option ℕ

-- a kernel from which runs begin, what is expected of them, and the judge of their lines
pub record Subject (B C J : Type 0) : Type 0 where
  pub start : KernelView B C
  pub expected : List Expected
  pub judge : J

-- the first of the expectations that the run over these events fails, or else the first of the sentences of the judge
abbrev pub broken_by : {B C J : Type 0} → (B → Meaning C) → Breaks B C J → Subject B C J → List Event
    → Option BrokenExpectation
broken_by meaning breaks s es =
    or_else (verdict (reaction_of meaning) s.start es s.expected)
    (broken_along (breaks s.judge) (reaction_of meaning) s.start es)

-- the run over these events fails this expectation
abbrev pub Fails : {B C J : Type 0} → (B → Meaning C) → Breaks B C J → Subject B C J → List Event → BrokenExpectation
    → Type 0
Fails meaning breaks s es broken = broken_by meaning breaks s es ≡ Some broken

-- what is broken stands in the line of this number
abbrev pub is_at : ℕ → Option BrokenExpectation → Bool
is_at line None = false
is_at line (Some b) = nat_eq b.line line

-- the events without those from one place up to another, which is left in
abbrev pub without : List Event → (first end : ℕ) → List Event
without es first end = take first es ++ drop end es

-- without any one of its events the run does not fail the expectation in this line
abbrev pub IsShortest : {B C J : Type 0} → (B → Meaning C) → Breaks B C J → Subject B C J → List Event → (line : ℕ)
    → Type 0
IsShortest meaning breaks s es line =
    (i : ℕ) → i < length es → is_at line (broken_by meaning breaks s (without es i (i + 1))) ≡ false
