-- Bodies that keep the places of long stretches beside others that never do, as the code of a text beside the text. N
-- is the meaning of the first, M that of the second, and R ties their contexts at starts and calls.
use Rattle.std.specs.Prelude.{ℕ, ◌≡◌, ◌+◌, List, [], ◌∷◌, ◌++◌, Bool, false}
use Rattle.std.specs.List.{list_any}
use Rattle.fmp_base.specs.declared.events.Event.{Event}
use Rattle.fmp_base.specs.declared.events.Line.{Line}
use Rattle.fmp_base.specs.Meanings.{Meaning, World}
use Rattle.fmp_base.specs.Runs.{done_events}
use Rattle.fmp_base.specs.Setups.{setup}
use Rattle.fmp_base.specs.Steps.{Done, Did, step}
use Rattle.fmp_base.specs.Systems.{SystemTables}
use Rattle.fmp_base.specs.Ties.{WorldTied}
use Rattle.fmp_schedules.specs.Completed.{IsCompleted}
use Rattle.fmp_schedules.specs.Schedules.{IsSchedule, Rules, lines_after, reached}

-- a context has been kept: it is this many units before one that is tied to the other's
pub record IsBehind {C D : Type 0} (R : ℕ → C → D → Type 0) (N : Meaning C) (body : ℕ) (d : D) (k : C) : Type 0 where
  pub from : C
  pub tied : R body from d
  pub units : ℕ
  pub behind : (n : ℕ) → N.stretch body (units + n) from ≡ N.stretch body n k

-- one state of the kernel, and tied contexts: at calls by R; a stretch that goes on may have been kept
abbrev pub AreBeside : {C D : Type 0} → (ℕ → C → D → Type 0) → Meaning C → SystemTables → World D → World C → Type 0
AreBeside R N sys w v = WorldTied sys (λ body d c. R body c d) (IsBehind R N) w v

-- N, within n units a stretch, does these events along a schedule of its own, in which the places of long stretches are
-- kept now and then: what is done are these events, with the same lines as in M, and it comes to a world beside M's
pub record DoesBeside {C D : Type 0} (R : ℕ → C → D → Type 0) (rules : Rules) (sys : SystemTables) (N : Meaning C)
    (n : ℕ) (M : Meaning D) (bound : ℕ) (forbidden : Line → Bool) (es : List Event) : Type 0 where
  pub events : List Event
  pub schedule : IsSchedule rules sys N n forbidden events
  pub done : done_events sys N n (setup sys N).world events ≡ es
  pub lines : lines_after sys N n events ≡ lines_after sys M bound es
  pub beside : AreBeside R N sys (reached sys M bound es) (reached sys N n events)

-- The event e, which M completes after the others and which leaves d there, N does too, after the others and where it
-- has kept some places: with the same lines, of which none is forbidden in the world that the event leaves in N, which
-- is beside M's.
pub record IsSilentBeside {C D : Type 0} (R : ℕ → C → D → Type 0) (rules : Rules) (sys : SystemTables) (N : Meaning C)
    (n : ℕ) (M : Meaning D) (bound : ℕ) (forbidden : Line → Bool) (forbidden_there : World C → Line → Bool)
    (es : List Event) (e : Event) (d : Done D) : Type 0 where
  pub before : DoesBeside R rules sys N n M bound forbidden es
  pub next : Done C
  pub does : step sys N n (reached sys N n before.events) e ≡ Did next
  pub lines : d.lines ≡ next.lines
  pub beside : AreBeside R N sys d.world next.world
  pub silent : list_any (forbidden_there next.world) next.lines ≡ false

-- each event that M completes, whatever the bound, is silent so
pub record HoldsThereAtAll {C D : Type 0} (R : ℕ → C → D → Type 0) (rules : Rules) (sys : SystemTables) (N : Meaning C)
    (n : ℕ) (M : Meaning D) (forbidden : Line → Bool) (forbidden_there : World C → Line → Bool) : Type 0 where
  pub silent :
      (bound : ℕ) (es : List Event) (e : Event) (d : Done D) → IsCompleted rules sys M bound (es ++ e ∷ []) →
      step sys M bound (reached sys M bound es) e ≡ Did d →
      IsSilentBeside R rules sys N n M bound forbidden forbidden_there es e d
