-- Bodies that run elsewhere: what is kept of one is what it was told last.
use Rattle.std.specs.Prelude.{Option, Some, None}
use Rattle.fmp_base.specs.declared.bodies.HandlerStart.{HandlerStart}
use Rattle.fmp_base.specs.Meanings.{Meaning, handler_start}
use Rattle.fmp_base.specs.Stretches as ends
use Rattle.fmp_base.specs.Systems.{SystemTables}
use Rattle.fmp_contexts.specs.Contexts.{BeginsIn, Entered}
use Rattle.fmp_foreign.specs.declared.foreign.LastTold.{LastTold}
use Rattle.fmp_foreign.specs.declared.foreign.LastTold.TheVariants as told

-- a body starts with its extended information, makes no stretch of its own, and is told replies
abbrev pub foreign_meaning : Unit {0} → Meaning LastTold
foreign_meaning f =
    record {
      start = λ body exinf. told.Starts exinf;
      stretch = λ body bound context. ends.Over (Some context);
      deliver = λ body context reply. told.Replies reply;
    }

begins : (h : Option HandlerStart) → BeginsIn (λ entry. Unit {0}) h
begins None = tt
begins (Some h) = tt

-- there is a body for each task and handler
pub foreign_are_there : (f : Unit {0}) (sys : SystemTables) → Entered (λ f entry. Unit {0}) f sys
foreign_are_there f sys = record { tasks = λ t lt. tt; handlers = λ h. begins (handler_start sys h) }
