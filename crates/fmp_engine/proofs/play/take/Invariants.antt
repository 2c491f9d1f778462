use Rattle.std.proofs.Common.{◌≡◌, ◌++◌, ◌+◌, ◌<◌, ◌≤◌, ◌^◌, length}
use Rattle.fmp_base.specs.Systems.{tables_of}
use Rattle.fmp_engine.specs.Outlets.{Given}
use Rattle.fmp_engine.specs.Plays.{text_of_events, state_after}
use Rattle.fmp_engine.proofs.play.take.Given as goal

-- what the outlet was given, what stands on the page and what is to come are the whole text
abbrev pub invariant-loop-event : goal.invariant-loop-event
invariant-loop-event g l =
    record {
      given : Given g.T.Outlet.gave l.fn.outlet l.outlet
          (l.page ++ text_of_events g.B.Body.meaning l.kernel (g.E.Events.left l.events))
          (l.fn.page ++ text_of_events g.B.Body.meaning l.fn.kernel (g.E.Events.left l.fn.events));
      state : state_after g.B.Body.meaning l.kernel (g.E.Events.left l.events)
          ≡ state_after g.B.Body.meaning l.fn.kernel (g.E.Events.left l.fn.events);
      system : l.kernel.system ≡ tables_of l.sys;
      short : length l.page < 65536;
      few : l.kernel.taken + length (g.E.Events.left l.events) ≤ 2 ^ 20;
    }

abbrev pub decreases-loop-event : goal.decreases-loop-event
decreases-loop-event g l = length (g.E.Events.left l.events)
