-- A kernel whose bodies run outside does the same in alike worlds.
use Rattle.std.proofs.Common.{◌≡◌, ℕ, zero, suc, List, [], ◌∷◌, ◌++◌, Option, Some, None, refl, sym, subst, ap, ◌∙◌}
use Rattle.std.proofs.Common.{map}
use Rattle.fmp_bisimulation.specs.Alike.{Alike}
use Rattle.fmp_bisimulation.specs.Closed.{BothAlike, all_timeless}
use Rattle.fmp_bisimulation.proofs.StepLaws.{step-same}
use Rattle.fmp_base.specs.declared.bodies.HandlerContext.{HandlerContext}
use Rattle.fmp_base.specs.declared.bodies.HandlerStart.{HandlerStart}
use Rattle.fmp_base.specs.declared.bodies.Held.{Held}
use Rattle.fmp_base.specs.declared.bodies.Held.TheVariants.{Goes, Awaits}
use Rattle.fmp_base.specs.declared.calls.Answer.{Answer}
use Rattle.fmp_base.specs.declared.calls.Answer.TheVariants.{Replies, Waits, Ends, Spins}
use Rattle.fmp_base.specs.declared.calls.Call.{Call}
use Rattle.fmp_base.specs.declared.calls.Reply.{Reply}
use Rattle.fmp_base.specs.declared.events.Event.TheVariants as event
use Rattle.fmp_base.specs.declared.events.Line.{Line}
use Rattle.fmp_base.specs.declared.events.Line.TheVariants as line
use Rattle.fmp_base.specs.declared.states.Caller.{Caller}
use Rattle.fmp_base.specs.declared.states.Caller.TheVariants as caller
use Rattle.fmp_base.specs.Calls.{called}
use Rattle.fmp_base.specs.Meanings.{Contexts, Meaning, World, called_back, caller_body, context_of, contexts_after}
use Rattle.fmp_base.specs.Meanings.{contexts_after_all, delivered_to, fresh_context, handler_start, told, with_context}
use Rattle.fmp_base.specs.Meanings.{with_handler_context}
use Rattle.fmp_base.specs.Runs.{run_on}
use Rattle.fmp_base.specs.Settles.{settled}
use Rattle.fmp_base.specs.States.{Progress, processor_at}
use Rattle.fmp_base.specs.Steps.{Done, Reaction, Nothing, Did, Kept, actor_ended, actor_of, answered, contexts_ended}
use Rattle.fmp_base.specs.Steps.{ended_with, finished, run_by, run_in, step, stretched}
use Rattle.fmp_base.specs.Stretches.{Ending}
use Rattle.fmp_base.specs.Stretches as ends
use Rattle.fmp_base.specs.Systems.{SystemTables}
use Rattle.fmp_outside.specs.declared.given.Given.{Given}
use Rattle.fmp_outside.specs.declared.given.Given.TheVariants as given
use Rattle.fmp_outside.specs.Outside.{ending_by, outside_run, outside_step}
use Rattle.fmp_worlds.specs.Stamps.{applied, applied_by, applied_in}
use Rattle.fmp_foreign.specs.AlikeRuns.{RunAlike}

-- what is done with the end of a stretch is what a step does where each stretch ends so
module _ {C : Type 0} (sys : SystemTables) (F : Meaning C) (x : Ending C) where
  abbrev so : Meaning C
  so = record F { stretch = λ body n c. x }

  fresh : (o : Option HandlerStart) → fresh_context F o ≡ fresh_context so o
  fresh None = refl
  fresh (Some h) = refl

  told_so : (body : ℕ) (reply : Reply) (o : Option (Held C)) → told F body reply o ≡ told so body reply o
  told_so body reply None = refl
  told_so body reply (Some (Goes c)) = refl
  told_so body reply (Some (Awaits c)) = refl

  delivered_so : (cs : Contexts (Held C)) (p : ℕ) (who : Caller) (reply : Reply)
      → delivered_to sys F cs p who reply ≡ delivered_to sys so cs p who reply
  delivered_so cs p who reply =
      ap (λ (o : Option (Held C)). with_context cs p who o)
      (told_so (caller_body sys cs p who) reply (context_of cs p who))

  called_so : (cs : Contexts (Held C)) (p : ℕ) (who : Caller) (o : Option Reply)
      → called_back sys F cs p who o ≡ called_back sys so cs p who o
  called_so cs p who None = refl
  called_so cs p who (Some reply) = delivered_so cs p who reply

  after_line : (cs : Contexts (Held C)) (l : Line) → contexts_after sys F cs l ≡ contexts_after sys so cs l
  after_line cs (line.Tick n) = refl
  after_line cs (line.Int i) = refl
  after_line cs (line.Call p who c reply) = called_so cs p who reply
  after_line cs (line.End p who) = refl
  after_line cs (line.Fault p who fault) = refl
  after_line cs (line.Gets p t reply) = delivered_so cs p (caller.Task t) reply
  after_line cs (line.Starts p t) = refl
  after_line cs (line.Pends p c) = refl
  after_line cs (line.Begins p h) =
      ap (λ (o : Option (HandlerContext (Held C))). with_handler_context cs p o) (fresh (handler_start sys h))
  after_line cs (line.Runs p t) = refl

  after_lines : (cs : Contexts (Held C)) (ls : List Line)
      → contexts_after_all sys F cs ls ≡ contexts_after_all sys so cs ls
  after_lines cs [] = refl
  after_lines cs (l ∷ ls) =
      after_lines (contexts_after sys F cs l) ls
      ∙ ap (λ (ds : Contexts (Held C)). contexts_after_all sys so ds ls) (after_line cs l)

  abbrev left : Progress → Contexts (Held C) → Done C
  left g cs = record { world = record { state = g.state; contexts = cs }; lines = g.lines }

  finished_so : (cs : Contexts (Held C)) (own : List Line) (g : Progress)
      → finished sys F cs own g ≡ finished sys so cs own g
  finished_so cs own g =
      let i = settled sys (record g { lines = own ++ g.lines }) in
      ap (λ (ds : Contexts (Held C)). left i ds) (after_lines cs i.lines)

  did_so : (cs : Contexts (Held C)) (own : List Line) (g : Progress)
      → ◌≡◌ {A = Reaction C} (Did (finished sys F cs own g)) (Did (finished sys so cs own g))
  did_so cs own g = ap (λ (d : Done C). Did d) (finished_so cs own g)

  answered_so : (a : Answer) (cs : Contexts (Held C)) (p : ℕ) (who : Caller) (c : Call) (g : Progress)
      → answered a sys F cs p who c g ≡ answered a sys so cs p who c g
  answered_so (Replies reply) cs p who c g = did_so cs (line.Call p who c (Some reply) ∷ []) g
  answered_so Waits cs p who c g = did_so cs (line.Call p who c None ∷ []) g
  answered_so Ends cs p who c g = did_so cs (line.End p who ∷ []) g
  answered_so Spins cs p who c g = refl

  ended_so : (w : World C) (p : ℕ) (who : Caller) (own : Line)
      → ◌≡◌ {A = Reaction C} (Did (ended_with sys F w p who own)) (Did (ended_with sys so w p who own))
  ended_so w p (caller.Task t) own =
      did_so (contexts_ended sys F w.contexts p (caller.Task t)) (own ∷ []) (actor_ended sys w.state p (caller.Task t))
  ended_so w p (caller.Handler h) own =
      did_so (contexts_ended sys F w.contexts p (caller.Handler h)) (own ∷ [])
      (actor_ended sys w.state p (caller.Handler h))

  stretched_so : (w : World C) (p : ℕ) (who : Caller) (y : Ending C)
      → stretched sys F w p who y ≡ stretched sys so w p who y
  stretched_so w p who (ends.Call c made) =
      let o = called sys w.state p who made in
      answered_so o.answer (with_context w.contexts p who (Some (Awaits c))) p who made o.progress
  stretched_so w p who (ends.End c) = ended_so w p who (line.End p who)
  stretched_so w p who (ends.Fault c fault) = ended_so w p who (line.Fault p who fault)
  stretched_so w p who (ends.Over None) = refl
  stretched_so w p who (ends.Over (Some c)) = refl

  module _ (n : ℕ) (w : World C) where
    applied_in_so : (p : ℕ) (who : Caller) (o : Option (Held C))
        → applied_in sys F w p who o x ≡ run_in sys so n w p who o
    applied_in_so p who None = refl
    applied_in_so p who (Some (Awaits c)) = refl
    applied_in_so p who (Some (Goes c)) = stretched_so w p who x

    applied_by_so : (p : ℕ) (o : Option Caller) → applied_by sys F w p o x ≡ run_by sys so n w p o
    applied_by_so p None = refl
    applied_by_so p (Some who) = applied_in_so p who (context_of w.contexts p who)

    applied_so : (p : ℕ) → applied sys F w p x ≡ step sys so n w (event.Run p)
    applied_so zero = refl
    applied_so (suc p) = applied_by_so p (actor_of (processor_at w.state p))

module _ {C : Type 0} (sys : SystemTables) (F : Meaning C) (n : ℕ) (d : C) where
  outside_same : (v w : World C) (g : Given) → Alike sys v w
      → BothAlike (Alike sys) (outside_step sys F n d v g) (outside_step sys F n d w g)
  outside_same v w (given.Act p a) h =
      let x = ending_by d a in
      subst (λ (r : Reaction C). BothAlike (Alike sys) r (applied sys F w p x)) (sym (applied_so sys F x n v p))
      (subst (λ (r : Reaction C). BothAlike (Alike sys) (step sys (so sys F x) n v (event.Run p)) r)
      (sym (applied_so sys F x n w p)) (step-same sys (so sys F x) n v w (event.Run p) h))
  outside_same v w given.Tick h = step-same sys F n v w event.Tick h
  outside_same v w (given.Int i) h = step-same sys F n v w (event.Int i) h

  after_both : (gs : List Given) (v w : World C) (a b : Reaction C) → BothAlike (Alike sys) a b → Alike sys v w
      → ((t u : World C) → Alike sys t u → RunAlike sys (outside_run sys F n d t gs) (outside_run sys F n d u gs))
      → RunAlike sys (run_on v a (λ t. outside_run sys F n d t gs)) (run_on w b (λ u. outside_run sys F n d u gs))
  after_both gs v w Nothing Nothing both h rest = rest v w h
  after_both gs v w (Kept p t) (Kept q u) both h rest = rest t u both.1
  after_both gs v w (Did a) (Did b) both h rest =
      let r = rest a.world b.world both.1 in
      let later = map all_timeless (outside_run sys F n d a.world gs).events in
      record {
        lines = ap (λ (ls : List Line). ls ∷ later) both.0
            ∙ ap (λ (events : List (List Line)). all_timeless b.lines ∷ events) r.lines;
        worlds = r.worlds;
      }
  after_both gs v w Nothing (Did b) both h rest = absurd both
  after_both gs v w Nothing (Kept q u) both h rest = absurd both
  after_both gs v w (Did a) Nothing both h rest = absurd both
  after_both gs v w (Did a) (Kept q u) both h rest = absurd both
  after_both gs v w (Kept p t) Nothing both h rest = absurd both
  after_both gs v w (Kept p t) (Did b) both h rest = absurd both

  -- what comes does the same in alike worlds, one after the other
  pub run_alike : (gs : List Given) (v w : World C) → Alike sys v w
      → RunAlike sys (outside_run sys F n d v gs) (outside_run sys F n d w gs)
  run_alike [] v w h = record { lines = refl; worlds = h }
  run_alike (g ∷ gs) v w h =
      after_both gs v w (outside_step sys F n d v g) (outside_step sys F n d w g) (outside_same v w g h) h
      (run_alike gs)
