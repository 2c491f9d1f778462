-- The effect of a stretch, given how it stopped.
use Rattle.std.proofs.Common.{◌≡◌, ℕ, [], ◌∷◌, Option, Some, None, true, false, refl, sym, ap, ◌∙◌}
use Rattle.fmp_base.specs.declared.bodies.Held.{Held}
use Rattle.fmp_base.specs.declared.bodies.Held.TheVariants.{Goes, Awaits}
use Rattle.fmp_base.specs.declared.bodies.Stretch.{Stretch}
use Rattle.fmp_base.specs.declared.bodies.Stretch.TheVariants as made
use Rattle.fmp_base.specs.declared.calls.Answer.{Answer}
use Rattle.fmp_base.specs.declared.calls.Answer.TheVariants.{Replies, Waits, Ends, Spins}
use Rattle.fmp_base.specs.declared.calls.Call.{Call}
use Rattle.fmp_base.specs.declared.events.Effect.TheVariants as effect
use Rattle.fmp_base.specs.declared.events.Line.{Line}
use Rattle.fmp_base.specs.declared.events.Line.TheVariants as line
use Rattle.fmp_base.specs.declared.states.Caller.{Caller}
use Rattle.fmp_base.specs.declared.stop.StretchStop.{StretchStop}
use Rattle.fmp_base.specs.declared.stop.StretchStop.TheVariants as stop
use Rattle.fmp_base.specs.Calls.{called}
use Rattle.fmp_base.specs.Meanings.{Meaning, Contexts, World, caller_body, context_of, with_context}
use Rattle.fmp_base.specs.States.{Progress}
use Rattle.fmp_base.specs.Steps.{Done, Reaction, Nothing, Did, Kept, actor_ended, answered, effect_of, finished, run_in}
use Rattle.fmp_base.specs.Steps.{stretched}
use Rattle.fmp_base.specs.Stretches.{Ending, ending}
use Rattle.fmp_base.specs.Stretches as ends
use Rattle.fmp_base.specs.Systems.{SystemTables}
use Rattle.fmp_contexts.specs.Contexts.{HandsOver, HasContext, is_call, is_going, kept_after, stop_of, stretched_from}
use Rattle.fmp_contexts.proofs.HeldLemmas.{body_set, context_back, context_twice, ended_over, has_set}
use Rattle.fmp_kernel.specs.KernelViews.{RunnerView, done_of, done_or, stopped_on, with_contexts, with_stretch}
use Rattle.fmp_worlds.specs.Spins.{MaySpin}
use Rattle.fmp_worlds.specs.Stamps.{applied_in}
use Rattle.fmp_worlds.proofs.SettledLaws.{called-may_spin}

-- a stretch that is handed in has its context
pub ending_hands : {C : Type 0} (s : Stretch C) → HandsOver (ending s)
ending_hands (made.Call c call) = tt
ending_hands (made.End c) = tt
ending_hands (made.Fault c fault) = tt
ending_hands (made.Over c) = tt

-- a stop at which nothing happened is a call
pub nothing_calls : {C : Type 0} (sys : SystemTables) (M : Meaning C) (w : World C) (p : ℕ) (who : Caller)
    (s : StretchStop)
    → effect.Nothing ≡ effect_of (stopped_on sys M w p who s) → is_call s ≡ true
nothing_calls sys M w p who (stop.Call made) e = refl
nothing_calls sys M w p who stop.End e = absurd (cc e)
nothing_calls sys M w p who (stop.Fault fault) e = absurd (cc e)
nothing_calls sys M w p who stop.Over e = absurd (cc e)

-- where something happened, what was kept before does not matter
pub something_after : {C : Type 0} (d : Done C) (cs : Contexts (Held C)) (y : Reaction C)
    → (effect.Nothing ≡ effect_of y → ⊥)
    → done_or d y ≡ done_or (with_contexts d cs) y
something_after d cs Nothing n = absurd (n refl)
something_after d cs (Did e) n = refl
something_after d cs (Kept p w) n = refl

-- a run is a stretch from what is kept of the actor
pub runs_as : {C : Type 0} (sys : SystemTables) (M : Meaning C) (n : ℕ) (w : World C) (p : ℕ) (who : Caller)
    (o : Option (Held C))
    → stretched sys M w p who (stretched_from M (caller_body sys w.contexts p who) n o) ≡ run_in sys M n w p who o
runs_as sys M n w p who None = refl
runs_as sys M n w p who (Some (Awaits c)) = refl
runs_as sys M n w p who (Some (Goes c)) = refl

pub still_runs : {C : Type 0} (sys : SystemTables) (M : Meaning C) (n : ℕ) (w : World C) (p : ℕ) (who : Caller)
    (o : Option (Held C))
    → is_going o ≡ false → run_in sys M n w p who o ≡ Nothing
still_runs sys M n w p who None h = refl
still_runs sys M n w p who (Some (Awaits c)) h = refl
still_runs sys M n w p who (Some (Goes c)) h = absurd (cc h)

-- and so is a stretch that is handed in
pub applies_as : {C : Type 0} (sys : SystemTables) (M : Meaning C) (w : World C) (p : ℕ) (who : Caller)
    (o : Option (Held C)) (x : Ending C)
    → is_going o ≡ true → stretched sys M w p who x ≡ applied_in sys M w p who o x
applies_as sys M w p who None x h = absurd (cc h)
applies_as sys M w p who (Some (Awaits c)) x h = absurd (cc h)
applies_as sys M w p who (Some (Goes c)) x h = refl

pub still_applied : {C : Type 0} (sys : SystemTables) (M : Meaning C) (w : World C) (p : ℕ) (who : Caller)
    (o : Option (Held C)) (x : Ending C)
    → is_going o ≡ false → applied_in sys M w p who o x ≡ Nothing
still_applied sys M w p who None x h = refl
still_applied sys M w p who (Some (Awaits c)) x h = refl
still_applied sys M w p who (Some (Goes c)) x h = absurd (cc h)

module _ {B C : Type 0} (M : Meaning C) (r : RunnerView B C) (p : ℕ) (who : Caller) where
  -- a stretch that stops so, and what it leaves of its context
  pub stops_so : (x : Ending C) → HandsOver x
      → stopped_on r.system M (with_stretch r p who x).world p who (stop_of x) ≡ stretched r.system M r.world p who x
  stops_so (ends.Call c made) h = refl
  stops_so (ends.End c) h =
      ap (λ (cs : Contexts (Held C)). Did (finished r.system M cs (line.End p who ∷ [])
      (actor_ended r.system r.world.state p who)))
      (ended_over r.system M r.world.contexts p who)
  stops_so (ends.Fault c fault) h =
      ap (λ (cs : Contexts (Held C)). Did (finished r.system M cs (line.Fault p who fault ∷ [])
      (actor_ended r.system r.world.state p who)))
      (ended_over r.system M r.world.contexts p who)
  stops_so (ends.Over None) h = absurd h
  stops_so (ends.Over (Some c)) h = refl

  -- where a stretch stops at a call, its context is there, and its body is the same
  pub call_there : (x : Ending C) → HasContext r.world.contexts p who → is_call (stop_of x) ≡ true
      → HasContext (with_stretch r p who x).world.contexts p who
  call_there (ends.Call c made) h e = has_set r.world.contexts p who (Awaits c) h
  call_there (ends.End c) h e = absurd (cc e)
  call_there (ends.Fault c fault) h e = absurd (cc e)
  call_there (ends.Over k) h e = absurd (cc e)

  pub call_body : (x : Ending C) → HasContext r.world.contexts p who → is_call (stop_of x) ≡ true
      → caller_body r.system (with_stretch r p who x).world.contexts p who ≡ caller_body r.system r.world.contexts p who
  call_body (ends.Call c made) h e = body_set r.system r.world.contexts p who (Awaits c) h
  call_body (ends.End c) h e = absurd (cc e)
  call_body (ends.Fault c fault) h e = absurd (cc e)
  call_body (ends.Over k) h e = absurd (cc e)

  -- what is done does not look at what was kept
  answered_free : (a : Answer) (cs ds : Contexts (Held C)) (made : Call) (g : Progress) → (a ≡ Spins → ⊥)
      → done_or (with_contexts (done_of r) ds) (answered a r.system M cs p who made g)
      ≡ done_or (done_of r) (answered a r.system M cs p who made g)
  answered_free (Replies reply) cs ds made g n = refl
  answered_free Waits cs ds made g n = refl
  answered_free Ends cs ds made g n = refl
  answered_free Spins cs ds made g n = absurd (n refl)

  -- where the actor does not spin, a stretch does something
  pub done_free : (x : Ending C) → HandsOver x → (MaySpin r.system r.world.state p who → ⊥)
      → done_or (done_of (with_stretch r p who x)) (stretched r.system M r.world p who x)
      ≡ done_or (done_of r) (stretched r.system M r.world p who x)
  done_free (ends.Call c made) h n =
      let o = called r.system r.world.state p who made in
      let cs = with_context r.world.contexts p who (Some (Awaits c)) in
      answered_free o.answer cs cs made o.progress (λ e. n (called-may_spin r.system r.world.state p who made e))
  done_free (ends.End c) h n = refl
  done_free (ends.Fault c fault) h n = refl
  done_free (ends.Over None) h n = absurd h
  done_free (ends.Over (Some c)) h n = refl

  -- where the actor goes on from where it came, nothing has happened
  pub done_again : (x : Ending C) (first : C) → HandsOver x → context_of r.world.contexts p who ≡ Some (Goes first)
      → HasContext r.world.contexts p who
      → done_or (with_contexts (done_of (with_stretch r p who x))
      (with_context (with_stretch r p who x).world.contexts p who (Some (Goes first))))
      (stretched r.system M r.world p who x)
      ≡ done_or (done_of r) (stretched r.system M r.world p who x)
  done_again (ends.Call c made) first h e t =
      ap (λ (cs : Contexts (Held C)). done_or (with_contexts (done_of r) cs)
      (stretched r.system M r.world p who (ends.Call c made)))
      (context_twice r.world.contexts p who (Awaits c) (Goes first) t
      ∙ context_back r.world.contexts p who (Goes first) e)
  done_again (ends.End c) first h e t = refl
  done_again (ends.Fault c fault) first h e t = refl
  done_again (ends.Over None) first h e t = absurd h
  done_again (ends.Over (Some c)) first h e t = refl
