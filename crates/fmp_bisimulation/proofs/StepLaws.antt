-- An event does the same in alike worlds.
use Rattle.std.proofs.Common.{◌≡◌, ◌+◌, ℕ, zero, suc, List, [], ◌∷◌, ◌++◌, Option, Some, None, Bool, true, false, ◌&&◌}
use Rattle.std.proofs.Common.{◌||◌, not, refl, sym, ◌∙◌, ap, subst}
use Rattle.fmp_base.specs.declared.bodies.Held.{Held}
use Rattle.fmp_base.specs.declared.bodies.Held.TheVariants.{Goes, Awaits}
use Rattle.fmp_base.specs.declared.calls.Answer.{Answer}
use Rattle.fmp_base.specs.declared.calls.Answer.TheVariants.{Replies, Waits, Ends, Spins}
use Rattle.fmp_base.specs.declared.calls.Call.{Call}
use Rattle.fmp_base.specs.declared.events.Event.{Event}
use Rattle.fmp_base.specs.declared.events.Event.TheVariants.{Run, Tick, Int}
use Rattle.fmp_base.specs.declared.events.Line.{Line}
use Rattle.fmp_base.specs.declared.events.Line.TheVariants as line
use Rattle.fmp_base.specs.declared.states.Caller.{Caller}
use Rattle.fmp_base.specs.declared.states.Caller.TheVariants as caller
use Rattle.fmp_base.specs.declared.states.Handler.{Handler}
use Rattle.fmp_base.specs.declared.states.Phase.{Phase}
use Rattle.fmp_base.specs.declared.states.TaskBlock.{TaskBlock}
use Rattle.fmp_base.specs.declared.systems.InterruptConfig.{InterruptConfig}
use Rattle.fmp_base.specs.Changes.{ended_itself}
use Rattle.fmp_base.specs.Meanings.{Meaning, Contexts, World, caller_body, context_of, with_context, contexts_after_all}
use Rattle.fmp_base.specs.Outcomes.{CallOutcome}
use Rattle.fmp_base.specs.Settles.{settled}
use Rattle.fmp_base.specs.States.{KernelState, Progress, task_at, processor_at}
use Rattle.fmp_base.specs.Steps.{Done, Reaction, Nothing, Did, Kept, concluded, finished, actor_by, actor_of}
use Rattle.fmp_base.specs.Steps.{handler_ended, actor_ended, answered, call_made, contexts_ended, ended_with, stretched}
use Rattle.fmp_base.specs.Steps.{run_in, run_by, interrupted_by, interrupted, step}
use Rattle.fmp_base.specs.Stretches.{Ending}
use Rattle.fmp_base.specs.Stretches as ends
use Rattle.fmp_base.specs.Systems.{SystemTables, interrupt_config}
use Rattle.fmp_base.specs.TaskCalls.{is_dormant}
use Rattle.fmp_base.specs.Ticks.{is_pending, with_interrupt_pending}
use Rattle.fmp_worlds.specs.Settled.{IsSettled}
use Rattle.fmp_worlds.proofs.Places.{kept-state}
use Rattle.fmp_worlds.proofs.SettledLaws.{step-settled}
use Rattle.fmp_bisimulation.specs.Alike.{AlikeStates, Alike, SameContexts, SameProgress, SameOutcome, is_none, is_off}
use Rattle.fmp_bisimulation.specs.Closed.{all_timeless, BothAlike, KeepsAlike}
use Rattle.fmp_bisimulation.proofs.CallLaws.{called-same}
use Rattle.fmp_bisimulation.proofs.ChangeLaws.{unchanged-same, ended_itself-same}
use Rattle.fmp_bisimulation.proofs.ContextLaws.{Both, IsOn, all-agree, body-agrees, context_of-agrees, ended-agrees}
use Rattle.fmp_bisimulation.proofs.ContextLaws.{with_context-agrees}
use Rattle.fmp_bisimulation.proofs.LineLaws.{timeless-append, after_all-timeless, behind, settled-behind}
use Rattle.fmp_bisimulation.proofs.RestCallLaws.{IsCaller, called-rests}
use Rattle.fmp_bisimulation.proofs.RestLaws.{Rested, Rests, rests-ended_itself, rests-still, settled-rests, starts}
use Rattle.fmp_bisimulation.proofs.RestLaws.{starts-append, ticked-rests}
use Rattle.fmp_bisimulation.proofs.SettleLaws.{settled-same}
use Rattle.fmp_bisimulation.proofs.StateLaws.{View, seen, by_view, alike-changed}
use Rattle.fmp_bisimulation.proofs.TickLaws.{ticked-same}
use Rattle.fmp_bisimulation.proofs.TimeLaws.{by_block, blocks-at}

-- who acts on a processor is a handler, or a task that it runs
acts : (s : KernelState) (h : Option Handler) (r : Option ℕ) → ((t : ℕ) → r ≡ Some t → is_off (task_at s.tasks t)
    ≡ false)
    → (who : Caller) → actor_by h r ≡ Some who → IsCaller s who
acts s (Some i) r on (caller.Handler j) e = tt
acts s (Some i) r on (caller.Task t) e = cc
acts s None (Some u) on (caller.Task t) e = let same : Some u ≡ Some t = cc in on t same
acts s None (Some u) on (caller.Handler j) e = tt
acts s None None on who e = cc

-- who was not off, or was started, is on
told : (a b c : Bool) → Rested a false c → (not a || (b || c)) ≡ true
told true true c h = refl
told true false true h = refl
told true false false h = absurd h
told false b c h = refl

on_of : (b : Bool) → b ≡ false → not b ≡ true
on_of false e = refl
on_of true e = sym e

off_of : (b : Bool) → not b ≡ true → b ≡ false
off_of false e = refl
off_of true e = sym e

module _ {C : Type 0} (sys : SystemTables) (M : Meaning C) where
  -- alike states with the same bodies
  record SameWorlds (v w : World C) : Type 0 where
    pub states : AlikeStates sys v.state w.state
    pub contexts : SameContexts v.state v.contexts w.contexts

  -- two events are done, by lines that differ in the clock at most, and leave such worlds
  abbrev BothDone : Done C → Done C → Type 0
  BothDone a b = (all_timeless a.lines ≡ all_timeless b.lines) × SameWorlds a.world b.world

  concluded-same : (on : ℕ → Bool) (cs ds : Contexts (Held C)) (own other : List Line) (g i : Progress)
      → all_timeless own ≡ all_timeless other → SameProgress sys g i → Both on cs ds
      → ((t : ℕ) → is_off (task_at g.state.tasks t) ≡ false → (on t || starts t (own ++ g.lines)) ≡ true)
      → BothDone (concluded sys M cs (behind own g)) (concluded sys M ds (behind other i))
  concluded-same on cs ds own other g i e h b rest =
      let lines : all_timeless (own ++ g.lines) ≡ all_timeless (other ++ i.lines) =
      timeless-append own g.lines ∙ ap (λ (ls : List Line). ls ++ all_timeless g.lines) e
      ∙ ap (λ (ls : List Line). all_timeless other ++ all_timeless ls) h.lines ∙ sym (timeless-append other i.lines) in
      let same : contexts_after_all sys M ds (own ++ g.lines) ≡ contexts_after_all sys M ds (other ++ i.lines) =
      after_all-timeless sys M ds (own ++ g.lines) ∙ ap (λ (ls : List Line). contexts_after_all sys M ds ls) lines
      ∙ sym (after_all-timeless sys M ds (other ++ i.lines)) in
      let after = all-agree sys M on (own ++ g.lines) cs ds b in
      let agreed = after.tasks in
      let contexts : SameContexts g.state (contexts_after_all sys M cs (own ++ g.lines))
      (contexts_after_all sys M ds (own ++ g.lines)) =
      record { tasks = λ t off. agreed.at t (rest t off); handlers = after.handlers; long = agreed.long } in (
        lines,
        record {
          states = h.state;
          contexts = subst (λ (z : Contexts (Held C)). SameContexts g.state
              (contexts_after_all sys M cs (own ++ g.lines)) z) same contexts;
        },
      )

  -- the tasks that are not off in s
  abbrev on_in : KernelState → ℕ → Bool
  on_in s t = not (is_off (task_at s.tasks t))

  finished-same : (s : KernelState) (cs ds : Contexts (Held C)) (own other : List Line) (g i : Progress)
      → all_timeless own ≡ all_timeless other → SameProgress sys g i → Both (on_in s) cs ds → Rests s g
      → BothDone (finished sys M cs own g) (finished sys M ds other i)
  finished-same s cs ds own other g i e h b r =
      let rested = settled-rests sys s g r in
      subst (λ (z : Progress). BothDone (finished sys M cs own g) (concluded sys M ds z))
      (sym (settled-behind sys other i))
      (subst (λ (z : Progress). BothDone (concluded sys M cs z) (concluded sys M ds (behind other (settled sys i))))
      (sym (settled-behind sys own g))
      (concluded-same (on_in s) cs ds own other (settled sys g) (settled sys i) e (settled-same sys g i h) b
      (λ t off. ap (λ (c : Bool). not (is_off (task_at s.tasks t)) || c) (starts-append t own (settled sys g).lines)
      ∙ told (is_off (task_at s.tasks t)) (starts t own) (starts t (settled sys g).lines)
      (subst (λ (c : Bool). Rested (is_off (task_at s.tasks t)) c (starts t (settled sys g).lines)) off (rested t)))))

  own-same : (s : KernelState) (cs ds : Contexts (Held C)) (own : Line) (g i : Progress) → SameProgress sys g i
      → Both (on_in s) cs ds → Rests s g → BothDone (finished sys M cs (own ∷ []) g) (finished sys M ds (own ∷ []) i)
  own-same s cs ds own g i h b r = finished-same s cs ds (own ∷ []) (own ∷ []) g i refl h b r

  answered-same : (s : KernelState) (a : Answer) (cs ds : Contexts (Held C)) (p : ℕ) (who : Caller) (c : Call)
      (g i : Progress)
      → SameProgress sys g i → Both (on_in s) cs ds → Rests s g
      → BothAlike SameWorlds (answered a sys M cs p who c g) (answered a sys M ds p who c i)
  answered-same s (Replies reply) cs ds p who c g i h b r = own-same s cs ds (line.Call p who c (Some reply)) g i h b r
  answered-same s Waits cs ds p who c g i h b r = own-same s cs ds (line.Call p who c None) g i h b r
  answered-same s Ends cs ds p who c g i h b r = own-same s cs ds (line.End p who) g i h b r
  answered-same s Spins cs ds p who c g i h b r = tt

  call_made-same : (s : KernelState) (cs ds : Contexts (Held C)) (p : ℕ) (who : Caller) (c : Call) (o q : CallOutcome)
      → SameOutcome sys o q → Both (on_in s) cs ds → Rests s o.progress
      → BothAlike SameWorlds (call_made sys M cs p who c o) (call_made sys M ds p who c q)
  call_made-same s cs ds p who c o q h b r =
      subst (λ (a : Answer). BothAlike SameWorlds (call_made sys M cs p who c o)
      (answered a sys M ds p who c q.progress)) h.answer
      (answered-same s o.answer cs ds p who c o.progress q.progress h.progress b r)

  module _ (n : ℕ) (cs ds : Contexts (Held C)) (s : KernelState) (v : View) (h : AlikeStates sys s (seen s v))
      (b : Both (on_in s) cs ds) (settled_before : IsSettled sys s) where
    abbrev one : World C
    one = record { state = s; contexts = cs }

    abbrev other : World C
    other = record { state = seen s v; contexts = ds }

    actor_ended-same : (p : ℕ) (who : Caller) → SameProgress sys (actor_ended sys s p who)
        (actor_ended sys (seen s v) p who)
    actor_ended-same p (caller.Task t) =
        let x = task_at s.tasks t in
        by_block (λ (y : TaskBlock). SameProgress sys (ended_itself sys s p t x) (ended_itself sys (seen s v) p t y))
        s.clock v.clock x (task_at v.tasks t) (blocks-at s.clock v.clock s.tasks v.tasks h.tasks t)
        (λ d k. ended_itself-same sys s (seen s v) p t x d h)
    actor_ended-same p (caller.Handler i) =
        unchanged-same sys _ _ (alike-changed sys (λ z. handler_ended z p) (λ z. refl) (λ z. refl) s (seen s v) h)

    actor_ended-rests : (p : ℕ) (who : Caller) → Rests s (actor_ended sys s p who)
    actor_ended-rests p (caller.Task t) = rests-ended_itself sys s p t (task_at s.tasks t)
    actor_ended-rests p (caller.Handler i) = rests-still s

    ended_with-same : (p : ℕ) (who : Caller) (own : Line) → BothDone (ended_with sys M one p who own)
        (ended_with sys M other p who own)
    ended_with-same p who own =
        own-same s (contexts_ended sys M cs p who) (contexts_ended sys M ds p who) own _ _ (actor_ended-same p who)
        (ended-agrees sys M (on_in s) cs ds p who b) (actor_ended-rests p who)

    stretched-same : (p : ℕ) (who : Caller) → IsCaller s who → (x : Ending C)
        → BothAlike SameWorlds (stretched sys M one p who x) (stretched sys M other p who x)
    stretched-same p who is (ends.Call c made) =
        call_made-same s (with_context cs p who (Some (Awaits c))) (with_context ds p who (Some (Awaits c))) p who
        made _ _
        (called-same sys s (seen s v) h p who made) (with_context-agrees sys M (on_in s) cs ds p who
        (Some (Awaits c)) b)
        (called-rests sys s p who made is)
    stretched-same p who is (ends.End c) = ended_with-same p who (line.End p who)
    stretched-same p who is (ends.Fault c fault) = ended_with-same p who (line.Fault p who fault)
    stretched-same p who is (ends.Over None) = tt
    stretched-same p who is (ends.Over (Some c)) =
        let agreed = with_context-agrees sys M (on_in s) cs ds p who (Some (Goes c)) b in
        let tasks = agreed.tasks in (
          refl,
          record {
            states = h;
            contexts = record {
              tasks = λ t off. tasks.at t (on_of (is_off (task_at s.tasks t)) off);
              handlers = agreed.handlers;
              long = tasks.long;
            };
          },
        )

    run_in-same : (p : ℕ) (who : Caller) → IsCaller s who → (held : Option (Held C))
        → BothAlike SameWorlds (run_in sys M n one p who held) (run_in sys M n other p who held)
    run_in-same p who is None = tt
    run_in-same p who is (Some (Awaits c)) = tt
    run_in-same p who is (Some (Goes c)) =
        subst (λ (body : ℕ). BothAlike SameWorlds (run_in sys M n one p who (Some (Goes c)))
        (stretched sys M other p who (M.stretch body n c))) (body-agrees sys M (on_in s) cs ds p who b)
        (stretched-same p who is (M.stretch (caller_body sys cs p who) n c))

    is_on : (who : Caller) → IsCaller s who → IsOn sys M (on_in s) who
    is_on (caller.Task t) e = on_of (is_off (task_at s.tasks t)) e
    is_on (caller.Handler i) e = tt

    run_by-same : (p : ℕ) (who : Option Caller) → ((w : Caller) → who ≡ Some w → IsCaller s w)
        → BothAlike SameWorlds (run_by sys M n one p who) (run_by sys M n other p who)
    run_by-same p None is = tt
    run_by-same p (Some who) is =
        subst (λ (held : Option (Held C)). BothAlike SameWorlds (run_by sys M n one p (Some who))
        (run_in sys M n other p who held))
        (context_of-agrees sys M (on_in s) cs ds p who b (is_on who (is who refl)))
        (run_in-same p who (is who refl) (context_of cs p who))

    interrupted_by-same : (c : Bool) (i : ℕ) → BothAlike SameWorlds (interrupted_by c sys M one i)
        (interrupted_by c sys M other i)
    interrupted_by-same true i = tt
    interrupted_by-same false i =
        own-same s cs ds (line.Int i) _ _
        (unchanged-same sys _ _ (alike-changed sys (λ z. with_interrupt_pending z i) (λ z. refl) (λ z. refl) s
        (seen s v) h)) b
        (rests-still s)

    interrupted-same : (config : Option InterruptConfig) (i : ℕ)
        → BothAlike SameWorlds (interrupted config sys M one i) (interrupted config sys M other i)
    interrupted-same None i = tt
    interrupted-same (Some config) i = interrupted_by-same (is_pending s.pending_interrupts i) i

    runs_on : (p t : ℕ) → (processor_at s p).run ≡ Some t → is_off (task_at s.tasks t) ≡ false
    runs_on p t e =
        ap (λ (phase : Phase). is_dormant phase && is_none (task_at s.tasks t).deadline) (settled_before.ready p t e)

    seen-step : (e : Event) → BothAlike SameWorlds (step sys M n one e) (step sys M n other e)
    seen-step (Run zero) = tt
    seen-step (Run (suc p)) =
        run_by-same p (actor_of (processor_at s p)) (acts s (processor_at s p).handler (processor_at s p).run
        (runs_on p))
    seen-step Tick =
        finished-same s cs ds (line.Tick (s.clock + 1) ∷ []) (line.Tick (v.clock + 1) ∷ []) _ _ refl
        (ticked-same sys s (seen s v) h) b
        (ticked-rests sys s)
    seen-step (Int zero) = tt
    seen-step (Int (suc i)) = interrupted-same (interrupt_config sys i) i

  same-step : (n : ℕ) (v w : World C) (e : Event) → Alike sys v w
      → BothAlike SameWorlds (step sys M n v e) (step sys M n w e)
  same-step n v w e h =
      let c = h.contexts in
      let b : Both (on_in v.state) v.contexts w.contexts =
      record {
        tasks = record { at = λ t on. c.tasks t (off_of (is_off (task_at (v.state).tasks t)) on); long = c.long };
        handlers = c.handlers;
      } in
      by_view (λ (u : KernelState). BothAlike SameWorlds (step sys M n v e)
      (step sys M n (record { state = u; contexts = w.contexts }) e))
      sys v.state w.state h.states (λ a k. seen-step n v.contexts w.contexts v.state a k b h.settled e)

  -- a reaction in a settled world leaves a settled one
  abbrev Settles : Reaction C → Type 0
  Settles Nothing = Unit {0}
  Settles (Did d) = IsSettled sys d.world.state
  Settles (Kept p u) = IsSettled sys u.state

  step-settles : (n : ℕ) (w : World C) (e : Event) → IsSettled sys w.state → Settles (step sys M n w e)
  step-settles n w e h = by_reaction (step sys M n w e) refl where
    by_reaction : (x : Reaction C) → step sys M n w e ≡ x → Settles x
    by_reaction Nothing k = tt
    by_reaction (Did d) k = step-settled sys M n w e d h k
    by_reaction (Kept p u) k =
        subst (λ (s : KernelState). IsSettled sys s) (sym (kept-state sys M n w u e p k)) h

  both-settled : (x y : Reaction C) → BothAlike SameWorlds x y → Settles x → Settles y → BothAlike (Alike sys) x y
  both-settled Nothing Nothing both a b = tt
  both-settled (Did c) (Did d) (lines, same) a b =
      (lines, record { states = same.states; contexts = same.contexts; settled = a; also_settled = b })
  both-settled (Kept p t) (Kept q u) (who, same) a b =
      (who, record { states = same.states; contexts = same.contexts; settled = a; also_settled = b })
  both-settled Nothing (Did d) both a b = absurd both
  both-settled Nothing (Kept q u) both a b = absurd both
  both-settled (Did c) Nothing both a b = absurd both
  both-settled (Did c) (Kept q u) both a b = absurd both
  both-settled (Kept p t) Nothing both a b = absurd both
  both-settled (Kept p t) (Did d) both a b = absurd both

  -- each event does the same in alike worlds
  pub step-same : (n : ℕ) → KeepsAlike (Alike sys) (step sys M n)
  step-same n v w e h =
      both-settled (step sys M n v e) (step sys M n w e) (same-step n v w e h) (step-settles n v e h.settled)
      (step-settles n w e h.also_settled)
