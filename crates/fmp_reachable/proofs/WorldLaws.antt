-- Every world that setup and events reach is regular.
use Rattle.std.proofs.Common.{◌≡◌, ◌+◌, ℕ, zero, suc, List, [], ◌∷◌, Option, Some, None, Bool, true, false, refl, sym}
use Rattle.std.proofs.Common.{◌∙◌, ap, arith, length, get_or, slice_get}
use Rattle.std.proofs.lemmas.List.{length-map, length-replicate}
use Rattle.fmp_base.specs.declared.bodies.Held.{Held}
use Rattle.fmp_base.specs.declared.bodies.Held.TheVariants.{Goes, Awaits}
use Rattle.fmp_base.specs.declared.events.Event.{Event}
use Rattle.fmp_base.specs.declared.states.Phase.{Phase}
use Rattle.fmp_base.specs.declared.states.Phase.TheVariants.{Dormant, Ready, Waiting}
use Rattle.fmp_base.specs.Meanings.{Meaning, World, context_at}
use Rattle.fmp_base.specs.Ranges.{IsInRange}
use Rattle.fmp_base.specs.Runs.{Trace, run, run_on}
use Rattle.fmp_base.specs.Setups.{all_started, created_state, first_contexts, setup}
use Rattle.fmp_base.specs.States.{KernelState, unchanged, places_from, task_at}
use Rattle.fmp_base.specs.Steps.{Reaction, Nothing, Did, Kept, step}
use Rattle.fmp_base.specs.Systems.{SystemTables, body_of, found}
use Rattle.fmp_ring.specs.RingLists.{is_in}
use Rattle.fmp_tasks.specs.Holding.{messages_holding}
use Rattle.fmp_tasks.specs.Homes.{is_waiting}
use Rattle.fmp_worlds.specs.Settled.{AwaitsNone, IsSettled, IsSettledWorld, IsWorldOf}
use Rattle.fmp_worlds.proofs.Awaiting.{kept-settled_world, setup-settled_world, step-settled_world}
use Rattle.fmp_reachable.specs.Numbers.{IsAhead}
use Rattle.fmp_reachable.specs.Rows.{IsRegular}
use Rattle.fmp_reachable.specs.Values.{SameSizes}
use Rattle.fmp_reachable.specs.Worlds.{IsHeldBy, IsRegularWorld}
use Rattle.fmp_reachable.specs.Sizes.{AreWithinCapacity, IsOfSystem, IsWorldOfSystem}
use Rattle.fmp_reachable.proofs.Apart.{apart-at, linked-at}
use Rattle.fmp_reachable.proofs.EventChanges.{setup-keeps}
use Rattle.fmp_reachable.proofs.HeldLaws.{created-held}
use Rattle.fmp_reachable.proofs.StepLaws.{Leaves, finished-steady, step-steady}
use Rattle.fmp_reachable.specs.Sound.{Sizes, AreApart, IsSteady, GoesNot, IsSteadyWorld, IsReached}

-- a state between events is regular

not-after : (now : ℕ) (d : Option ℕ) → IsAhead (now + 1) d → IsAhead now d
not-after now None h = tt
not-after now (Some time) h = omega (arith, h)

holding : (boxes : List (List ℕ)) (n x g : ℕ) → AreApart n boxes → is_in g (get_or boxes x []) ≡ true
    → messages_holding boxes g ≡ get_or boxes x []
holding [] n x g h e = cc
holding (l ∷ ls) n zero g h e = rw e refl
holding (l ∷ ls) n (suc x) g h e = by_test (is_in g l) refl (holding ls n x g h.2 e) where
  by_test : (b : Bool) → is_in g l ≡ b → messages_holding ls g ≡ get_or ls x []
      → messages_holding (l ∷ ls) g ≡ get_or ls x []
  by_test true k rest =
      let clash : true ≡ false = sym (linked-at g ls x e) ∙ h.1 g k in cc
  by_test false k rest = rw k rest

pub steady-regular : (sys : SystemTables) (s : KernelState) → IsSteady sys s → IsRegular sys s
steady-regular sys s h =
    let b = h.blocks in
    let c = h.cyclics in
    let q = h.quiet in
    record {
      orderly = record { distinct = b.distinct; standing = b.standing };
      ahead = record {
        tasks = λ t l. let f = b.each t in not-after s.clock (task_at s.tasks t).deadline f.ahead;
        cyclics = λ i l. not-after s.clock (found None (slice_get s.due_times i)) (c.each i);
      };
      messages = record {
        once = λ x. apart-at (length sys.messages) s.mailboxes x h.messages;
        own = λ x g e. holding s.mailboxes (length sys.messages) x g h.messages e;
      };
      quiet = record { each = λ i e. q.each i e };
    }

pub steady-sized : (sys : SystemTables) (s : KernelState) → IsSteady sys s → IsOfSystem sys s
steady-sized sys s h =
    record {
      tasks = ap (λ (z : Sizes). z.tasks) h.sizes;
      processors = ap (λ (z : Sizes). z.processors) h.sizes;
      cyclics = ap (λ (z : Sizes). z.cyclics) h.sizes;
      semaphores = ap (λ (z : Sizes). z.semaphores) h.sizes;
      flags = ap (λ (z : Sizes). z.flags) h.sizes;
      data_queues = ap (λ (z : Sizes). z.data_queues) h.sizes;
      mailboxes = ap (λ (z : Sizes). z.mailboxes) h.sizes;
      shared_words = ap (λ (z : Sizes). z.shared_words) h.sizes;
      pending_cyclics = ap (λ (z : Sizes). z.pending_cyclics) h.sizes;
      pending_interrupts = ap (λ (z : Sizes). z.pending_interrupts) h.sizes;
    }

pub same-sizes : (sys : SystemTables) (s u : KernelState) → IsOfSystem sys s → IsOfSystem sys u → SameSizes s u
same-sizes sys s u a b =
    record {
      tasks = a.tasks ∙ sym b.tasks;
      processors = a.processors ∙ sym b.processors;
      cyclics = a.cyclics ∙ sym b.cyclics;
      semaphores = a.semaphores ∙ sym b.semaphores;
      flags = a.flags ∙ sym b.flags;
      data_queues = a.data_queues ∙ sym b.data_queues;
      mailboxes = a.mailboxes ∙ sym b.mailboxes;
      shared_words = a.shared_words ∙ sym b.shared_words;
      pending_cyclics = a.pending_cyclics ∙ sym b.pending_cyclics;
      pending_interrupts = a.pending_interrupts ∙ sym b.pending_interrupts;
    }

held-by : {C : Type 0} (p : Phase) (o : Option (Held C)) → (is_waiting p ≡ true → GoesNot o)
    → (p ≡ Ready → AwaitsNone o) → IsHeldBy p o
held-by Dormant None w r = tt
held-by Ready None w r = tt
held-by (Waiting z) None w r = tt
held-by Dormant (Some (Goes c)) w r = tt
held-by Dormant (Some (Awaits c)) w r = tt
held-by Ready (Some (Goes c)) w r = tt
held-by Ready (Some (Awaits c)) w r = r refl
held-by (Waiting z) (Some (Goes c)) w r = w refl
held-by (Waiting z) (Some (Awaits c)) w r = tt

pub reached-regular : {C : Type 0} (sys : SystemTables) (w : World C) → IsReached sys w → IsRegularWorld sys w
reached-regular sys w h =
    let a = h.steady in
    let state = a.state in
    let blocks = state.blocks in
    let held = a.held in
    let settled = h.settled in
    let free = settled.free in
    record {
      state = steady-regular sys w.state a.state;
      settled = settled.state;
      held = λ t. held-by (task_at (w.state).tasks t).phase (context_at (w.contexts).tasks t) (held.each t)
          (free.tasks t);
      at_rest = λ t e. let f = blocks.each t in f.rest e;
    }

pub reached-sized : {C : Type 0} (sys : SystemTables) (w : World C) → IsReached sys w → IsWorldOfSystem sys w
reached-sized sys w h = let a = h.steady in record { state = steady-sized sys w.state a.state; contexts = a.tasks }

pub reached-within : {C : Type 0} (sys : SystemTables) (w : World C) → IsReached sys w
    → AreWithinCapacity sys w.state.data_queues
reached-within sys w h = let a = h.steady in let state = a.state in state.words

steady-whole : {C : Type 0} (sys : SystemTables) (w : World C) → IsSteadyWorld sys w → IsWorldOf sys w
steady-whole sys w a =
    let k = steady-sized sys w.state a.state in
    record { tasks = k.tasks; cyclics = k.pending_cyclics; handlers = a.handlers ∙ sym k.processors }

module _ {C : Type 0} (sys : SystemTables) (M : Meaning C) where
  setup-steady : IsSteadyWorld sys (setup sys M).world
  setup-steady =
      finished-steady sys M 0 (created_state sys).tasks (first_contexts sys M) []
      (all_started sys (unchanged (created_state sys)) (places_from 0 (length sys.tasks))) (setup-keeps sys)
      (created-held sys.tasks (first_contexts sys M).tasks) (λ t w. refl)
      (length-map sys.tasks (λ c. Some (Goes (M.start (body_of c.entry) c.exinf))))
      (length-replicate sys.processors None)

  pub setup-reached : IsReached sys (setup sys M).world
  setup-reached =
      record {
        steady = setup-steady;
        settled = setup-settled_world sys M (steady-whole sys
            (setup sys M).world setup-steady);
      }

  abbrev pub LeavesReached : Reaction C → Type 0
  LeavesReached Nothing = Unit {0}
  LeavesReached (Did d) = IsReached sys d.world
  LeavesReached (Kept p v) = IsReached sys v

  pub step-reached : IsInRange sys → (n : ℕ) (w : World C) (e : Event) → IsReached sys w
      → LeavesReached (step sys M n w e)
  step-reached range n w e h = by_reaction (step sys M n w e) refl (step-steady sys M range n w e h.steady
      (before h.settled)) where
        before : IsSettledWorld sys w → IsSettled sys w.state
        before k = k.state

        by_reaction : (x : Reaction C) → step sys M n w e ≡ x → Leaves sys M x → LeavesReached x
        by_reaction Nothing k a = tt
        by_reaction (Did d) k a =
            record { steady = a; settled = step-settled_world sys M n w e d h.settled (steady-whole sys d.world a) k }
        by_reaction (Kept p v) k a =
            record { steady = a; settled = kept-settled_world sys M n w e p v h.settled (steady-whole sys v a) k }

  run_on-reached : (w : World C) (x : Reaction C) (rest : World C → Trace C) → IsReached sys w → LeavesReached x
      → ((v : World C) → IsReached sys v → IsReached sys (rest v).world) → IsReached sys (run_on w x rest).world
  run_on-reached w Nothing rest h k go = go w h
  run_on-reached w (Did d) rest h k go = go d.world k
  run_on-reached w (Kept p v) rest h k go = go v k

  run-reached : IsInRange sys → (n : ℕ) (w : World C) (es : List Event) → IsReached sys w
      → IsReached sys (run sys M n w es).world
  run-reached range n w [] h = h
  run-reached range n w (e ∷ es) h =
      run_on-reached w (step sys M n w e) _ h (step-reached range n w e h) (λ v k. run-reached range n v es k)

  -- each world of a run is
  pub runs-reached : IsInRange sys → (n : ℕ) (es : List Event)
      → IsReached sys (run sys M n (setup sys M).world es).world
  runs-reached range n es = run-reached range n (setup sys M).world es setup-reached
