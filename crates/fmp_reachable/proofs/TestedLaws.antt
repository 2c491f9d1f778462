-- A world of which the tests and the kernel's own laws hold is sound.
use Rattle.std.proofs.Common.{◌≡◌, ℕ, zero, suc, ◌+◌, ◌<◌, ◌≤◌, ◌⊎◌, inl, inr, List, [], ◌∷◌, length, map, Option}
use Rattle.std.proofs.Common.{Some, None, Bool, true, false, ◌||◌, pos, get_or, slice_get, nat_eq, refl, sym, ap}
use Rattle.std.proofs.Common.{subst, ◌∙◌, arith}
use Rattle.std.specs.Prelude.{IfSome}
use Rattle.std.proofs.lemmas.List.{get_or_past}
use Rattle.std.proofs.lemmas.Option.{slice_get-get_or}
use Rattle.fmp_base.specs.declared.bodies.HandlerContext.{HandlerContext}
use Rattle.fmp_base.specs.declared.bodies.HandlerStart.{HandlerStart}
use Rattle.fmp_base.specs.declared.bodies.Held.{Held}
use Rattle.fmp_base.specs.declared.bodies.Held.TheVariants.{Goes, Awaits}
use Rattle.fmp_base.specs.declared.states.Caller.TheVariants as caller
use Rattle.fmp_base.specs.declared.states.Handler.{Handler}
use Rattle.fmp_base.specs.declared.states.Handler.TheVariants as handler
use Rattle.fmp_base.specs.declared.states.Phase.TheVariants.{Dormant}
use Rattle.fmp_base.specs.declared.states.TaskBlock.{TaskBlock}
use Rattle.fmp_base.specs.declared.systems.CyclicConfig.{CyclicConfig}
use Rattle.fmp_base.specs.declared.systems.InterruptConfig.{InterruptConfig}
use Rattle.fmp_base.specs.Meanings.{World, body_in, context_at, context_in, cyclic_start, handler_start}
use Rattle.fmp_base.specs.Meanings.{interrupt_start, kept_context, task_body}
use Rattle.fmp_base.specs.Settles.{is_defined_on}
use Rattle.fmp_base.specs.States.{KernelState, idle, processor_at, task_at}
use Rattle.fmp_base.specs.Systems.{SystemTables, body_of, cyclic_config, data_queue_config, found, interrupt_config}
use Rattle.fmp_base.specs.TaskCalls.{is_dormant}
use Rattle.fmp_base.specs.Ticks.{is_pending}
use Rattle.fmp_code.specs.Vms.{IsContext}
use Rattle.fmp_contexts.specs.Contexts.{Fitting, HasPlaces, OfHeld, OfOption, is_going}
use Rattle.fmp_contexts.proofs.ContextLemmas.{fits_of}
use Rattle.fmp_instructions.specs.declared.instructions.MachineContext.{MachineContext}
use Rattle.fmp_instructions.specs.Instructions.{BodyTables}
use Rattle.fmp_reachable.specs.Numbers.{IsAhead}
use Rattle.fmp_reachable.specs.Rooms.{IsGoingWithin, IsHandlerWithin, IsKeptWithin, IsWithinRooms, RunsWithin}
use Rattle.fmp_reachable.specs.Rooms.{is_handler_of, locals_at}
use Rattle.fmp_reachable.specs.Sizes.{AreWithinCapacity}
use Rattle.fmp_reachable.specs.Sound.{AreAllAhead, AreApart, AreHeld, GoesNot, IsFineBlock, IsQuiet, IsSound, IsSteady}
use Rattle.fmp_reachable.specs.Sound.{sizes, sizes_of}
use Rattle.fmp_reachable.specs.Tested.{HasClearLocals, IsAtRest, IsKept, IsSoundHandler, IsSoundOn, IsSoundTask}
use Rattle.fmp_reachable.specs.Tested.{KeepsOwnLocals, StartsIn}
use Rattle.fmp_ring.specs.OrderLaws.{nat_eq-same}
use Rattle.fmp_ring.specs.Orders.{IsOrder}
use Rattle.fmp_ring.specs.RingLists.{AreDisjoint, is_in, is_linked, list_at}
use Rattle.fmp_tasks.specs.Homes.{is_waiting}
use Rattle.fmp_ticks.specs.Times.{NoneBefore}
use Rattle.fmp_worlds.specs.Settled.{IsSettledWorld}

-- a place of a list lies in it or beyond
within : (p n : ℕ) → (p < n) ⊎ (n ≤ p)
within p zero = inr (omega arith)
within zero (suc n) = inl (omega arith)
within (suc p) (suc n) = elim (within p n) [ inl h ↦ inl (omega (arith, h)) | inr h ↦ inr (omega (arith, h)) ]

-- beyond the last of a list there is the default
beyond : {A : Type 0} (default : A) (xs : List A) (p : ℕ) → length xs ≤ p → found default (slice_get xs p) ≡ default
beyond default [] p l = refl
beyond default (x ∷ xs) zero l = absurd (omega (arith, l))
beyond default (x ∷ xs) (suc p) l = beyond default xs p (omega (arith, l))

ahead_of : (low : ℕ) (o : Option ℕ) → IfSome o (λ w. low ≤ w) → IsAhead low o
ahead_of low None h = tt
ahead_of low (Some w) h = h

time_ahead : (low : ℕ) (times : List (Option ℕ)) (c : ℕ) → IfSome (get_or times c None) (λ w. low ≤ w)
    → IsAhead low (found None (slice_get times c))
time_ahead low [] c h = tt
time_ahead low (o ∷ os) zero h = ahead_of low o h
time_ahead low (o ∷ os) (suc c) h = time_ahead low os c h

all_ahead : (low : ℕ) (times : List (Option ℕ)) → NoneBefore low times → AreAllAhead low times
all_ahead low times h = record { each = λ c. time_ahead low times c (h c) }

block_fine : (low : ℕ) (tasks : List TaskBlock) (t : ℕ) → (t < length tasks → IsAtRest (task_at tasks t))
    → IfSome (get_or (map (λ (x : TaskBlock). x.deadline) tasks) t None) (λ w. low ≤ w)
    → IsFineBlock low (task_at tasks t)
block_fine low [] t r h = record { rest = λ e. refl; calm = λ e. refl; ahead = tt }
block_fine low (x ∷ xs) zero r h =
    let at_rest = r (omega arith) in
    record { rest = at_rest.rest; calm = at_rest.calm; ahead = ahead_of low x.deadline h }
block_fine low (x ∷ xs) (suc t) r h = block_fine low xs t (λ l. r (omega (arith, l))) h

-- a node that stands in none of the lists is not linked
not_linked : (g : ℕ) (ls : List (List ℕ)) → ((k : ℕ) → is_in g (list_at ls k) ≡ true → ⊥) → is_linked g ls ≡ false
not_linked g [] h = refl
not_linked g (l ∷ ls) h = by_test (is_in g l) (h 0) (not_linked g ls (λ k. h (suc k))) where
  by_test : (b : Bool) → (b ≡ true → ⊥) → is_linked g ls ≡ false → (b || is_linked g ls) ≡ false
  by_test true n e = absurd (n refl)
  by_test false n e = e

-- lists of which each has each of its numbers once, and that are disjoint
apart : (n : ℕ) (ls : List (List ℕ)) → AreDisjoint ls → ((x : ℕ) → x < length ls → IsOrder n (get_or ls x []))
    → AreApart n ls
apart n [] d h = tt
apart n (l ∷ ls) d h = (
  h 0 (omega arith),
  λ g e. not_linked g ls (λ k f. absurd (omega (arith, d g 0 (suc k) e f))),
  apart n ls (λ x g k a b. omega (arith, d x (suc g) (suc k) a b)) (λ x l. h (suc x) (omega (arith, l))),
)

capacity : (sys : SystemTables) (s : KernelState)
    → ((d : ℕ) → d < length s.data_queues → length (get_or s.data_queues d []) ≤ (data_queue_config sys d).capacity)
    → AreWithinCapacity sys s.data_queues
capacity sys s h d = by_place (within d (length s.data_queues)) where
  by_place : ((d < length s.data_queues) ⊎ (length s.data_queues ≤ d))
      → length (get_or s.data_queues d []) ≤ (data_queue_config sys d).capacity
  by_place (inl l) = h d l
  by_place (inr l) = rw (get_or_past s.data_queues d [] l) (omega arith)

quiet : (sys : SystemTables) (pending : List Bool) → length pending ≡ 32
    → ((i : ℕ) → i < 32 → interrupt_config sys i ≡ None → is_pending pending i ≡ false) → IsQuiet sys pending
quiet sys pending many h = record { each = λ i e. by_place i e (within i 32) } where
  by_place : (i : ℕ) → interrupt_config sys i ≡ None → ((i < 32) ⊎ (32 ≤ i)) → is_pending pending i ≡ false
  by_place i e (inl l) = h i l e
  by_place i e (inr l) = beyond false pending i (omega (arith, many, l))

goes_not : {C : Type 0} (o : Option (Held C)) → is_going o ≡ false → GoesNot o
goes_not None h = tt
goes_not (Some (Goes c)) h = absurd (cc h)
goes_not (Some (Awaits c)) h = tt

-- there is no task beyond the last
dormant_beyond : (tasks : List TaskBlock) (t : ℕ) → length tasks ≤ t → (task_at tasks t).phase ≡ Dormant
dormant_beyond [] t l = refl
dormant_beyond (x ∷ xs) zero l = absurd (omega (arith, l))
dormant_beyond (x ∷ xs) (suc t) l = dormant_beyond xs t (omega (arith, l))

held : {C : Type 0} (tasks : List TaskBlock) (cs : List (Option (Held C)))
    → ((t : ℕ) → t < length tasks → is_waiting (task_at tasks t).phase ≡ true → is_going (context_at cs t) ≡ false)
    → AreHeld tasks cs
held tasks cs h = record { each = λ t e. by_place t e (within t (length tasks)) } where
  by_place : (t : ℕ) → is_waiting (task_at tasks t).phase ≡ true → ((t < length tasks) ⊎ (length tasks ≤ t))
      → GoesNot (context_at cs t)
  by_place t e (inl l) = goes_not (context_at cs t) (h t l e)
  by_place t e (inr l) = absurd (cc (e, ap is_waiting (dormant_beyond tasks t l)))

kept_within : (bodies : List BodyTables) (body : ℕ) (o : Option (Held MachineContext))
    → KeepsOwnLocals bodies body (kept_context o) → OfOption (OfHeld (IsContext bodies body)) o
    → IsKeptWithin bodies body o
kept_within bodies body None h f = absurd h
kept_within bodies body (Some (Goes c)) h f = record { long = h.long; locals = h.clear; placed = f }
kept_within bodies body (Some (Awaits c)) h f = record { long = h.long; locals = h.clear; placed = f }

going_within : (bodies : List BodyTables) (body : ℕ) (held : Held MachineContext) → is_going (Some held) ≡ true
    → KeepsOwnLocals bodies body (kept_context (Some held)) → OfHeld (IsContext bodies body) held
    → IsGoingWithin bodies body held
going_within bodies body (Goes c) e h f = record { long = h.long; locals = h.clear; placed = f }
going_within bodies body (Awaits c) e h f = absurd (cc e)

none_kept : {C : Type 0} (held : Held C) → kept_context (Some held) ≡ None → ⊥
none_kept (Goes c) h = cc h
none_kept (Awaits c) h = cc h

-- a handler that runs, once it is known how it begins
runs_within : (sys : SystemTables) (bodies : List BodyTables) (p : ℕ) (h : Handler)
    (kept : HandlerContext (Held MachineContext)) (o : Option HandlerStart) → handler_start sys h ≡ o
    → StartsIn kept.body o → is_handler_of sys p h ≡ true → IsGoingWithin bodies kept.body kept.context
    → RunsWithin sys bodies p h kept
runs_within sys bodies p h kept None is s own g = absurd s
runs_within sys bodies p h kept (Some start) is s own g =
    record { own = own; start = start; starts = is; body = s; within = g }

handler_within : (sys : SystemTables) (bodies : List BodyTables) (p : ℕ) (o : Option Handler)
    (kept : Option (HandlerContext (Held MachineContext))) → IsSoundHandler sys bodies p o kept
    → OfOption (OfHeld (IsContext bodies (body_in kept))) (context_in kept) → IsHandlerWithin sys bodies p o kept
handler_within sys bodies p None None h f = tt
handler_within sys bodies p None (Some k) h f = absurd (none_kept k.context h)
handler_within sys bodies p (Some i) None h f = absurd h.3
handler_within sys bodies p (Some i) (Some k) h f =
    runs_within sys bodies p i k (handler_start sys i) refl h.1 h.0 (going_within bodies k.body k.context h.2 h.3 f)

-- a dormant task at rest, and any other one
pub rest_dormant : (x : TaskBlock) → x.suspended ≡ false → x.deadline ≡ None → IsAtRest x
rest_dormant x calm rest = record { rest = λ e. rest; calm = λ e. calm }

pub rest_other : (x : TaskBlock) → is_dormant x.phase ≡ false → IsAtRest x
rest_other x h = record { rest = λ e. absurd (cc (h, e)); calm = λ e. absurd (cc (h, e)) }

-- locals of which those behind the own ones are 0
pub clear_locals : (own : ℕ) (c : MachineContext) → length c.locals ≡ 64
    → ((k : ℕ) → own ≤ k → k < 64 → get_or c.locals k (pos 0) ≡ pos 0) → HasClearLocals own c
clear_locals own c long h = record { long = long; clear = λ l le. by_place l le (within l 64) } where
  by_place : (l : ℕ) → own ≤ l → ((l < 64) ⊎ (64 ≤ l)) → get_or c.locals l (pos 0) ≡ pos 0
  by_place l le (inl lt) = h l le lt
  by_place l le (inr past) = get_or_past c.locals l (pos 0) (omega (arith, long, past))

-- how many locals a body has
pub locals_found : (bodies : List BodyTables) (k : ℕ)
    → get_or (map (λ (b : BodyTables). b.locals) bodies) k 0 ≡ locals_at bodies k
locals_found [] k = refl
locals_found (b ∷ bs) zero = refl
locals_found (b ∷ bs) (suc k) = locals_found bs k

pub own_locals : (bodies : List BodyTables) (entry own : ℕ) (o : Option MachineContext) (c : MachineContext)
    → o ≡ Some c → own ≡ locals_at bodies entry → HasClearLocals own c → KeepsOwnLocals bodies entry o
own_locals bodies entry own o c is same h =
    subst (λ (x : Option MachineContext). KeepsOwnLocals bodies entry x) (sym is)
    (subst (λ (n : ℕ). HasClearLocals n c) same h)

pub sound_task : (sys : SystemTables) (bodies : List BodyTables) (w : World MachineContext) (t : ℕ) (x : TaskBlock)
    → x ≡ task_at w.state.tasks t → IsAtRest x
    → (is_waiting x.phase ≡ true → is_going (context_at w.contexts.tasks t) ≡ false)
    → (entry : ℕ) → entry ≡ task_body sys t
    → KeepsOwnLocals bodies entry (kept_context (context_at w.contexts.tasks t)) → IsSoundTask sys bodies w t
sound_task sys bodies w t x is rest held entry same locals = record {
  rest = subst (λ (y : TaskBlock). IsAtRest y) is rest;
  held =
      subst (λ (y : TaskBlock). is_waiting y.phase ≡ true → is_going (context_at w.contexts.tasks t) ≡ false) is held;
  locals =
      subst (λ (n : ℕ). KeepsOwnLocals bodies n (kept_context (context_at w.contexts.tasks t))) same locals;
}

-- handlers of p, and the bodies with which they begin
pub on_interrupt : (sys : SystemTables) (p i : ℕ) (config : InterruptConfig) → interrupt_config sys i ≡ Some config
    → config.processor ≡ p → is_handler_of sys p (handler.Interrupt i) ≡ true
on_interrupt sys p i config is own =
    subst (λ (o : Option InterruptConfig). is_defined_on p o ≡ true) (sym is)
    (subst (λ (n : ℕ). nat_eq n p ≡ true) (sym own) (nat_eq-same p))

pub starts_interrupt : (sys : SystemTables) (i body : ℕ) (config : InterruptConfig)
    → interrupt_config sys i ≡ Some config → body ≡ body_of config.entry
    → StartsIn body (handler_start sys (handler.Interrupt i))
starts_interrupt sys i body config is same =
    subst (λ (o : Option InterruptConfig). StartsIn body (interrupt_start o)) (sym is) same

pub on_cyclic : (sys : SystemTables) (p c : ℕ) (config : CyclicConfig) → config ≡ cyclic_config sys c
    → config.processor ≡ p → is_handler_of sys p (handler.Cyclic c) ≡ true
on_cyclic sys p c config is own =
    subst (λ (x : CyclicConfig). nat_eq x.processor p ≡ true) is
    (subst (λ (n : ℕ). nat_eq n p ≡ true) (sym own) (nat_eq-same p))

found_is : {A : Type 0} (default : A) (o : Option A) (x : A) → o ≡ Some x → found default o ≡ x
found_is {A} default o x e = ap (λ (y : Option A). found default y) e

pub starts_cyclic : (sys : SystemTables) (c body : ℕ) (config : CyclicConfig) → c < length sys.cyclics
    → config ≡ cyclic_config sys c → body ≡ body_of config.entry
    → StartsIn body (handler_start sys (handler.Cyclic c))
starts_cyclic sys c body config there is same =
    let here = slice_get-get_or sys.cyclics c config there in
    let at_place : cyclic_config sys c ≡ get_or sys.cyclics c config = found_is _ (slice_get sys.cyclics c) _ here in
    subst (λ (o : Option CyclicConfig). StartsIn body (cyclic_start o)) (sym here)
    (same ∙ ap (λ (x : CyclicConfig). body_of x.entry) (is ∙ at_place))

pub handler_sound : (sys : SystemTables) (bodies : List BodyTables) (p : ℕ) (h : Handler)
    (kept : Option (HandlerContext (Held MachineContext))) (body : ℕ) → is_handler_of sys p h ≡ true
    → StartsIn body (handler_start sys h) → body_in kept ≡ body → is_going (context_in kept) ≡ true
    → KeepsOwnLocals bodies body (kept_context (context_in kept)) → IsSoundHandler sys bodies p (Some h) kept
handler_sound sys bodies p h kept body own starts same goes locals = (
  own,
  subst (λ (n : ℕ). StartsIn n (handler_start sys h)) (sym same) starts,
  goes,
  subst (λ (n : ℕ). KeepsOwnLocals bodies n (kept_context (context_in kept))) (sym same) locals,
)

pub sound_on : (sys : SystemTables) (bodies : List BodyTables) (w : World MachineContext) (p : ℕ) (o : Option Handler)
    → o ≡ (processor_at w.state p).handler
    → IsSoundHandler sys bodies p o (context_at w.contexts.handlers p) → IsSoundOn sys bodies w p
sound_on sys bodies w p o is h = record {
  handler = subst (λ (x : Option Handler). IsSoundHandler sys bodies p x (context_at w.contexts.handlers p)) is h;
}

pub sizes_same : (sys : SystemTables) (s : KernelState) → length s.tasks ≡ length sys.tasks
    → length s.processors ≡ sys.processors → length s.due_times ≡ length sys.cyclics
    → length s.semaphores ≡ length sys.semaphores → length s.flags ≡ length sys.flags
    → length s.data_queues ≡ length sys.data_queues → length s.mailboxes ≡ length sys.mailboxes
    → length s.shared_words ≡ length sys.shared_words → length s.pending_cyclics ≡ length sys.cyclics
    → length s.pending_interrupts ≡ 32 → sizes s ≡ sizes_of sys
sizes_same sys s a b c d e f g h i j = rw (a, b, c, d, e, f, g, h, i, j) refl

module _ (sys : SystemTables) (bodies : List BodyTables) (w : World MachineContext)
    {has_entry : List BodyTables → ℕ → Type 0} (kept : IsKept sys w.state) (settled : IsSettledWorld sys w)
    (places : HasPlaces sys w.contexts) (fits : Fitting has_entry IsContext bodies sys w.contexts)
    (tasks : (t : ℕ) → t < length sys.tasks → IsSoundTask sys bodies w t)
    (processors : (p : ℕ) → p < sys.processors → IsSoundOn sys bodies w p)
    (words : (d : ℕ) → d < length w.state.data_queues
    → length (get_or w.state.data_queues d []) ≤ (data_queue_config sys d).capacity)
    (interrupts : (i : ℕ) → i < 32 → interrupt_config sys i ≡ None → is_pending w.state.pending_interrupts i ≡ false)
  where
    task_at_place : (t : ℕ) → t < length w.state.tasks → IsSoundTask sys bodies w t
    task_at_place t l = tasks t (omega (arith, settled.whole.tasks, l))

    steady : IsSteady sys w.state
    steady =
        record {
          blocks = record {
            each = λ t. block_fine (w.state.clock + 1) w.state.tasks t (λ l. (task_at_place t l).rest)
                (kept.deadlines t);
            distinct = kept.distinct;
            standing = kept.standing;
          };
          cyclics = all_ahead (w.state.clock + 1) w.state.due_times kept.due_times;
          messages = apart (length sys.messages) w.state.mailboxes kept.disjoint kept.once;
          words = capacity sys w.state words;
          quiet = quiet sys w.state.pending_interrupts kept.interrupts interrupts;
          sizes = kept.sizes;
        }

    on_processor : (p : ℕ) → ((p < sys.processors) ⊎ (sys.processors ≤ p))
        → IsHandlerWithin sys bodies p (processor_at w.state p).handler (context_at w.contexts.handlers p)
    on_processor p (inl l) =
        handler_within sys bodies p (processor_at w.state p).handler (context_at w.contexts.handlers p)
        (processors p l).handler (fits_of w.contexts p (caller.Handler (handler.Interrupt 0)) fits)
    on_processor p (inr l) =
        let none : context_at w.contexts.handlers p ≡ None =
        beyond None w.contexts.handlers p (omega (arith, places.handlers, l)) in
        let same : processor_at w.state p ≡ idle =
        beyond idle w.state.processors p (omega (arith, places.handlers, settled.whole.handlers, l)) in
        rw (none, same) tt

    rooms : IsWithinRooms sys bodies w
    rooms =
        record {
          tasks = λ t l. kept_within bodies (task_body sys t) (context_at w.contexts.tasks t) (tasks t l).locals
              (fits_of w.contexts 0 (caller.Task t) fits);
          handlers = λ p. on_processor p (within p sys.processors);
          task_places = places.tasks;
          handler_places = places.handlers;
        }

    pub tested_sound : IsSound sys bodies w
    tested_sound =
        record {
          reached = record {
            steady = record {
              state = steady;
              held = held w.state.tasks w.contexts.tasks (λ t l. (task_at_place t l).held);
              tasks = places.tasks;
              handlers = places.handlers;
            };
            settled = settled;
          };
          rooms = rooms;
        }
