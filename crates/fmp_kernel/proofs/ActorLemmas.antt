-- The lines of settling tell which processors have another actor.
use Rattle.std.proofs.Common.{◌≡◌, ℕ, zero, suc, ◌+◌, ◌<◌, ◌≤◌, List, [], ◌∷◌, ◌++◌, Option, Some, None, Bool, true}
use Rattle.std.proofs.Common.{false, ◌||◌, not, nat_eq, nat_lt, length, refl, sym, subst, ap, ◌∙◌, arith, if◌then◌else◌}
use Rattle.std.specs.List.{AllByRecursion}
use Rattle.std.proofs.Math.ListN.{length-set}
use Rattle.std.proofs.lemmas.Bool.{eqb-true}
use Rattle.std.proofs.lemmas.Bool.Decides.{nat_tests}
use Rattle.fmp_base.specs.declared.bodies.Held.{Held}
use Rattle.fmp_base.specs.declared.bodies.Held.TheVariants.{Goes, Awaits}
use Rattle.fmp_base.specs.declared.calls.Answer.{Answer}
use Rattle.fmp_base.specs.declared.calls.Answer.TheVariants.{Replies, Waits, Ends, Spins}
use Rattle.fmp_base.specs.declared.calls.Call.{Call}
use Rattle.fmp_base.specs.declared.events.Effect.TheVariants as effect
use Rattle.fmp_base.specs.declared.events.Event.{Event}
use Rattle.fmp_base.specs.declared.events.Event.TheVariants.{Run, Tick, Int}
use Rattle.fmp_base.specs.declared.events.Line.{Line}
use Rattle.fmp_base.specs.declared.events.Line.TheVariants as line
use Rattle.fmp_base.specs.declared.states.Caller.{Caller}
use Rattle.fmp_base.specs.declared.states.Caller.TheVariants as caller
use Rattle.fmp_base.specs.declared.states.Handler.{Handler}
use Rattle.fmp_base.specs.declared.states.Handler.TheVariants as handler
use Rattle.fmp_base.specs.declared.states.Processor.{Processor}
use Rattle.fmp_base.specs.declared.systems.InterruptConfig.{InterruptConfig}
use Rattle.fmp_base.specs.Calls.{called}
use Rattle.fmp_base.specs.Meanings.{Meaning, Contexts, World, caller_body, context_of, with_context}
use Rattle.fmp_base.specs.Queues.{top}
use Rattle.fmp_base.specs.ProcessorCalls.{is_cpu_locked}
use Rattle.fmp_base.specs.Settles.{all_settled, begun, dispatched, dispatch_lines, handler_to_begin, is_dispatch_held}
use Rattle.fmp_base.specs.Settles.{is_same_task, pending_handler, runs_handler, settled, settled_on, settled_with}
use Rattle.fmp_base.specs.States.{KernelState, Progress, idle, places_from, processor_at, task_at, unchanged}
use Rattle.fmp_base.specs.Steps.{Reaction, Done, Nothing, Did, Kept, actor_by, actor_ended, actor_of, call_made}
use Rattle.fmp_base.specs.Steps.{contexts_ended, effect_of, ended_with, answered, finished, interrupted, interrupted_by}
use Rattle.fmp_base.specs.Steps.{run_by, run_in, step, stretched}
use Rattle.fmp_base.specs.Stretches.{Ending}
use Rattle.fmp_base.specs.Stretches as ends
use Rattle.fmp_base.specs.Systems.{SystemTables, interrupt_config}
use Rattle.fmp_base.specs.Ticks.{is_pending, ticked, with_interrupt_pending}
use Rattle.fmp_worlds.specs.Settled.{IsSettled, IsSettledWorld}
use Rattle.fmp_worlds.specs.Stamps.{applied_by, applied_in, is_same_actor, one_if, run_place}
use Rattle.fmp_worlds.proofs.Assigned.{Holds, set_other, set_same}
use Rattle.fmp_worlds.proofs.Bools.{or-false}
use Rattle.fmp_worlds.proofs.CalledLemmas.{keeps-task_call, keeps-handler_call}
use Rattle.fmp_worlds.proofs.Changes.{acting, actors-ended_itself, actors-processor, lines-ended_itself}
use Rattle.fmp_worlds.proofs.Lines.{IsOwn}
use Rattle.fmp_worlds.proofs.StepLemmas.{IsActor, acts, holds}
use Rattle.fmp_worlds.proofs.TickLemmas.{actors-ticked, lines-ticked}
use Rattle.fmp_kernel.specs.KernelViews.{done_or}
use Rattle.fmp_kernel.specs.Stamps.{AreCounted, behind_own, given_by, stamped, stamped_by, times_given}
use Rattle.fmp_kernel.proofs.FrontLemmas.{RanOn, front-names, ran-step, ran-stretched}
use Rattle.fmp_kernel.proofs.SettleLemmas.{same_task}
use Rattle.fmp_kernel.proofs.StampLemmas.{changes, own_actor, stamped_is}

same_acting : (q : ℕ) (s u : KernelState) → acting (processor_at u q) ≡ acting (processor_at s q)
    → actor_of (processor_at u q) ≡ actor_of (processor_at s q)
same_acting q s u h = ap (λ (x : Option Handler × Option ℕ). actor_by x.0 x.1) h

pub changes-none : (q : ℕ) (s u : KernelState) → acting (processor_at u q) ≡ acting (processor_at s q) → changes q s u
    ≡ zero
changes-none q s u h =
    ap (λ (o : Option Caller). one_if (not (is_same_actor (actor_of (processor_at s q)) o))) (same_acting q s u h)
    ∙ ap (λ (b : Bool). one_if (not b)) (own_actor (actor_of (processor_at s q)))

times-append : (q : ℕ) (xs ys : List Line) → times_given q (xs ++ ys) ≡ times_given q xs + times_given q ys
times-append q [] ys = omega arith
times-append q (x ∷ xs) ys = let rest = times-append q xs ys in omega (arith, rest)

-- the first line gives no processor another actor
abbrev pub GivesNone : List Line → Type 0
GivesNone [] = ⊥
GivesNone (l ∷ ls) = given_by l ≡ None

none-append : (xs ys : List Line) → GivesNone xs → GivesNone (xs ++ ys)
none-append [] ys h = absurd h
none-append (x ∷ xs) ys h = h

behind-none : (q : ℕ) (ls : List Line) → GivesNone ls → times_given q (behind_own ls) ≡ times_given q ls
behind-none q [] h = absurd h
behind-none q (l ∷ ls) h =
    let none : one_if (is_same_task (given_by l) (Some q)) ≡ zero = ap (λ (o : Option ℕ). one_if
    (is_same_task o (Some q))) h in
    omega (arith, none)

-- h is g after another processor than q has settled
record Passes (q : ℕ) (g h : Progress) : Type 0 where
  first : GivesNone g.lines → GivesNone h.lines
  times : times_given q h.lines ≡ times_given q g.lines
  same : acting (processor_at h.state q) ≡ acting (processor_at g.state q)
  many : length h.state.processors ≡ length g.state.processors

-- h is g after q has settled, among others
record Tells (q : ℕ) (g h : Progress) : Type 0 where
  first : GivesNone g.lines → GivesNone h.lines
  times : times_given q h.lines ≡ times_given q g.lines + changes q g.state h.state
  many : length h.state.processors ≡ length g.state.processors

passes-same : (q : ℕ) (g : Progress) → Passes q g g
passes-same q g = record { first = λ h. h; times = refl; same = refl; many = refl }

passes-on : (q : ℕ) (g h i : Progress) → Passes q g h → Passes q h i → Passes q g i
passes-on q g h i a b =
    record {
      first = λ x. b.first (a.first x);
      times = b.times ∙ a.times;
      same = b.same ∙ a.same;
      many = b.many ∙ a.many;
    }

tells-same : (q : ℕ) (g h : Progress) → Passes q g h → Tells q g h
tells-same q g h a =
    let none = changes-none q g.state h.state a.same in
    let times = a.times in
    record { first = a.first; times = omega (arith, none, times); many = a.many }

passes-then : (q : ℕ) (g h i : Progress) → Passes q g h → Tells q h i → Tells q g i
passes-then q g h i a b =
    let was : changes q h.state i.state ≡ changes q g.state i.state =
    ap (λ (o : Option Caller). one_if (not (is_same_actor o (actor_of (processor_at i.state q)))))
    (same_acting q g.state h.state a.same) in
    let first = a.times in
    let rest = b.times in
    record { first = λ x. b.first (a.first x); times = omega (arith, first, rest, was); many = b.many ∙ a.many }

then-passes : (q : ℕ) (g h i : Progress) → Tells q g h → Passes q h i → Tells q g i
then-passes q g h i a b =
    let now : changes q g.state i.state ≡ changes q g.state h.state =
    ap (λ (o : Option Caller). one_if (not (is_same_actor (actor_of (processor_at g.state q)) o)))
    (same_acting q h.state i.state b.same) in
    let first = a.times in
    let rest = b.times in
    record { first = λ x. b.first (a.first x); times = omega (arith, first, rest, now); many = b.many ∙ a.many }

apart-false : (p q : ℕ) → (p ≡ q → ⊥) → nat_eq p q ≡ false
apart-false p q n = by_test (nat_eq p q) refl where
  by_test : (b : Bool) → nat_eq p q ≡ b → nat_eq p q ≡ false
  by_test true e = absurd (n (eqb-true p q e))
  by_test false e = e

-- a line on p is none on q
times-apart : (p q : ℕ) (ls : List Line) (l : Line) → given_by l ≡ Some p → (p ≡ q → ⊥) → times_given q (ls ++ l ∷ [])
    ≡ times_given q ls
times-apart p q ls l e n =
    let all = times-append q ls (l ∷ []) in
    let off : one_if (is_same_task (given_by l) (Some q)) ≡ zero =
    ap (λ (o : Option ℕ). one_if (is_same_task o (Some q))) e ∙ ap one_if (apart-false p q n) in
    omega (arith, all, off)

times-here : (q : ℕ) (ls : List Line) (l : Line) → given_by l ≡ Some q → times_given q (ls ++ l ∷ [])
    ≡ times_given q ls + 1
times-here q ls l e =
    let all = times-append q ls (l ∷ []) in
    let own : nat_eq q q ≡ true = grind (arith, nat_tests) in
    let on : one_if (is_same_task (given_by l) (Some q)) ≡ 1 =
    ap (λ (o : Option ℕ). one_if (is_same_task o (Some q))) e ∙ ap one_if own in
    omega (arith, all, on)

passes-begun : (q : ℕ) (g : Progress) (p : ℕ) (h : Handler) → (p ≡ q → ⊥)
    → Passes q g (begun g p (processor_at g.state p) h)
passes-begun q g p (handler.Interrupt i) n =
    record {
      first = none-append g.lines _;
      times = times-apart p q g.lines (line.Begins p (handler.Interrupt i)) refl n;
      same = ap acting (set_other idle g.state.processors p _ q n);
      many = length-set _ _ _;
    }
passes-begun q g p (handler.Cyclic c) n =
    record {
      first = none-append g.lines _;
      times = times-apart p q g.lines (line.Begins p (handler.Cyclic c)) refl n;
      same = ap acting (set_other idle g.state.processors p _ q n);
      many = length-set _ _ _;
    }

passes-dispatched : (q : ℕ) (g : Progress) (p : ℕ) (t : Option ℕ) → (p ≡ q → ⊥)
    → Passes q g (dispatched g p (processor_at g.state p) t)
passes-dispatched q g p t n =
    record {
      first = none-append g.lines _;
      times = by_test (is_same_task (processor_at g.state p).run t);
      same = ap acting (set_other idle g.state.processors p _ q n);
      many = length-set _ _ _;
    } where
      by_test : (b : Bool) → times_given q (g.lines ++ dispatch_lines b p t) ≡ times_given q g.lines
      by_test true = let all = times-append q g.lines [] in omega (arith, all)
      by_test false = times-apart p q g.lines (line.Runs p t) refl n

passes-held : (held : Bool) (q : ℕ) (g : Progress) (p : ℕ) → (p ≡ q → ⊥)
    → Passes q g (if held then g else dispatched g p (processor_at g.state p) (top g.state p))
passes-held true q g p n = passes-same q g
passes-held false q g p n = passes-dispatched q g p (top g.state p) n

passes-with : (o : Option Handler) (q : ℕ) (g : Progress) (p : ℕ) → (p ≡ q → ⊥)
    → Passes q g (settled_with o g p (processor_at g.state p))
passes-with None q g p n = passes-held (is_dispatch_held (processor_at g.state p)) q g p n
passes-with (Some h) q g p n = passes-begun q g p h n

passes-all : (sys : SystemTables) (q : ℕ) (g : Progress) (k n : ℕ) → ((i : ℕ) → k ≤ i → i < k + n → i ≡ q → ⊥)
    → Passes q g (all_settled sys g (places_from k n))
passes-all sys q g k zero apart = passes-same q g
passes-all sys q g k (suc n) apart =
    let next = settled_on sys g k (processor_at g.state k) in
    passes-on q g next (all_settled sys next (places_from (k + 1) n))
    (passes-with (handler_to_begin sys g.state k (processor_at g.state k)) q g k (apart k (omega arith) (omega arith)))
    (passes-all sys q next (k + 1) n (λ i a b. apart i (omega (arith, a)) (omega (arith, b))))

-- a handler begins where none runs
begins_other : (run : Option ℕ) (h : Handler) → is_same_actor (actor_by None run) (Some (caller.Handler h)) ≡ false
begins_other None h = refl
begins_other (Some t) h = refl

runs_other : (old new : Option ℕ) → is_same_task old new ≡ false
    → is_same_actor (actor_by None old) (actor_by None new) ≡ false
runs_other None None e = absurd (cc e)
runs_other None (Some b) e = refl
runs_other (Some a) None e = refl
runs_other (Some a) (Some b) e = e

-- q has this processor now, and another actor
changes-once : (q : ℕ) (s u : KernelState) (cpu : Processor) → (processor_at u q) ≡ cpu
    → is_same_actor (actor_of (processor_at s q)) (actor_of cpu) ≡ false → changes q s u ≡ 1
changes-once q s u cpu e h =
    ap (λ (c : Processor). one_if (not (is_same_actor (actor_of (processor_at s q)) (actor_of c)))) e
    ∙ ap (λ (b : Bool). one_if (not b)) h

unhandled : (o : Option Handler) → runs_handler o ≡ false → o ≡ None
unhandled None e = refl
unhandled (Some h) e = absurd (cc e)

begun-tells : (q : ℕ) (g : Progress) (h : Handler) → q < length g.state.processors → (processor_at g.state q).handler
    ≡ None
    → Tells q g (begun g q (processor_at g.state q) h)
begun-tells q g h l e = by_kind h where
  cpu : Processor
  cpu = processor_at g.state q

  other : (h : Handler) → is_same_actor (actor_of cpu) (Some (caller.Handler h)) ≡ false
  other h = ap (λ (o : Option Handler). is_same_actor (actor_by o cpu.run) (Some (caller.Handler h))) e
      ∙ begins_other cpu.run h

  by_kind : (h : Handler) → Tells q g (begun g q cpu h)
  by_kind (handler.Interrupt i) =
      let u = (begun g q cpu (handler.Interrupt i)).state in
      let times = times-here q g.lines (line.Begins q (handler.Interrupt i)) refl in
      let once : changes q g.state u ≡ 1 =
      changes-once q g.state u _ (set_same idle g.state.processors q _ l) (other (handler.Interrupt i)) in
      record { first = none-append g.lines _; times = omega (arith, times, once); many = length-set _ _ _ }
  by_kind (handler.Cyclic c) =
      let u = (begun g q cpu (handler.Cyclic c)).state in
      let times = times-here q g.lines (line.Begins q (handler.Cyclic c)) refl in
      let once : changes q g.state u ≡ 1 =
      changes-once q g.state u _ (set_same idle g.state.processors q _ l) (other (handler.Cyclic c)) in
      record { first = none-append g.lines _; times = omega (arith, times, once); many = length-set _ _ _ }

dispatched-tells : (q : ℕ) (g : Progress) (t : Option ℕ) → q < length g.state.processors
    → (processor_at g.state q).handler ≡ None
    → Tells q g (dispatched g q (processor_at g.state q) t)
dispatched-tells q g t l e =
    record { first = none-append g.lines _; times = by_test (is_same_task cpu.run t) refl; many = length-set _ _ _ }
  where
    cpu : Processor
    cpu = processor_at g.state q

    u : KernelState
    u = (dispatched g q cpu t).state

    by_test : (b : Bool) → is_same_task cpu.run t ≡ b
        → times_given q (g.lines ++ dispatch_lines b q t) ≡ times_given q g.lines + changes q g.state u
    by_test true h =
        let now : acting (record cpu { run = t }) ≡ acting cpu =
        ap (λ (o : Option ℕ). acting (record cpu { run = o })) (sym (same_task cpu.run t h)) in
        let none = changes-none q g.state u (actors-processor g.state q (record cpu { run = t }) now q) in
        let all = times-append q g.lines [] in
        omega (arith, none, all)
    by_test false h =
        let other : is_same_actor (actor_of cpu) (actor_of (record cpu { run = t })) ≡ false =
        ap (λ (o : Option Handler). is_same_actor (actor_by o cpu.run) (actor_by o t)) e ∙ runs_other cpu.run t h in
        let once : changes q g.state u ≡ 1 =
        changes-once q g.state u (record cpu { run = t }) (set_same idle g.state.processors q _ l) other in
        let times = times-here q g.lines (line.Runs q t) refl in
        omega (arith, once, times)

held-tells : (held : Bool) (q : ℕ) (g : Progress) → is_dispatch_held (processor_at g.state q) ≡ held
    → q < length g.state.processors
    → Tells q g (if held then g else dispatched g q (processor_at g.state q) (top g.state q))
held-tells true q g e l = tells-same q g g (passes-same q g)
held-tells false q g e l =
    let cpu = processor_at g.state q in
    dispatched-tells q g (top g.state q) l
    (unhandled cpu.handler (or-false (runs_handler cpu.handler) (is_cpu_locked cpu)
    (or-false (runs_handler cpu.handler || is_cpu_locked cpu) cpu.dispatch_disabled e).0).0)

-- a handler that may begin finds none
free_to_begin : (b : Bool) (o : Option Handler) (h : Handler) → (if b then None else o) ≡ Some h → b ≡ false
free_to_begin true o h e = absurd (cc e)
free_to_begin false o h e = refl

with-tells : (sys : SystemTables) (q : ℕ) (g : Progress) (o : Option Handler)
    → handler_to_begin sys g.state q (processor_at g.state q) ≡ o
    → q < length g.state.processors → Tells q g (settled_with o g q (processor_at g.state q))
with-tells sys q g None e l = held-tells (is_dispatch_held (processor_at g.state q)) q g refl l
with-tells sys q g (Some h) e l =
    let cpu = processor_at g.state q in
    begun-tells q g h l
    (unhandled cpu.handler (or-false (runs_handler cpu.handler) (is_cpu_locked cpu)
    (free_to_begin (runs_handler cpu.handler || is_cpu_locked cpu) (pending_handler sys g.state q) h e)).0)

all-tells : (sys : SystemTables) (q : ℕ) (g : Progress) (k n : ℕ) → k ≤ q → q < k + n → q < length g.state.processors
    → Tells q g (all_settled sys g (places_from k n))
all-tells sys q g k zero a b l = absurd (omega (arith, a, b))
all-tells sys q g k (suc n) a b l =
    by_test (nat_eq k q) refl (λ x y. all-tells sys q (settled_on sys g k (processor_at g.state k)) (k + 1) n x
    (omega (arith, b)) y) where
      next : Progress
      next = settled_on sys g k (processor_at g.state k)

      by_test : (c : Bool) → nat_eq k q ≡ c
          → (k + 1 ≤ q → q < length next.state.processors → Tells q next (all_settled sys next (places_from (k + 1) n)))
          → Tells q g (all_settled sys next (places_from (k + 1) n))
      by_test true e rest =
          let same : q ≡ k = sym (eqb-true k q e) in
          let here : Tells q g next =
          subst (λ (v : ℕ). Tells q g (settled_on sys g v (processor_at g.state v))) same
          (with-tells sys q g (handler_to_begin sys g.state q (processor_at g.state q)) refl l) in
          then-passes q g next (all_settled sys next (places_from (k + 1) n)) here
          (passes-all sys q next (k + 1) n (λ i x y z. absurd (omega (arith, same, x, z))))
      by_test false e rest =
          let n_apart : k ≡ q → ⊥ = λ (z : k ≡ q). absurd (grind (arith, nat_tests, z, e)) in
          let first : Passes q g next = passes-with (handler_to_begin sys g.state k (processor_at g.state k)) q g k
          n_apart in
          let more : k + 1 ≤ q = grind (arith, nat_tests, a, e) in
          let many = first.many in
          let inside : q < length next.state.processors = omega (arith, l, many) in
          passes-then q g next (all_settled sys next (places_from (k + 1) n)) first (rest more inside)

settled-tells : (sys : SystemTables) (q : ℕ) (g : Progress) → Tells q g (settled sys g)
settled-tells sys q g = by_test (nat_lt q (length g.state.processors)) refl where
  by_test : (b : Bool) → nat_lt q (length g.state.processors) ≡ b → Tells q g (settled sys g)
  by_test true e =
      let l : q < length g.state.processors = grind (arith, nat_tests, e) in
      all-tells sys q g 0 (length g.state.processors) (omega arith) (omega (arith, l)) l
  by_test false e =
      let l : length g.state.processors ≤ q = grind (arith, nat_tests, e) in
      tells-same q g (settled sys g) (passes-all sys q g 0 (length g.state.processors)
      (λ i x y z. absurd (omega (arith, l, y, z))))

-- a call, an end and the clock give no processor another actor by a line of theirs
own-gives : (s : KernelState) (own q : ℕ) (l : Line) → IsOwn s own l → one_if (is_same_task (given_by l) (Some q))
    ≡ zero
own-gives s own q (line.Starts p t) h = refl
own-gives s own q (line.Begins p i) h = absurd h
own-gives s own q (line.Runs p t) h = absurd h
own-gives s own q (line.Call p who made reply) h = refl
own-gives s own q (line.Gets p t reply) h = refl
own-gives s own q (line.Tick now) h = refl
own-gives s own q (line.Int i) h = refl
own-gives s own q (line.End p who) h = refl
own-gives s own q (line.Fault p who fault) h = refl
own-gives s own q (line.Pends p i) h = refl

gives-none : (s : KernelState) (own q : ℕ) (ls : List Line) → AllByRecursion (IsOwn s own) ls → times_given q ls ≡ zero
gives-none s own q [] h = refl
gives-none s own q (l ∷ ls) h =
    let first = own-gives s own q l h.0 in let rest = gives-none s own q ls h.1 in omega (arith, first, rest)

-- the lines after a done event's own tell how often q was given another actor
abbrev pub Counts : {C : Type 0} → ℕ → KernelState → Reaction C → Type 0
Counts q s Nothing = Unit {0}
Counts q s (Did d) = times_given q (behind_own d.lines) ≡ changes q s d.world.state
Counts q s (Kept p w) = Unit {0}

module _ {C : Type 0} (sys : SystemTables) (M : Meaning C) (q : ℕ) where
  counts-finished : (cs : Contexts (Held C)) (own : Line) (s : KernelState) (g : Progress) → given_by own ≡ None
      → times_given q g.lines ≡ zero
      → acting (processor_at g.state q) ≡ acting (processor_at s q) → Counts q s (Did (finished sys M cs (own ∷ []) g))
  counts-finished cs own s g e none h =
      let start : Progress = record g { lines = own ∷ g.lines } in
      let all = settled-tells sys q start in
      let ls = (settled sys start).lines in
      let now = behind-none q ls (all.first e) in
      let times = all.times in
      let first : one_if (is_same_task (given_by own) (Some q))
      ≡ zero = ap (λ (o : Option ℕ). one_if (is_same_task o (Some q))) e in
      let was : changes q g.state (settled sys start).state ≡ changes q s (settled sys start).state =
      ap (λ (o : Option Caller). one_if (not (is_same_actor o (actor_of (processor_at (settled sys start).state q)))))
      (same_acting q s g.state h) in
      omega (arith, now, times, first, none, was)

  counts-answered : (a : Answer) (cs : Contexts (Held C)) (p : ℕ) (who : Caller) (c : Call) (s : KernelState)
      (g : Progress)
      → times_given q g.lines ≡ zero → acting (processor_at g.state q) ≡ acting (processor_at s q)
      → Counts q s (answered a sys M cs p who c g)
  counts-answered (Replies reply) cs p who c s g e h = counts-finished cs (line.Call p who c (Some reply)) s g refl e h
  counts-answered Waits cs p who c s g e h = counts-finished cs (line.Call p who c None) s g refl e h
  counts-answered Ends cs p who c s g e h = counts-finished cs (line.End p who) s g refl e h
  counts-answered Spins cs p who c s g e h = tt

  called-counts : (cs : Contexts (Held C)) (s : KernelState) (p : ℕ) (who : Caller) (c : Call) → (p ≡ q → ⊥)
      → IsActor sys s p who → Holds s
      → Counts q s (call_made sys M cs p who c (called sys s p who c))
  called-counts cs s p (caller.Task t) c n i a =
      let o = called sys s p (caller.Task t) c in
      let k = keeps-task_call sys s p t c in
      counts-answered o.answer cs p (caller.Task t) c s o.progress (gives-none s p q o.progress.lines (k.lines i a))
      (k.actors q n)
  called-counts cs s p (caller.Handler h) c n i a =
      let o = called sys s p (caller.Handler h) c in
      let k = keeps-handler_call sys s p h c in
      counts-answered o.answer cs p (caller.Handler h) c s o.progress (gives-none s p q o.progress.lines
      (k.lines tt a)) (k.actors q n)

  ended-counts : (w : World C) (p : ℕ) (who : Caller) (own : Line) → given_by own ≡ None → (p ≡ q → ⊥)
      → IsActor sys w.state p who
      → Holds w.state → Counts q w.state (Did (ended_with sys M w p who own))
  ended-counts w p (caller.Task t) own e n i a =
      let g = actor_ended sys w.state p (caller.Task t) in
      let x = task_at w.state.tasks t in
      counts-finished (contexts_ended sys M w.contexts p (caller.Task t)) own w.state g e
      (gives-none w.state p q g.lines (lines-ended_itself sys w.state p t x i.runs a))
      (actors-ended_itself sys w.state p t x q n)
  ended-counts w p (caller.Handler h) own e n i a =
      counts-finished (contexts_ended sys M w.contexts p (caller.Handler h)) own w.state
      (actor_ended sys w.state p (caller.Handler h)) e refl
      (ap acting (set_other idle w.state.processors p _ q n))

  stretched-counts : (w : World C) (p : ℕ) (who : Caller) (x : Ending C) → (p ≡ q → ⊥) → IsActor sys w.state p who
      → Holds w.state
      → Counts q w.state (stretched sys M w p who x)
  stretched-counts w p who (ends.Call c made) n i a =
      called-counts (with_context w.contexts p who (Some (Awaits c))) w.state p who made n i a
  stretched-counts w p who (ends.End c) n i a = ended-counts w p who (line.End p who) refl n i a
  stretched-counts w p who (ends.Fault c fault) n i a = ended-counts w p who (line.Fault p who fault) refl n i a
  stretched-counts w p who (ends.Over None) n i a = tt
  stretched-counts w p who (ends.Over (Some c)) n i a = tt

  run_in-counts : (bound : ℕ) (w : World C) (p : ℕ) (who : Caller) (o : Option (Held C)) → (p ≡ q → ⊥)
      → IsActor sys w.state p who
      → Holds w.state → Counts q w.state (run_in sys M bound w p who o)
  run_in-counts bound w p who None n i a = tt
  run_in-counts bound w p who (Some (Awaits c)) n i a = tt
  run_in-counts bound w p who (Some (Goes c)) n i a = stretched-counts w p who
      (M.stretch (caller_body sys w.contexts p who) bound c) n i a

  run_by-counts : (bound : ℕ) (w : World C) (p : ℕ) (i : Option Handler) (t : Option ℕ) → (p ≡ q → ⊥)
      → IsSettled sys w.state
      → (processor_at w.state p).handler ≡ i → (processor_at w.state p).run ≡ t
      → Counts q w.state (run_by sys M bound w p (actor_by i t))
  run_by-counts bound w p (Some h) t n s e r =
      run_in-counts bound w p (caller.Handler h) (context_of w.contexts p (caller.Handler h)) n tt (holds sys w.state s)
  run_by-counts bound w p None (Some t) n s e r =
      run_in-counts bound w p (caller.Task t) (context_of w.contexts p (caller.Task t)) n (acts sys w.state p t s e r)
      (holds sys w.state s)
  run_by-counts bound w p None None n s e r = tt

  applied_in-counts : (w : World C) (p : ℕ) (who : Caller) (o : Option (Held C)) (x : Ending C) → (p ≡ q → ⊥)
      → IsActor sys w.state p who
      → Holds w.state → Counts q w.state (applied_in sys M w p who o x)
  applied_in-counts w p who None x n i a = tt
  applied_in-counts w p who (Some (Awaits c)) x n i a = tt
  applied_in-counts w p who (Some (Goes c)) x n i a = stretched-counts w p who x n i a

  applied_by-counts : (w : World C) (p : ℕ) (i : Option Handler) (t : Option ℕ) (x : Ending C) → (p ≡ q → ⊥)
      → IsSettled sys w.state
      → (processor_at w.state p).handler ≡ i → (processor_at w.state p).run ≡ t
      → Counts q w.state (applied_by sys M w p (actor_by i t) x)
  applied_by-counts w p (Some h) t x n s e r =
      applied_in-counts w p (caller.Handler h) (context_of w.contexts p (caller.Handler h)) x n tt (holds sys w.state s)
  applied_by-counts w p None (Some t) x n s e r =
      applied_in-counts w p (caller.Task t) (context_of w.contexts p (caller.Task t)) x n (acts sys w.state p t s e r)
      (holds sys w.state s)
  applied_by-counts w p None None x n s e r = tt

  interrupted_by-counts : (b : Bool) (w : World C) (i : ℕ) → Counts q w.state (interrupted_by b sys M w i)
  interrupted_by-counts true w i = tt
  interrupted_by-counts false w i =
      counts-finished w.contexts (line.Int i) w.state (unchanged (with_interrupt_pending w.state i)) refl refl refl

  interrupted-counts : (o : Option InterruptConfig) (w : World C) (i : ℕ) → Counts q w.state (interrupted o sys M w i)
  interrupted-counts None w i = tt
  interrupted-counts (Some config) w i = interrupted_by-counts (is_pending w.state.pending_interrupts i) w i

  ran-apart : (p : ℕ) → is_same_task (Some p) (Some q) ≡ false → p ≡ q → ⊥
  ran-apart p e h = let t : nat_eq p q ≡ false = e in grind (arith, nat_tests, t, h)

  -- an event that does not run q
  step-counts : (bound : ℕ) (w : World C) (e : Event) → IsSettled sys w.state → is_same_task (run_place e) (Some q)
      ≡ false
      → Counts q w.state (step sys M bound w e)
  step-counts bound w (Run zero) s h = tt
  step-counts bound w (Run (suc p)) s h =
      run_by-counts bound w p (processor_at w.state p).handler (processor_at w.state p).run (ran-apart p h) s refl refl
  step-counts bound w Tick s h =
      counts-finished w.contexts (line.Tick (w.state.clock + 1)) w.state (ticked sys w.state) refl
      (gives-none w.state 0 q (ticked sys w.state).lines (lines-ticked sys w.state 0)) (actors-ticked sys w.state q)
  step-counts bound w (Int zero) s h = tt
  step-counts bound w (Int (suc i)) s h = interrupted-counts (interrupt_config sys i) w i

ran-applied_in : {C : Type 0} (sys : SystemTables) (M : Meaning C) (w : World C) (p : ℕ) (who : Caller)
    (o : Option (Held C)) (x : Ending C)
    → RanOn (Some p) (applied_in sys M w p who o x)
ran-applied_in sys M w p who None x = tt
ran-applied_in sys M w p who (Some (Awaits c)) x = tt
ran-applied_in sys M w p who (Some (Goes c)) x = ran-stretched sys M w p who x

pub ran-applied_by : {C : Type 0} (sys : SystemTables) (M : Meaning C) (w : World C) (p : ℕ) (o : Option Caller)
    (x : Ending C)
    → RanOn (Some p) (applied_by sys M w p o x)
ran-applied_by sys M w p None x = tt
ran-applied_by sys M w p (Some who) x = ran-applied_in sys M w p who (context_of w.contexts p who) x

-- the stamps that were counted by the lines of an event that is done are those after it
done-stamps : {C : Type 0} (old new : Done C) (r : Reaction C) (ran : Option ℕ) (was now : List ℕ) → RanOn ran r
    → ((q : ℕ) → is_same_task ran (Some q) ≡ false → Counts q old.world.state r) → effect.Done ≡ effect_of r → new
    ≡ done_or old r
    → AreCounted was now ran (behind_own new.lines) → now ≡ stamped new.lines old.world.state new.world.state was
done-stamps old new Nothing ran was now o l e h c = absurd (cc e)
done-stamps old new (Kept p w) ran was now o l e h c = absurd (cc e)
done-stamps {C} old new (Did d) ran was now o l e h c =
    stamped_is was now ran old.world.state d.world.state (behind_own d.lines) l
    (subst (λ (x : Done C). AreCounted was now ran (behind_own x.lines)) h c)
    ∙ ap (λ (v : Option ℕ). stamped_by v old.world.state d.world.state was) (sym (front-names ran d.lines o))
    ∙ sym (ap (λ (x : Done C). stamped x.lines old.world.state x.world.state was) h)

pub step-stamps : {C : Type 0} (sys : SystemTables) (M : Meaning C) (n : ℕ) (old new : Done C) (e : Event)
    (was now : List ℕ)
    → IsSettledWorld sys old.world → effect.Done ≡ effect_of (step sys M n old.world e) → new
    ≡ done_or old (step sys M n old.world e)
    → AreCounted was now (run_place e) (behind_own new.lines) → now
    ≡ stamped new.lines old.world.state new.world.state was
step-stamps sys M n old new e was now s d h c =
    done-stamps old new (step sys M n old.world e) (run_place e) was now (ran-step sys M n old.world e)
    (λ q f. step-counts sys M q n old.world e s.state f) d h c

pub applied-stamps : {C : Type 0} (sys : SystemTables) (M : Meaning C) (old new : Done C) (p : ℕ) (x : Ending C)
    (was now : List ℕ)
    → IsSettledWorld sys old.world → effect.Done ≡ effect_of (applied_by sys M old.world p
    (actor_of (processor_at old.world.state p)) x)
    → new ≡ done_or old (applied_by sys M old.world p (actor_of (processor_at old.world.state p)) x)
    → AreCounted was now (Some p) (behind_own new.lines) → now ≡ stamped new.lines old.world.state new.world.state was
applied-stamps sys M old new p x was now s d h c =
    let who = actor_of (processor_at old.world.state p) in
    done-stamps old new (applied_by sys M old.world p who x) (Some p) was now (ran-applied_by sys M old.world p who x)
    (λ q f. applied_by-counts sys M q old.world p (processor_at old.world.state p).handler
    (processor_at old.world.state p).run x
    (ran-apart sys M q p f) s.state refl refl) d h c
