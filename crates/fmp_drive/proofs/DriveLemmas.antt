-- One more event of a drive.
use Rattle.std.proofs.Common.{◌≡◌, refl, ℕ, ◌+◌, ◌<◌, ◌≤◌, List, [], ◌∷◌, ◌++◌, Option, Some, None, length, subst, sym}
use Rattle.std.proofs.Common.{arith, ap, ◌∙◌}
use Rattle.std.specs.List.{AllByRecursion}
use Rattle.std.proofs.lemmas.List.{length_push}
use Rattle.fmp_base.specs.declared.events.Effect.TheVariants as effect
use Rattle.fmp_base.specs.declared.events.Event.{Event}
use Rattle.fmp_base.specs.Meanings.{Meaning, World}
use Rattle.fmp_base.specs.Runs.{Trace, run, run_on, taken_events, taken_on}
use Rattle.fmp_base.specs.Steps.{Reaction, Nothing, Did, Kept, IsTaken, effect_of, step}
use Rattle.fmp_base.specs.Systems.{SystemTables, found}
use Rattle.fmp_kernel.specs.KernelViews.{KernelView, view_after}
use Rattle.std.proofs.Common.{inl, inr}
use Rattle.std.proofs.lemmas.Bool.{cases_order}
use Rattle.fmp_drive.specs.declared.trying.EventSource.{EventSource}
use Rattle.std.specs.Prelude.{IfSome, MatchOption}
use Rattle.fmp_trace.specs.StepsLaws.{IsStep}
use Rattle.fmp_drive.specs.declared.trying.EventSource.TheVariants as source
use Rattle.fmp_drive.specs.Driving.{AllStand, TakesFirst, HasTaken, HasRun, IsFirstFrom, IsStirred, event_of, reaction}
use Rattle.fmp_drive.specs.declared.plan.Wish.{Wish}
use Rattle.fmp_drive.specs.declared.plan.Wish.TheVariants.{Run, Tick, Interrupt}

-- P holds of all, and of one more
pub all_more : {A : Type 0} (P : A → Type 0) (xs : List A) (x : A) → AllByRecursion P xs → P x
    → AllByRecursion P (xs ++ x ∷ [])
all_more P [] x h p = (p, tt)
all_more P (y ∷ ys) x h p = (h.0, all_more P ys x h.1 p)

module _ {C : Type 0} (sys : SystemTables) (M : Meaning C) (n : ℕ) where
  -- what one event does to a world, as a run
  abbrev pub one_step : World C → Reaction C → Trace C
  one_step w r = run_on w r (λ v. record { world = v; events = [] })

  -- the world after one more event
  pub world_more : (w : World C) (es : List Event) (e : Event)
      → (run sys M n w (es ++ e ∷ [])).world ≡ (one_step (run sys M n w es).world
      (step sys M n (run sys M n w es).world e)).world
  world_more w [] e = refl
  world_more w (x ∷ es) e = by_reaction (step sys M n w x) (λ v. world_more v es e) where
    by_reaction : (r : Reaction C)
        → ((v : World C) → (run sys M n v (es ++ e ∷ [])).world
        ≡ (one_step (run sys M n v es).world (step sys M n (run sys M n v es).world e)).world)
        → (run_on w r (λ v. run sys M n v (es ++ e ∷ []))).world
        ≡ (one_step (run_on w r (λ v. run sys M n v es)).world (step sys M n
        (run_on w r (λ v. run sys M n v es)).world e)).world
    by_reaction Nothing h = h w
    by_reaction (Did d) h = h d.world
    by_reaction (Kept p u) h = h u

  -- how many are done of one more
  pub count_more : (w : World C) (es : List Event) (e : Event)
      → length (run sys M n w (es ++ e ∷ [])).events
      ≡ length (run sys M n w es).events + length (one_step (run sys M n w es).world
      (step sys M n (run sys M n w es).world e)).events
  count_more w [] e = omega arith
  count_more w (x ∷ es) e = by_reaction (step sys M n w x) (λ v. count_more v es e) where
    by_reaction : (r : Reaction C)
        → ((v : World C) → length (run sys M n v (es ++ e ∷ [])).events
        ≡ length (run sys M n v es).events + length (one_step (run sys M n v es).world
        (step sys M n (run sys M n v es).world e)).events)
        → length (run_on w r (λ v. run sys M n v (es ++ e ∷ []))).events
        ≡ length (run_on w r (λ v. run sys M n v es)).events
        + length (one_step (run_on w r (λ v. run sys M n v es)).world (step sys M n
        (run_on w r (λ v. run sys M n v es)).world e)).events
    by_reaction Nothing h = h w
    by_reaction (Did d) h = let more = h d.world in omega (arith, more)
    by_reaction (Kept p u) h = h u

  -- the events that are taken, with one more
  taken_more : (w : World C) (es : List Event) (e : Event)
      → taken_events sys M n w (es ++ e ∷ [])
      ≡ taken_events sys M n w es ++ taken_events sys M n (run sys M n w es).world (e ∷ [])
  taken_more w [] e = refl
  taken_more w (x ∷ es) e = by_reaction (step sys M n w x) (λ v. taken_more v es e) where
    by_reaction : (r : Reaction C)
        → ((v : World C) → taken_events sys M n v (es ++ e ∷ [])
        ≡ taken_events sys M n v es ++ taken_events sys M n (run sys M n v es).world (e ∷ []))
        → taken_on w x r (λ v. taken_events sys M n v (es ++ e ∷ []))
        ≡ taken_on w x r (λ v. taken_events sys M n v es)
        ++ taken_events sys M n (run_on w r (λ v. run sys M n v es)).world (e ∷ [])
    by_reaction Nothing h = h w
    by_reaction (Did d) h = ap (λ (xs : List Event). x ∷ xs) (h d.world)
    by_reaction (Kept p u) h = ap (λ (xs : List Event). x ∷ xs) (h u)

  one_taken : (w : World C) (e : Event) (r : Reaction C) → IsTaken r → taken_on w e r (λ v. []) ≡ e ∷ []
  one_taken w e Nothing t = absurd t
  one_taken w e (Did d) t = refl
  one_taken w e (Kept p u) t = refl

  pub all_taken : (w : World C) (es : List Event) (e : Event) (r : Reaction C) → taken_events sys M n w es ≡ es
      → step sys M n (run sys M n w es).world e ≡ r → IsTaken r → taken_events sys M n w (es ++ e ∷ []) ≡ es ++ e ∷ []
  all_taken w es e r all h t =
      let v : World C = (run sys M n w es).world in
      taken_more w es e ∙ ap (λ (xs : List Event). xs ++ taken_events sys M n v (e ∷ [])) all
      ∙ ap (λ (x : Reaction C). es ++ taken_on v e x (λ u. [])) h
      ∙ ap (λ (xs : List Event). es ++ xs) (one_taken v e r t)

module _ {B C : Type 0} (meaning : B → Meaning C) where
  nothing_here : (o : Reaction C) → effect.Nothing ≡ effect_of o → o ≡ Nothing
  nothing_here Nothing h = refl
  nothing_here (Did d) h = absurd (cc)
  nothing_here (Kept p w) h = absurd (cc)

  -- what an effect tells of what an event does
  taken_done : (o : Reaction C) → effect.Done ≡ effect_of o → IsTaken o
  taken_done Nothing h = absurd (cc)
  taken_done (Did d) h = tt
  taken_done (Kept p w) h = tt

  taken_kept : (o : Reaction C) → effect.Kept ≡ effect_of o → IsTaken o
  taken_kept Nothing h = absurd (cc)
  taken_kept (Did d) h = tt
  taken_kept (Kept p w) h = tt

  -- an event that did nothing leaves the kernel as it was
  pub same_kernel : (k k' : KernelView B C) (e : Event) → effect.Nothing ≡ effect_of (reaction meaning k e)
      → k' ≡ view_after k (reaction meaning k e) → k' ≡ k
  same_kernel k k' e h v = v ∙ ap (view_after k) (nothing_here (reaction meaning k e) h)

  pub stands : (k : KernelView B C) (e : Event) → effect.Nothing ≡ effect_of (reaction meaning k e)
      → reaction meaning k e ≡ Nothing
  stands k e h = nothing_here (reaction meaning k e) h

  -- one number more that does nothing
  stand_more : (k : KernelView B C) (source : EventSource) (first n : ℕ) → reaction meaning k (event_of source n)
      ≡ Nothing
      → AllStand meaning k source first n → AllStand meaning k source first (n + 1)
  stand_more k source first n h all = λ m low high. elim (cases_order m n) [
    | inl same ↦ subst (λ (i : ℕ). reaction meaning k (event_of source i) ≡ Nothing) (sym same) h
    | inr o ↦ elim o [ inl below ↦ all m low below | inr above ↦ absurd (omega (arith, high, above)) ]
  ]

  pub stand_step : (k0 k k' : KernelView B C) (source : EventSource) (first n : ℕ) (e : Event) → k ≡ k0 → e
      ≡ event_of source n
      → effect.Nothing ≡ effect_of (reaction meaning k e) → k' ≡ view_after k (reaction meaning k e)
      → AllStand meaning k0 source first n → (k' ≡ k0) × AllStand meaning k0 source first (n + 1)
  stand_step k0 k k' source first n e same is h v all =
      let there : reaction meaning k0 (event_of source n) ≡ Nothing =
      subst (λ (x : KernelView B C). reaction meaning x (event_of source n) ≡ Nothing) same
      (subst (λ (x : Event). reaction meaning k x ≡ Nothing) is (stands k e h)) in
      (same_kernel k k' e h v ∙ same, stand_more k0 source first n there all)

  taken_step : (k0 k k' : KernelView B C) (e : Event) → k ≡ k0 → IsTaken (reaction meaning k e)
      → k' ≡ view_after k (reaction meaning k e) → HasTaken meaning k0 k' e
  taken_step k0 k k' e same h v =
      subst (λ (x : KernelView B C). HasTaken meaning x k' e) same (record { taken = h; view = v })

  pub done_step : (k0 k k' : KernelView B C) (e : Event) → k ≡ k0 → effect.Done ≡ effect_of (reaction meaning k e)
      → k' ≡ view_after k (reaction meaning k e) → HasTaken meaning k0 k' e
  done_step k0 k k' e same h v = taken_step k0 k k' e same (taken_done (reaction meaning k e) h) v

  pub kept_step : (k0 k k' : KernelView B C) (e : Event) → k ≡ k0 → effect.Kept ≡ effect_of (reaction meaning k e)
      → k' ≡ view_after k (reaction meaning k e) → HasTaken meaning k0 k' e
  kept_step k0 k k' e same h v = taken_step k0 k k' e same (taken_kept (reaction meaning k e) h) v

  -- the end lies no farther than the number that is tried next
  pub stand_end : (k : KernelView B C) (source : EventSource) (first n end : ℕ) → end ≤ n
      → AllStand meaning k source first n
      → AllStand meaning k source first end
  stand_end k source first n end le all = λ m low high. all m low (omega (arith, le, high))

  processor_step : (k : KernelView B C) (processors first : ℕ) (e : Event) → 1 ≤ first
      → IsFirstFrom meaning k source.Processor first (processors + 1) e → IsStep processors e
  processor_step k processors first e low f =
      let above : first ≤ f.number = f.first_on in
      let below : f.number < processors + 1 = f.in_front in
      subst (λ (x : Event). IsStep processors x) (sym f.event) (omega (arith, low, above), omega (arith, below))

  interrupt_step : (k : KernelView B C) (processors first : ℕ) (e : Event) → 1 ≤ first
      → IsFirstFrom meaning k source.Interrupt first 33 e → IsStep processors e
  interrupt_step k processors first e low f =
      let above : first ≤ f.number = f.first_on in
      let below : f.number < 33 = f.in_front in
      subst (λ (x : Event). IsStep processors x) (sym f.event) (omega (arith, low, above), omega (arith, below))

  -- what was done from a number on is a step
  pub processor_steps : (r : Option Event) (k k' : KernelView B C) (processors first : ℕ) → 1 ≤ first
      → TakesFirst meaning k k' source.Processor first (processors + 1) r → IfSome r (IsStep processors)
  processor_steps None k k' processors first low m = tt
  processor_steps (Some e) k k' processors first low m = processor_step k processors first e low m.1

  pub interrupt_steps : (r : Option Event) (k k' : KernelView B C) (processors first : ℕ) → 1 ≤ first
      → TakesFirst meaning k k' source.Interrupt first 33 r → IfSome r (IsStep processors)
  interrupt_steps None k k' processors first low m = tt
  interrupt_steps (Some e) k k' processors first low m = interrupt_step k processors first e low m.1

  -- what was wished from outside is an event that was done, or nothing has changed
  pub stirred_done : (r : Option Event) (k k' : KernelView B C) (processors : ℕ) (wish : Wish)
      → IsStirred meaning k k' wish r → IfSome r (IsStep processors)
      → MatchOption r (k' ≡ k) (λ e. HasTaken meaning k k' e × IsStep processors e)
  stirred_done None k k' processors (Run first) is step = is.1
  stirred_done None k k' processors Tick is step = absurd (cc)
  stirred_done None k k' processors (Interrupt first) is step = is.1
  stirred_done (Some e) k k' processors (Run first) is step = absurd (cc)
  stirred_done (Some e) k k' processors Tick is step =
      (subst (λ (x : Event). HasTaken meaning k k' x) (sym (ap (found e) is.0)) is.1, step)
  stirred_done (Some e) k k' processors (Interrupt first) is step = (is.0, step)

  -- what is done where nothing had changed before is done from there
  pub done_after : (r : Option Event) (k0 k k' : KernelView B C) (processors : ℕ) (P : KernelView B C → Type 0) → k ≡ k0
      → MatchOption r (P k × (k' ≡ k)) (λ e. HasTaken meaning k k' e × IsStep processors e)
      → MatchOption r (P k0 × (k' ≡ k0)) (λ e. HasTaken meaning k0 k' e × IsStep processors e)
  done_after r k0 k k' processors P same m =
      subst (λ (x : KernelView B C). MatchOption r (P x × (k' ≡ x)) (λ e. HasTaken meaning x k' e
      × IsStep processors e)) same m

  -- the clock, where no processor could do anything
  pub due_after : (r : Option Event) (k0 k k' : KernelView B C) (processors : ℕ)
      → AllStand meaning k0 source.Processor 1 (processors + 1) × (k ≡ k0)
      → MatchOption r (k' ≡ k) (λ e. HasTaken meaning k k' e × IsStep processors e)
      → MatchOption r (AllStand meaning k0 source.Processor 1 (processors + 1) × (k' ≡ k0))
      (λ e. HasTaken meaning k0 k' e × IsStep processors e)
  due_after None k0 k k' processors a m = (a.0, m ∙ a.1)
  due_after (Some e) k0 k k' processors a m =
      (subst (λ (x : KernelView B C). HasTaken meaning x k' e) a.1 m.0, m.1)

  step_there : (k k1 : KernelView B C) (es : List Event) (e : Event) (o : Reaction C) (h : HasRun meaning k k1 es)
      → reaction meaning k1 e ≡ o
      → step k.system (meaning k.body) k.bound (run k.system (meaning k.body) k.bound k.world es).world e ≡ o
  step_there k k1 es e o h q =
      let one = subst (λ (s : SystemTables). step s (meaning k1.body) k1.bound k1.world e ≡ o) h.system q in
      let two = subst (λ (b : B). step k.system (meaning b) k1.bound k1.world e ≡ o) h.body one in
      let three = subst (λ (n : ℕ). step k.system (meaning k.body) n k1.world e ≡ o) h.bound two in
      subst (λ (w : World C). step k.system (meaning k.body) k.bound w e ≡ o) h.world three

  -- what a taken event leaves of a kernel
  record Left (k1 k2 : KernelView B C) (o : Reaction C) : Type 0 where
    world : k2.world ≡ (run_on k1.world o (λ v. record { world = v; events = [] })).world
    system : k2.system ≡ k1.system
    body : k2.body ≡ k1.body
    bound : k2.bound ≡ k1.bound
    done : k2.done ≡ k1.done + length (run_on k1.world o (λ v. record { world = v; events = [] })).events
    taken : k2.taken ≡ k1.taken + 1

  left_by : (k1 k2 : KernelView B C) (o : Reaction C) → IsTaken o → k2 ≡ view_after k1 o → Left k1 k2 o
  left_by k1 k2 Nothing t v = absurd t
  left_by k1 k2 (Did d) t v = record {
    world = ap (λ (x : KernelView B C). x.world) v;
    system = ap (λ (x : KernelView B C). x.system) v;
    body = ap (λ (x : KernelView B C). x.body) v;
    bound = ap (λ (x : KernelView B C). x.bound) v;
    done = let more : k2.done ≡ k1.done + 1 = ap (λ (x : KernelView B C). x.done) v in omega (arith, more);
    taken = ap (λ (x : KernelView B C). x.taken) v;
  }
  left_by k1 k2 (Kept p w) t v = record {
    world = ap (λ (x : KernelView B C). x.world) v;
    system = ap (λ (x : KernelView B C). x.system) v;
    body = ap (λ (x : KernelView B C). x.body) v;
    bound = ap (λ (x : KernelView B C). x.bound) v;
    done = let same : k2.done ≡ k1.done = ap (λ (x : KernelView B C). x.done) v in omega (arith, same);
    taken = ap (λ (x : KernelView B C). x.taken) v;
  }

  -- the events that a kernel has run, and one more that it has taken
  pub run_more : (k k1 k2 : KernelView B C) (es : List Event) (e : Event) → HasRun meaning k k1 es
      → HasTaken meaning k1 k2 e
      → HasRun meaning k k2 (es ++ e ∷ [])
  run_more k k1 k2 es e h s =
      let sys : SystemTables = k.system in
      let M : Meaning C = meaning k.body in
      let o : Reaction C = reaction meaning k1 e in
      let w : World C = (run sys M k.bound k.world es).world in
      let there : step sys M k.bound w e ≡ o = step_there k k1 es e o h refl in
      let left = left_by k1 k2 o s.taken s.view in
      let stop : World C → Trace C = λ v. record { world = v; events = [] } in
      let world_is : (run_on k1.world o stop).world ≡ (run_on w (step sys M k.bound w e) stop).world =
      ap (λ (u : World C). (run_on u o stop).world) h.world ∙ ap (λ (x : Reaction C). (run_on w x stop).world)
      (sym there) in
      let count_is : length (run_on k1.world o stop).events ≡ length (run_on w (step sys M k.bound w e) stop).events =
      ap (λ (u : World C). length (run_on u o stop).events) h.world
      ∙ ap (λ (x : Reaction C). length (run_on w x stop).events) (sym there) in
      let more = count_more sys M k.bound k.world es e in
      let before = h.done in
      let done_now = left.done in
      let taken_before = h.taken in
      let taken_now = left.taken in
      record {
        all_taken = all_taken sys M k.bound k.world es e o h.all_taken there s.taken;
        world = left.world ∙ world_is ∙ sym (world_more sys M k.bound k.world es e);
        system = left.system ∙ h.system;
        body = left.body ∙ h.body;
        bound = left.bound ∙ h.bound;
        done = omega (arith, done_now, before, count_is, more);
        taken = omega (arith, taken_now, taken_before, length_push es e);
      }

  -- before the first
  pub run_none : (k : KernelView B C) → HasRun meaning k k []
  run_none k =
      record {
        all_taken = refl;
        world = refl;
        system = refl;
        body = refl;
        bound = refl;
        done = omega arith;
        taken = omega arith;
      }
