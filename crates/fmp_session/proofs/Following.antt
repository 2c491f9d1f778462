-- One more event of a session, and events that are taken anew from setup on.
use Rattle.std.proofs.Common.{◌≡◌, ◌∙◌, ℕ, ◌+◌, ◌<◌, ◌≤◌, ◌^◌, List, [], ◌∷◌, ◌++◌, length, take, drop, drop-cons}
use Rattle.std.proofs.Common.{get_or, add-one, refl, ap, sym, subst, arith, append_assoc, append-nil}
use Rattle.std.proofs.lemmas.List.{take-append-drop}
use Rattle.fmp_base.specs.declared.events.Effect.TheVariants as effect
use Rattle.fmp_base.specs.declared.events.Event.{Event}
use Rattle.fmp_base.specs.Meanings.{Meaning, World}
use Rattle.fmp_base.specs.Runs.{taken_events, taken_on}
use Rattle.fmp_base.specs.Setups.{setup}
use Rattle.fmp_base.specs.Steps.{Done, Reaction, Nothing, Did, Kept, IsTaken, effect_of, step}
use Rattle.fmp_base.specs.Systems.{SystemTables}
use Rattle.fmp_image_bytes.specs.Images.{ImageTables}
use Rattle.fmp_instructions.specs.Instructions.{BodyTables}
use Rattle.fmp_instructions.specs.Machine.{code_meaning}
use Rattle.fmp_instructions.specs.declared.instructions.MachineContext.{MachineContext}
use Rattle.fmp_kernel.specs.KernelViews.{KernelView, done_or, view_after, view_after_all}
use Rattle.fmp_replay.specs.Replays.{IsLegal, done_after, kernel_after, reaction, replay}
use Rattle.fmp_replay.proofs.Replaying.{kernel_last, legal_last, step_of_replay}
use Rattle.fmp_session.specs.declared.session.TakenEvent.TheVariants as taken
use Rattle.fmp_session.specs.Sessions.{taken_by}

abbrev pub Kernels : Type 0
Kernels = KernelView (List BodyTables) MachineContext

-- what an event does on a kernel
abbrev pub step_on : Kernels → Event → Reaction MachineContext
step_on k e = step k.system (code_meaning k.body) k.bound k.world e

pub done_taken : {C : Type 0} (r : Reaction C) → effect.Done ≡ effect_of r → IsTaken r
done_taken Nothing h = absurd (cc)
done_taken (Did d) h = tt
done_taken (Kept p w) h = absurd (cc)

pub kept_taken : {C : Type 0} (r : Reaction C) → effect.Kept ≡ effect_of r → IsTaken r
kept_taken Nothing h = absurd (cc)
kept_taken (Did d) h = absurd (cc)
kept_taken (Kept p w) h = tt

-- an event that does nothing leaves the kernel as it was
pub nothing_changed : (k : Kernels) (r : Reaction MachineContext) → effect.Nothing ≡ effect_of r → view_after k r ≡ k
nothing_changed k Nothing h = refl
nothing_changed k (Did d) h = absurd (cc)
nothing_changed k (Kept p w) h = absurd (cc)

module _ (i : ImageTables) (n : ℕ) (es : List Event) (e : Event) (k k' : Kernels) (legal : IsLegal i n es)
    (now : k ≡ kernel_after i n es) (taken : IsTaken (step_on k e)) (view : k' ≡ view_after k (step_on k e)) where
  there : step_on k e ≡ reaction i n es e
  there = step_of_replay i n es e k now

  taken_there : IsTaken (reaction i n es e)
  taken_there = subst (λ (r : Reaction MachineContext). IsTaken r) there taken

  pub legal_more : IsLegal i n (es ++ e ∷ [])
  legal_more = legal_last i n es e (reaction i n es e) legal refl taken_there

  pub kernel_more : k' ≡ kernel_after i n (es ++ e ∷ [])
  kernel_more =
      view ∙ ap (λ (x : Kernels). view_after x (step_on k e)) now ∙ ap (view_after (kernel_after i n es)) there
      ∙ kernel_last i n es e (reaction i n es e) refl taken_there

module _ {C : Type 0} (sys : SystemTables) (M : Meaning C) (bound : ℕ) where
  few_on : (w : World C) (x : Event) (r : Reaction C) (n : ℕ) (rest : World C → List Event)
      → ((v : World C) → length (rest v) ≤ n)
      → length (taken_on w x r rest) ≤ n + 1
  few_on w x Nothing n rest h = let few = h w in omega (arith, few)
  few_on w x (Did d) n rest h = let few = h d.world in omega (arith, few)
  few_on w x (Kept p v) n rest h = let few = h v in omega (arith, few)

  -- no more are taken than there are
  few_taken : (w : World C) (es : List Event) → length (taken_events sys M bound w es) ≤ length es
  few_taken w [] = omega arith
  few_taken w (x ∷ es) =
      let few = few_on w x (step sys M bound w x) (length es) (λ v. taken_events sys M bound v es)
      (λ v. few_taken v es) in omega (arith, few)

  tail_is : (x : Event) (xs ys : List Event) → ◌≡◌ {A = List Event} (x ∷ xs) (x ∷ ys) → xs ≡ ys
  tail_is x xs ys h = cc

  -- where all events are taken, the first one is
  too_few : (w : World C) (x : Event) (es : List Event) → taken_events sys M bound w es ≡ x ∷ es → ⊥
  too_few w x es h =
      let few = few_taken w es in
      let long = ap (λ (xs : List Event). length xs) h in
      absurd (omega (arith, few, long))

  prefix_on : (w : World C) (x : Event) (r : Reaction C) (es fs : List Event)
      → ((v : World C) → taken_events sys M bound v (es ++ fs) ≡ es ++ fs → taken_events sys M bound v es ≡ es)
      → taken_on w x r (λ v. taken_events sys M bound v (es ++ fs)) ≡ x ∷ (es ++ fs)
      → taken_on w x r (λ v. taken_events sys M bound v es) ≡ x ∷ es
  prefix_on w x Nothing es fs rest h = absurd (too_few w x (es ++ fs) h)
  prefix_on w x (Did d) es fs rest h = ap (λ (xs : List Event). x ∷ xs) (rest d.world (tail_is x _ _ h))
  prefix_on w x (Kept p v) es fs rest h = ap (λ (xs : List Event). x ∷ xs) (rest v (tail_is x _ _ h))

  -- the first of events that are all taken are so too
  prefix_taken : (w : World C) (es fs : List Event) → taken_events sys M bound w (es ++ fs) ≡ es ++ fs
      → taken_events sys M bound w es ≡ es
  prefix_taken w [] fs h = refl
  prefix_taken w (x ∷ es) fs h = prefix_on w x (step sys M bound w x) es fs (λ v. prefix_taken v es fs) h

  last_of_one : (w : World C) (e : Event) (r : Reaction C) → taken_on w e r (λ v. []) ≡ e ∷ [] → IsTaken r
  last_of_one w e Nothing h = absurd (cc)
  last_of_one w e (Did d) h = tt
  last_of_one w e (Kept p v) h = tt

  last_on : (d : Done C) (x : Event) (r : Reaction C) (es : List Event) (e : Event)
      → ((n : Done C) → taken_events sys M bound n.world (es ++ e ∷ []) ≡ es ++ e ∷ []
      → IsTaken (step sys M bound (done_after sys M bound n es).world e))
      → taken_on d.world x r (λ v. taken_events sys M bound v (es ++ e ∷ [])) ≡ x ∷ (es ++ e ∷ [])
      → IsTaken (step sys M bound (done_after sys M bound (done_or d r) es).world e)
  last_on d x Nothing es e rest h = absurd (too_few d.world x (es ++ e ∷ []) h)
  last_on d x (Did n) es e rest h = rest n (tail_is x _ _ h)
  last_on d x (Kept p v) es e rest h = rest (record d { world = v }) (tail_is x _ _ h)

  -- the last of events that are all taken is taken
  last_taken : (d : Done C) (es : List Event) (e : Event) → taken_events sys M bound d.world (es ++ e ∷ []) ≡ es ++ e
      ∷ []
      → IsTaken (step sys M bound (done_after sys M bound d es).world e)
  last_taken d [] e h = last_of_one d.world e (step sys M bound d.world e) h
  last_taken d (x ∷ es) e h = last_on d x (step sys M bound d.world x) es e (λ n. last_taken n es e) h

-- the first of legal events are legal
pub legal_prefix : (i : ImageTables) (n : ℕ) (es fs : List Event) → IsLegal i n (es ++ fs) → IsLegal i n es
legal_prefix i n es fs l =
    record {
      all_taken =
          prefix_taken i.system (code_meaning i.code) n (setup i.system (code_meaning i.code)).world es fs l.all_taken;
    }

-- the last of legal events does something
pub legal_does : (i : ImageTables) (n : ℕ) (es : List Event) (e : Event) → IsLegal i n (es ++ e ∷ [])
    → IsTaken (reaction i n es e)
unfolding replay reaction
legal_does i n es e l = last_taken i.system (code_meaning i.code) n (setup i.system (code_meaning i.code)) es e
    l.all_taken

-- legal events that are taken one by one
taken_on_from : (i : ImageTables) (n : ℕ) (before es : List Event) → IsLegal i n (before ++ es)
    → view_after_all code_meaning (kernel_after i n before) es ≡ kernel_after i n (before ++ es)
taken_on_from i n before [] l = ap (kernel_after i n) (sym (append-nil before))
taken_on_from i n before (e ∷ es) l =
    let split : before ++ e ∷ es ≡ (before ++ e ∷ []) ++ es = sym (append_assoc before (e ∷ []) es) in
    let legal : IsLegal i n ((before ++ e ∷ []) ++ es) = subst (λ (xs : List Event). IsLegal i n xs) split l in
    let first : IsLegal i n (before ++ e ∷ []) = legal_prefix i n (before ++ e ∷ []) es legal in
    let step_is : step_on (kernel_after i n before) e ≡ reaction i n before e = step_of_replay i n before e _ refl in
    let next : view_after (kernel_after i n before) (step_on (kernel_after i n before) e)
    ≡ kernel_after i n (before ++ e ∷ []) =
    ap (view_after (kernel_after i n before)) step_is ∙ kernel_last i n before e (reaction i n before e) refl
    (legal_does i n before e first) in
    ap (λ (k : Kernels). view_after_all code_meaning k es) next ∙ taken_on_from i n (before ++ e ∷ []) es legal
    ∙ ap (kernel_after i n) (sym split)

-- the kernel after legal events, taken one by one from setup on
pub taken_from_setup : (i : ImageTables) (n : ℕ) (es : List Event) → IsLegal i n es
    → view_after_all code_meaning (kernel_after i n []) es ≡ kernel_after i n es
taken_from_setup i n es l = taken_on_from i n [] es l

module _ {B C : Type 0} (meaning : B → Meaning C) where
  cut : (es : List Event) (j : ℕ) (d : Event) → j < length es → drop j es ≡ get_or es j d ∷ drop (j + 1) es
  cut es j d h = rw add-one (drop-cons es j d h)

  -- the event at a place, and those after it
  pub state_step : (k k' last : KernelView B C) (es : List Event) (j : ℕ) (d : Event) → j < length es
      → k' ≡ view_after k (step k.system (meaning k.body) k.bound k.world (get_or es j d))
      → view_after_all meaning k (drop j es) ≡ last → view_after_all meaning k' (drop (j + 1) es) ≡ last
  state_step k k' last es j d h e so_far =
      let rest : List Event = drop (j + 1) es in
      ap (λ (v : KernelView B C). view_after_all meaning v rest) e
      ∙ ap (view_after_all meaning k) (sym (cut es j d h)) ∙ so_far

  at_most_one : (k : KernelView B C) (x : Reaction C) → (view_after k x).taken ≤ k.taken + 1
  at_most_one k Nothing = omega arith
  at_most_one k (Did d) = omega arith
  at_most_one k (Kept p w) = omega arith

  pub taken_step : (k k' : KernelView B C) (x : Reaction C) → k' ≡ view_after k x → k'.taken ≤ k.taken + 1
  taken_step k k' x h = subst (λ (v : KernelView B C). v.taken ≤ k.taken + 1) (sym h) (at_most_one k x)

-- the first of legal events, this many
pub legal_take : (i : ImageTables) (n : ℕ) (es : List Event) (k : ℕ) → IsLegal i n es → IsLegal i n (take k es)
legal_take i n es k l =
    legal_prefix i n (take k es) (drop k es) (subst (λ (xs : List Event). IsLegal i n xs)
    (sym (take-append-drop k es)) l)

-- there is room for as many events as a session has at most
pub room : (taken n : ℕ) → taken ≡ 0 → n ≤ 2 ^ 20 → taken + n ≤ 2 ^ 20
room taken n none few = omega (arith, none, few)

-- what an event came to, by its effect
pub taken_done : {C : Type 0} (r : Reaction C) → effect.Done ≡ effect_of r → taken.Done ≡ taken_by r
taken_done Nothing h = absurd (cc)
taken_done (Did d) h = refl
taken_done (Kept p w) h = absurd (cc)

pub taken_kept : {C : Type 0} (r : Reaction C) → effect.Kept ≡ effect_of r → taken.Kept ≡ taken_by r
taken_kept Nothing h = absurd (cc)
taken_kept (Did d) h = absurd (cc)
taken_kept (Kept p w) h = refl

pub taken_nothing : {C : Type 0} (r : Reaction C) → effect.Nothing ≡ effect_of r → taken.Nothing ≡ taken_by r
taken_nothing Nothing h = refl
taken_nothing (Did d) h = absurd (cc)
taken_nothing (Kept p w) h = absurd (cc)
