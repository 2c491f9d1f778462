-- Kernels that take events.
use Rattle.std.proofs.Common.{◌≡◌, ◌∙◌, ◌+◌, ◌<◌, ℕ, List, [], ◌∷◌, ◌++◌, ap, arith, get_or, length, refl, subst}
use Rattle.std.proofs.Common.{sym, take}
use Rattle.std.proofs.lemmas.List.{length_push, take_more}
use Rattle.fmp_base.specs.Steps.{Reaction, Nothing, Did, Kept, step}
use Rattle.fmp_base.specs.declared.events.Event.{Event}
use Rattle.fmp_image_bytes.specs.Images.{ImageTables}
use Rattle.fmp_instructions.specs.Instructions.{BodyTables}
use Rattle.fmp_instructions.specs.Machine.{code_meaning}
use Rattle.fmp_instructions.specs.declared.instructions.MachineContext.{MachineContext}
use Rattle.fmp_kernel.specs.KernelViews.{KernelView, done_or, view_after}
use Rattle.fmp_replay.specs.Replays.{kernel_after, reaction, replay}
use Rattle.fmp_replay.proofs.Replaying.{replay_last}
use Rattle.fmp_searching.specs.Fresh.{HasSeen}

abbrev Kernels : Type 0
Kernels = KernelView (List BodyTables) MachineContext

-- no event changes the bodies
pub body_stays : {B C : Type 0} (k : KernelView B C) (r : Reaction C) → (view_after k r).body ≡ k.body
body_stays k Nothing = refl
body_stays k (Did d) = refl
body_stays k (Kept p w) = refl

pub seen_none : (i : ImageTables) (n : ℕ) (k : Kernels) → k ≡ kernel_after i n [] → HasSeen i n [] k
seen_none i n k h =
    subst (λ (x : Kernels). HasSeen i n [] x) (sym h)
    (record { body = refl; bound = refl; system = refl; world = refl; taken = omega arith })

-- what an event does on a kernel
abbrev step_on : Kernels → Event → Reaction MachineContext
step_on k e = step k.system (code_meaning k.body) k.bound k.world e

-- it does what it does after the replay
same_step : (i : ImageTables) (n : ℕ) (es : List Event) (e : Event) (k : Kernels) → HasSeen i n es k
    → step_on k e ≡ reaction i n es e
unfolding reaction
same_step i n es e k h =
    ap (λ s. step s (code_meaning k.body) k.bound k.world e) h.system
    ∙ ap (λ b. step i.system (code_meaning b) k.bound k.world e) h.body
    ∙ ap (λ (m : ℕ). step i.system (code_meaning i.code) m k.world e) h.bound
    ∙ ap (λ w. step i.system (code_meaning i.code) n w e) h.world

by_reaction : (i : ImageTables) (n : ℕ) (es : List Event) (e : Event) (k : Kernels) (r : Reaction MachineContext)
    → HasSeen i n es k → (replay i n (es ++ e ∷ [])).world ≡ (done_or (replay i n es) r).world
    → HasSeen i n (es ++ e ∷ []) (view_after k r)
by_reaction i n es e k Nothing h after =
    let longer = length_push es e in
    record {
      body = h.body;
      bound = h.bound;
      system = h.system;
      world = h.world ∙ sym after;
      taken = omega (arith, h.taken, longer);
    }
by_reaction i n es e k (Did d) h after =
    let longer = length_push es e in
    record {
      body = h.body;
      bound = h.bound;
      system = h.system;
      world = sym after;
      taken = omega (arith, h.taken, longer);
    }
by_reaction i n es e k (Kept p w) h after =
    let longer = length_push es e in
    record {
      body = h.body;
      bound = h.bound;
      system = h.system;
      world = sym after;
      taken = omega (arith, h.taken, longer);
    }

-- one more of the events of a list
pub seen_more : (i : ImageTables) (n : ℕ) (es : List Event) (at : ℕ) (d : Event) (k new : Kernels) → at < length es
    → HasSeen i n (take at es) k → new ≡ view_after k (step_on k (get_or es at d)) → HasSeen i n (take (at + 1) es) new
seen_more i n es at d k new lt h is =
    let e = get_or es at d in
    let same = same_step i n (take at es) e k h in
    let after = ap (λ x. x.world) (replay_last i n (take at es) e) in
    let more =
    by_reaction i n (take at es) e k (step_on k e) h
    (after ∙ ap (λ r. (done_or (replay i n (take at es)) r).world) (sym same)) in
    subst (λ (xs : List Event). HasSeen i n xs new) (sym (take_more es at d lt))
    (subst (λ (x : Kernels). HasSeen i n (take at es ++ e ∷ []) x) (sym is) more)
