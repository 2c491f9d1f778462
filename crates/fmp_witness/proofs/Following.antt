-- One more event of a kernel that has done events.
use Rattle.std.proofs.Common.{◌≡◌, ℕ, ◌+◌, ◌<◌, ◌≤◌, List, [], ◌∷◌, ◌++◌, get_or, length, take, refl, ap, ◌∙◌, subst}
use Rattle.std.proofs.Common.{sym}
use Rattle.std.proofs.lemmas.List.{take_all, take_more}
use Rattle.fmp_base.specs.declared.events.Effect.TheVariants as effect
use Rattle.fmp_base.specs.declared.events.Event.{Event}
use Rattle.fmp_base.specs.Steps.{Reaction, Nothing, Did, Kept, IsTaken, effect_of, step}
use Rattle.fmp_drive.specs.Driving.{HasTaken}
use Rattle.fmp_image_bytes.specs.Images.{ImageTables}
use Rattle.fmp_instructions.specs.Instructions.{BodyTables}
use Rattle.fmp_instructions.specs.Machine.{code_meaning}
use Rattle.fmp_instructions.specs.declared.instructions.MachineContext.{MachineContext}
use Rattle.fmp_kernel.specs.KernelViews.{KernelView, view_after}
use Rattle.fmp_replay.specs.Replays.{kernel_after, reaction}
use Rattle.fmp_replay.proofs.Replaying.{kernel_last, legal_last, none_legal, step_of_replay}
use Rattle.fmp_witness.specs.Followed.{IsFollowed}

abbrev Kernels : Type 0
Kernels = KernelView (List BodyTables) MachineContext

-- what an event does on a kernel
abbrev step_on : Kernels → Event → Reaction MachineContext
step_on k e = step k.system (code_meaning k.body) k.bound k.world e

-- no event is done yet
pub followed_none : (i : ImageTables) (n : ℕ) (k : Kernels) → k ≡ kernel_after i n [] → IsFollowed i n [] k
followed_none i n k h = record { legal = none_legal i n; kernel = h }

-- an event that is done, or keeps a place, is taken
pub done_taken : {C : Type 0} (r : Reaction C) → effect.Done ≡ effect_of r → IsTaken r
done_taken Nothing h = absurd (cc)
done_taken (Did d) h = tt
done_taken (Kept p w) h = absurd (cc)

pub kept_taken : {C : Type 0} (r : Reaction C) → effect.Kept ≡ effect_of r → IsTaken r
kept_taken Nothing h = absurd (cc)
kept_taken (Did d) h = absurd (cc)
kept_taken (Kept p w) h = tt

-- one more event that did something
pub followed_more : (i : ImageTables) (n : ℕ) (es : List Event) (e : Event) (k k' : Kernels) → IsFollowed i n es k
    → HasTaken (λ bodies. code_meaning bodies) k k' e → IsFollowed i n (es ++ e ∷ []) k'
followed_more i n es e k k' f t =
    let there : step_on k e ≡ reaction i n es e = step_of_replay i n es e k f.kernel in
    let taken : IsTaken (reaction i n es e) = subst (λ (r : Reaction MachineContext). IsTaken r) there t.taken in
    record {
      legal = legal_last i n es e (reaction i n es e) f.legal refl taken;
      kernel =
          t.view ∙ ap (λ (x : Kernels). view_after x (step_on k e)) f.kernel
          ∙ ap (view_after (kernel_after i n es)) there ∙ kernel_last i n es e (reaction i n es e) refl taken;
    }

-- the same for one more of the events of a list
pub followed_step : (i : ImageTables) (n : ℕ) (es : List Event) (at : ℕ) (d : Event) (k k' : Kernels)
    → IsFollowed i n (take at es) k → at < length es
    → HasTaken (λ bodies. code_meaning bodies) k k' (get_or es at d) → IsFollowed i n (take (at + 1) es) k'
followed_step i n es at d k k' f lt t =
    subst (λ (xs : List Event). IsFollowed i n xs k') (sym (take_more es at d lt))
    (followed_more i n (take at es) (get_or es at d) k k' f t)

-- when all are done
pub followed_all : (i : ImageTables) (n : ℕ) (es : List Event) (at : ℕ) (k : Kernels) → length es ≤ at
    → IsFollowed i n (take at es) k → IsFollowed i n es k
followed_all i n es at k le f = subst (λ (xs : List Event). IsFollowed i n xs k) (take_all at es le) f

module _ (i : ImageTables) (n : ℕ) (es : List Event) (k : Kernels) (f : IsFollowed i n es k) where
  -- its bodies are those of the image, and its bound is the one of the replay
  pub followed_body : k.body ≡ i.code
  followed_body = ap (λ (x : Kernels). x.body) f.kernel

  pub followed_bound : k.bound ≡ n
  followed_bound = ap (λ (x : Kernels). x.bound) f.kernel
