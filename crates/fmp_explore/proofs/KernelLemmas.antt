-- What an event has done on a kernel of an image in a sound world.
use Rattle.std.proofs.Common.{◌≡◌, ◌≢◌, ◌<◌, ◌^◌, ℕ, List, refl, sym, ap, subst, ◌∙◌}
use Rattle.fmp_base.specs.declared.events.Effect.{Effect}
use Rattle.fmp_base.specs.declared.events.Effect.TheVariants as effect
use Rattle.fmp_base.specs.declared.events.Event.{Event}
use Rattle.fmp_base.specs.Meanings.{World}
use Rattle.fmp_base.specs.Steps.{Reaction, Nothing, Did, Kept, effect_of, step}
use Rattle.fmp_base.specs.Systems.{SystemTables}
use Rattle.fmp_explore.specs.Searching.{CanStep, HasDone, HasKeptPlace, HasStepped, IsKernelOf}
use Rattle.fmp_explore.specs.States.{reaction_in}
use Rattle.fmp_image_bytes.specs.Images.{ImageTables, IsImage}
use Rattle.fmp_instructions.specs.Instructions.{BodyTables}
use Rattle.fmp_instructions.specs.Machine.{code_meaning}
use Rattle.fmp_instructions.specs.declared.instructions.MachineContext.{MachineContext}
use Rattle.fmp_kernel.specs.KernelViews.{view_after}
use Rattle.fmp_reachable.specs.Sound.{IsSound, LeavesSound}
use Rattle.fmp_reachable.proofs.SoundLaws.{image-step-sound, replay-sound}
use Rattle.fmp_witness.specs.Followed.{IsFollowed}
use Rattle.fmp_witness.proofs.OverLemmas.{Kernels, over_after, over_going}
use Rattle.fmp_witness.specs.Asked.{Asked}

module _ (asked : Asked) where
  abbrev i : ImageTables
  i = asked.image

  abbrev n : ℕ
  n = asked.bound

  -- the step of a kernel of the image is that of the image
  abbrev step_of : Kernels → Event → Reaction MachineContext
  step_of k e = step k.system (code_meaning k.body) k.bound k.world e

  pub step_is : (k : Kernels) (e : Event) → IsKernelOf asked k → step_of k e ≡ reaction_in asked k.world e
  step_is k e o =
      ap (λ (sys : SystemTables). step sys (code_meaning k.body) k.bound k.world e) o.system
      ∙ ap (λ (bodies : List BodyTables). step i.system (code_meaning bodies) k.bound k.world e) o.body
      ∙ ap (λ (m : ℕ). step i.system (code_meaning i.code) m k.world e) o.bound

  pub stepped : (k k' : Kernels) (e : Event) (x : Effect) → CanStep asked k → x ≡ effect_of (step_of k e)
      → k' ≡ view_after k (step_of k e) → HasStepped asked k e k' x
  stepped k k' e x could effect view =
      record {
        could = could;
        effect = effect ∙ ap (λ (r : Reaction MachineContext). effect_of r) (step_is k e could.over);
        kernel = view ∙ ap (λ (r : Reaction MachineContext). view_after k r) (step_is k e could.over);
      }

  module _ (image : IsImage i) (before : Kernels) (e : Event) (k : Kernels) where
    view_at : (r : Reaction MachineContext) (x : Effect) → HasStepped asked before e k x
        → reaction_in asked before.world e ≡ r → k ≡ view_after before r
    view_at r x h is = h.kernel ∙ ap (λ (y : Reaction MachineContext). view_after before y) is

    effect_at : (r : Reaction MachineContext) (x : Effect) → HasStepped asked before e k x
        → reaction_in asked before.world e ≡ r → x ≡ effect_of r
    effect_at r x h is = h.effect ∙ ap (λ (y : Reaction MachineContext). effect_of y) is

    leaves_at : (r : Reaction MachineContext) (x : Effect) → HasStepped asked before e k x
        → reaction_in asked before.world e ≡ r → LeavesSound i.system i.code r
    leaves_at r x h is =
        subst (λ (y : Reaction MachineContext). LeavesSound i.system i.code y) is
        (image-step-sound i n image before.world e h.could.sound)

    pub stepped_over : (x : Effect) → HasStepped asked before e k x → IsKernelOf asked k
    stepped_over x h = over_going i n before k (reaction_in asked before.world e) h.could.over h.kernel

    sound_by : (r : Reaction MachineContext) (x : Effect) → HasStepped asked before e k x
        → reaction_in asked before.world e ≡ r → IsSound i.system i.code k.world
    sound_by Nothing x h is =
        subst (λ (y : Kernels). IsSound i.system i.code y.world) (sym (view_at Nothing x h is)) h.could.sound
    sound_by (Did d) x h is =
        subst (λ (y : Kernels). IsSound i.system i.code y.world) (sym (view_at (Did d) x h is))
        (leaves_at (Did d) x h is)
    sound_by (Kept p w) x h is =
        subst (λ (y : Kernels). IsSound i.system i.code y.world) (sym (view_at (Kept p w) x h is))
        (leaves_at (Kept p w) x h is)

    pub stepped_sound : (x : Effect) → HasStepped asked before e k x → IsSound i.system i.code k.world
    stepped_sound x h = sound_by (reaction_in asked before.world e) x h refl

    done_by : (r : Reaction MachineContext) → reaction_in asked before.world e ≡ r
        → HasStepped asked before e k effect.Done → HasDone asked before.world e k
    done_by Nothing is h = absurd (cc (effect_at Nothing effect.Done h is))
    done_by (Kept p v) is h = absurd (cc (effect_at (Kept p v) effect.Done h is))
    done_by (Did d) is h =
        record {
          done = d;
          did = is;
          lines = ap (λ (x : Kernels). x.lines) (view_at (Did d) effect.Done h is);
          world = ap (λ (x : Kernels). x.world) (view_at (Did d) effect.Done h is);
        }

    pub stepped_done : HasStepped asked before e k effect.Done → HasDone asked before.world e k
    stepped_done h = done_by (reaction_in asked before.world e) refl h

    kept_by : (r : Reaction MachineContext) → reaction_in asked before.world e ≡ r
        → HasStepped asked before e k effect.Kept → HasKeptPlace asked before.world e k
    kept_by Nothing is h = absurd (cc (effect_at Nothing effect.Kept h is))
    kept_by (Did d) is h = absurd (cc (effect_at (Did d) effect.Kept h is))
    kept_by (Kept p v) is h =
        record {
          place = p;
          keeps =
              is ∙ ap (λ (w : World MachineContext). Kept p w)
              (sym (ap (λ (x : Kernels). x.world) (view_at (Kept p v) effect.Kept h is)));
        }

    pub stepped_kept : HasStepped asked before e k effect.Kept → HasKeptPlace asked before.world e k
    stepped_kept h = kept_by (reaction_in asked before.world e) refl h

    none_by : (r : Reaction MachineContext) → reaction_in asked before.world e ≡ r
        → HasStepped asked before e k effect.Nothing → reaction_in asked before.world e ≡ Nothing
    none_by Nothing is h = is
    none_by (Did d) is h = absurd (cc (effect_at (Did d) effect.Nothing h is))
    none_by (Kept p v) is h = absurd (cc (effect_at (Kept p v) effect.Nothing h is))

    pub stepped_none : HasStepped asked before e k effect.Nothing → reaction_in asked before.world e ≡ Nothing
    stepped_none h = none_by (reaction_in asked before.world e) refl h

    -- where nothing was done, the kernel is as it was
    pub stepped_still : HasStepped asked before e k effect.Nothing → k ≡ before
    stepped_still h = view_at Nothing effect.Nothing h (stepped_none h)

    -- where something was done, the event does something
    pub stepped_does : (x : Effect) → HasStepped asked before e k x → x ≢ effect.Nothing
        → reaction_in asked before.world e ≢ Nothing
    stepped_does x h some none = some (effect_at Nothing x h none)

  -- a kernel that has taken events is in a sound world
  pub followed_sound : IsImage i → (es : List Event) (k : Kernels) → IsFollowed i n es k
      → IsSound i.system i.code k.world
  followed_sound image es k f =
      subst (λ (x : Kernels). IsSound i.system i.code x.world) (sym f.kernel) (replay-sound i n es image)

  -- and can take one more, if it has taken few
  pub followed_ready : IsImage i → (es : List Event) (k : Kernels) → IsFollowed i n es k → k.taken < 2 ^ 20
      → CanStep asked k
  followed_ready image es k f early =
      record { over = over_after i n es k f; early = early; sound = followed_sound image es k f }

  pub ready_at : (k k' : Kernels) → k' ≡ k → CanStep asked k → CanStep asked k'
  ready_at k k' e h = subst (λ (x : Kernels). CanStep asked x) (sym e) h

-- a kernel that can take an event is one of the image
pub ready_over : (asked : Asked) (k : Kernels) → CanStep asked k → IsKernelOf asked k
ready_over asked k h = h.over

-- and so it is after the event, whatever that does
pub step_over : (asked : Asked) (k k' : Kernels) (e : Event) → CanStep asked k
    → k' ≡ view_after k (step k.system (code_meaning k.body) k.bound k.world e) → IsKernelOf asked k'
step_over asked k k' e h view = over_going asked.image asked.bound k k'
    (step k.system (code_meaning k.body) k.bound k.world e) h.over view
