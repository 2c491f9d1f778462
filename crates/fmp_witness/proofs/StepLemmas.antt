-- What an event does after others, and the kernel then.
use Rattle.std.proofs.Common.{◌≡◌, ◌≢◌, ℕ, zero, suc, List, Option, Some, None, Bool, true, false, refl, ap, ◌∙◌}
use Rattle.fmp_base.specs.declared.events.Effect.{Effect}
use Rattle.fmp_base.specs.declared.events.Effect.TheVariants as effect
use Rattle.fmp_base.specs.declared.events.Event.{Event}
use Rattle.fmp_base.specs.declared.events.Event.TheVariants as event
use Rattle.fmp_base.specs.declared.systems.InterruptConfig.{InterruptConfig}
use Rattle.fmp_base.specs.Meanings.{Meaning, World}
use Rattle.fmp_base.specs.Steps.{Reaction, Nothing, Did, Kept, effect_of, interrupted, interrupted_by, step}
use Rattle.fmp_base.specs.Systems.{SystemTables, interrupt_config}
use Rattle.fmp_base.specs.Ticks.{is_pending}
use Rattle.fmp_witness.specs.Followed.{IsFollowed}
use Rattle.fmp_witness.specs.Followed.{HasDone, HasStepped}
use Rattle.fmp_image_bytes.specs.Images.{ImageTables}
use Rattle.fmp_instructions.specs.Instructions.{BodyTables}
use Rattle.fmp_instructions.specs.Machine.{code_meaning}
use Rattle.fmp_instructions.specs.declared.instructions.MachineContext.{MachineContext}
use Rattle.fmp_kernel.specs.KernelViews.{KernelView, view_after}
use Rattle.fmp_replay.specs.Replays.{kernel_after, reaction}
use Rattle.fmp_replay.proofs.Replaying.{kernel_last, legal_last, step_of_replay}
use Rattle.fmp_schedules.specs.Deadlocks.{is_interrupt}

abbrev Kernels : Type 0
Kernels = KernelView (List BodyTables) MachineContext

-- no interrupt keeps a place
module _ {C : Type 0} (sys : SystemTables) (M : Meaning C) (w : World C) (p : ℕ) (v : World C) where
  pending_kept : (pends : Bool) (i : ℕ) → interrupted_by pends sys M w i ≡ Kept p v → ⊥
  pending_kept true i e = absurd (cc)
  pending_kept false i e = absurd (cc)

  interrupt_kept : (config : Option InterruptConfig) (i : ℕ) → interrupted config sys M w i ≡ Kept p v → ⊥
  interrupt_kept None i e = absurd (cc)
  interrupt_kept (Some config) i e = pending_kept (is_pending w.state.pending_interrupts i) i e

  pub kept_by_run : (n : ℕ) (e : Event) → step sys M n w e ≡ Kept p v → is_interrupt e ≡ false
  kept_by_run n (event.Run k) h = refl
  kept_by_run n event.Tick h = refl
  kept_by_run n (event.Int zero) h = absurd (cc)
  kept_by_run n (event.Int (suc i)) h = absurd (interrupt_kept (interrupt_config sys i) i h)

module _ (i : ImageTables) (n : ℕ) (es : List Event) (e : Event) where
  -- what a kernel did is what the event does
  pub stepped : (k k' : Kernels) (x : Effect) → IsFollowed i n es k
      → x ≡ effect_of (step k.system (code_meaning k.body) k.bound k.world e)
      → k' ≡ view_after k (step k.system (code_meaning k.body) k.bound k.world e) → HasStepped i n es e k' x
  stepped k k' x f effect view =
      let there : step k.system (code_meaning k.body) k.bound k.world e ≡ reaction i n es e =
      step_of_replay i n es e k f.kernel in
      record {
        legal = f.legal;
        effect = effect ∙ ap (λ (r : Reaction MachineContext). effect_of r) there;
        kernel =
            view ∙ ap (λ (v : Kernels). view_after v (step k.system (code_meaning k.body) k.bound k.world e)) f.kernel
            ∙ ap (λ (r : Reaction MachineContext). view_after (kernel_after i n es) r) there;
      }

  module _ (k : Kernels) where
    seen_at : (r : Reaction MachineContext) (x : Effect) → HasStepped i n es e k x → reaction i n es e ≡ r
        → k ≡ view_after (kernel_after i n es) r
    seen_at r x h is = h.kernel ∙ ap (λ (y : Reaction MachineContext). view_after (kernel_after i n es) y) is

    effect_at : (r : Reaction MachineContext) (x : Effect) → HasStepped i n es e k x → reaction i n es e ≡ r
        → x ≡ effect_of r
    effect_at r x h is = h.effect ∙ ap (λ (y : Reaction MachineContext). effect_of y) is

    done_by : (r : Reaction MachineContext) → reaction i n es e ≡ r → HasStepped i n es e k effect.Done
        → HasDone i n es e k
    done_by Nothing is h = absurd (cc (effect_at Nothing effect.Done h is))
    done_by (Kept p v) is h = absurd (cc (effect_at (Kept p v) effect.Done h is))
    done_by (Did d) is h =
        record {
          done = d;
          did = is;
          lines = ap (λ (x : Kernels). x.lines) (seen_at (Did d) effect.Done h is);
          world = ap (λ (x : Kernels). x.world) (seen_at (Did d) effect.Done h is);
          followed =
              record {
                legal = legal_last i n es e (Did d) h.legal is tt;
                kernel = seen_at (Did d) effect.Done h is ∙ kernel_last i n es e (Did d) is tt;
              };
        }

    pub stepped_done : HasStepped i n es e k effect.Done → HasDone i n es e k
    stepped_done h = done_by (reaction i n es e) refl h

    none_by : (r : Reaction MachineContext) → reaction i n es e ≡ r → HasStepped i n es e k effect.Nothing
        → reaction i n es e ≡ Nothing
    none_by Nothing is h = is
    none_by (Did d) is h = absurd (cc (effect_at (Did d) effect.Nothing h is))
    none_by (Kept p v) is h = absurd (cc (effect_at (Kept p v) effect.Nothing h is))

    pub stepped_none : HasStepped i n es e k effect.Nothing → reaction i n es e ≡ Nothing
    stepped_none h = none_by (reaction i n es e) refl h

    -- where nothing was done, the kernel is as it was
    pub stepped_still : HasStepped i n es e k effect.Nothing → k ≡ kernel_after i n es
    stepped_still h = seen_at Nothing effect.Nothing h (stepped_none h)

    -- where something was done, the event does something
    pub stepped_does : (x : Effect) → HasStepped i n es e k x → x ≢ effect.Nothing → reaction i n es e ≢ Nothing
    stepped_does x h some none = some (effect_at Nothing x h none)
