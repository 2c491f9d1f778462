-- Kernels of an image: what no event changes.
use Rattle.std.proofs.Common.{◌≡◌, ℕ, List, [], ap, subst, sym, ◌∙◌}
use Rattle.fmp_base.specs.declared.events.Event.{Event}
use Rattle.fmp_base.specs.Steps.{Reaction, Nothing, Did, Kept}
use Rattle.fmp_witness.specs.Followed.{IsFollowed, IsOver}
use Rattle.fmp_witness.proofs.Following.{followed_none}
use Rattle.fmp_image_bytes.specs.Images.{ImageTables}
use Rattle.fmp_instructions.specs.Instructions.{BodyTables}
use Rattle.fmp_instructions.specs.declared.instructions.MachineContext.{MachineContext}
use Rattle.fmp_kernel.specs.KernelViews.{KernelView, view_after}
use Rattle.fmp_replay.specs.Replays.{kernel_after}

abbrev pub Kernels : Type 0
Kernels = KernelView (List BodyTables) MachineContext

module _ (i : ImageTables) (n : ℕ) where
  -- a kernel that has taken events is one of the image
  pub over_after : (es : List Event) (k : Kernels) → IsFollowed i n es k → IsOver i n k
  over_after es k f =
      record {
        body = ap (λ (x : Kernels). x.body) f.kernel;
        bound = ap (λ (x : Kernels). x.bound) f.kernel;
        system = ap (λ (x : Kernels). x.system) f.kernel;
      }

  pub over_first : (k : Kernels) → k ≡ kernel_after i n [] → IsOver i n k
  over_first k h = over_after [] k (followed_none i n k h)

  -- and so it is after one more event, whatever that does
  over_view : (k : Kernels) (r : Reaction MachineContext) → IsOver i n k → IsOver i n (view_after k r)
  over_view k Nothing o = o
  over_view k (Did d) o = record { body = o.body; bound = o.bound; system = o.system }
  over_view k (Kept p w) o = record { body = o.body; bound = o.bound; system = o.system }

  pub over_going : (k k' : Kernels) (r : Reaction MachineContext) → IsOver i n k → k' ≡ view_after k r → IsOver i n k'
  over_going k k' r o h = subst (λ (x : Kernels). IsOver i n x) (sym h) (over_view k r o)

  -- two kernels of the image
  pub same_body : (k k' : Kernels) → IsOver i n k → IsOver i n k' → k.body ≡ k'.body
  same_body k k' o p = o.body ∙ sym p.body

  pub same_bound : (k k' : Kernels) → IsOver i n k → IsOver i n k' → k.bound ≡ k'.bound
  same_bound k k' o p = o.bound ∙ sym p.bound

  pub same_system : (k k' : Kernels) → IsOver i n k → IsOver i n k' → k.system ≡ k'.system
  same_system k k' o p = o.system ∙ sym p.system
