-- Where a kernel gives no actor, its processor has none.
use Rattle.std.proofs.Common.{◌≡◌, ℕ, zero, suc, Option, Some, None, IfNone, get_or, refl, if◌then◌else◌}
use Rattle.fmp_base.specs.declared.bodies.Held.{Held}
use Rattle.fmp_base.specs.declared.bodies.Held.TheVariants.{Goes, Awaits}
use Rattle.fmp_contexts.specs.Contexts.{is_going}
use Rattle.fmp_kernel.specs.KernelViews.{HasNoActor, KernelView, actor_in, stamp_of, with_stamp}
use Rattle.fmp_worlds.specs.Settled.{IsSettledWorld}
use Rattle.fmp_worlds.specs.Stamps.{Going, actor_at, going_from}
use Rattle.fmp_worlds.proofs.ActorLaws.{none-acts}

none_stamped : {C : Type 0} (stamp : ℕ) (o : Option (Going C)) (P : Type 0) → (o ≡ None → P)
    → IfNone (with_stamp stamp o) P
none_stamped stamp None P h = h refl
none_stamped stamp (Some a) P h = tt

pub no_actor : {B C : Type 0} (k : KernelView B C) (p : ℕ) → IsSettledWorld k.system k.world
    → IfNone (actor_in k p) (HasNoActor k p)
no_actor k zero h = tt
no_actor k (suc p) h =
    none_stamped (get_or k.stamps p 0) (actor_at k.system k.world p) _ (λ e. none-acts k.system k.world p h e)

-- the stamp of an actor, by whether it goes on
pub stamp_goes : {C : Type 0} (stamp entry : ℕ) (o : Option (Held C))
    → stamp_of (with_stamp stamp (going_from entry o)) ≡ (if is_going o then Some stamp else None)
stamp_goes stamp entry None = refl
stamp_goes stamp entry (Some (Awaits c)) = refl
stamp_goes stamp entry (Some (Goes c)) = refl
