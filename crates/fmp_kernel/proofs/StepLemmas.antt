-- What an event leaves of a settled world.
use Rattle.std.proofs.Common.{◌≡◌, ℕ, suc, ◌-◌, ◌≤◌, refl, ap, subst, sym, ◌∙◌, arith}
use Rattle.fmp_base.specs.declared.events.Effect.TheVariants as effect
use Rattle.fmp_base.specs.declared.events.Event.{Event}
use Rattle.fmp_base.specs.Meanings.{Meaning, World}
use Rattle.fmp_base.specs.States.{processor_at}
use Rattle.fmp_base.specs.Steps.{Done, Reaction, Nothing, Did, Kept, actor_of, effect_of, step}
use Rattle.fmp_base.specs.Stretches.{Ending}
use Rattle.fmp_base.specs.Systems.{SystemTables}
use Rattle.fmp_worlds.specs.Settled.{IsSettledWorld, IsWorldOf}
use Rattle.fmp_worlds.specs.Stamps.{applied_by, applied}
use Rattle.fmp_worlds.proofs.Awaiting.{applied-kept_world, applied-settled_world, kept-settled_world}
use Rattle.fmp_worlds.proofs.Awaiting.{step-settled_world}
use Rattle.fmp_worlds.proofs.Places.{KeptIn, applied_by-in, step-in}
use Rattle.fmp_kernel.specs.KernelViews.{done_or}

by_reaction : {C : Type 0} (sys : SystemTables) (old : Done C) (x : Reaction C) → IsSettledWorld sys old.world
    → IsWorldOf sys (done_or old x).world
    → ((d : Done C) → IsWorldOf sys d.world → x ≡ Did d → IsSettledWorld sys d.world)
    → ((p : ℕ) (w : World C) → IsWorldOf sys w → x ≡ Kept p w → IsSettledWorld sys w)
    → IsSettledWorld sys (done_or old x).world
by_reaction sys old Nothing h whole k l = h
by_reaction sys old (Did d) h whole k l = k d whole refl
by_reaction sys old (Kept p w) h whole k l = l p w whole refl

-- a settled world is settled after every event
pub settled_after : {C : Type 0} (sys : SystemTables) (M : Meaning C) (n : ℕ) (old new : Done C) (e : Event)
    → IsSettledWorld sys old.world → IsWorldOf sys new.world → new ≡ done_or old (step sys M n old.world e)
    → IsSettledWorld sys new.world
settled_after {C} sys M n old new e h whole k =
    subst (λ (d : Done C). IsSettledWorld sys d.world) (sym k)
    (by_reaction sys old (step sys M n old.world e) h (subst (λ (d : Done C). IsWorldOf sys d.world) k whole)
    (λ d w s. step-settled_world sys M n old.world e d h w s)
    (λ p v w s. kept-settled_world sys M n old.world e p v h w s))

-- an event that did nothing leaves everything as it was
pub same_after : {C : Type 0} (x : Reaction C) (old : Done C) → effect.Nothing ≡ effect_of x → done_or old x ≡ old
same_after Nothing old h = refl
same_after (Did d) old h = absurd (cc h)
same_after (Kept p w) old h = absurd (cc h)

-- and one that kept a place leaves the state
kept_same : {C : Type 0} (x : Reaction C) (old new : Done C) → KeptIn old.world.state x → effect.Kept ≡ effect_of x
    → new ≡ done_or old x → new.world.state ≡ old.world.state
kept_same Nothing old new k h e = absurd (cc h)
kept_same (Did d) old new k h e = absurd (cc h)
kept_same {C} (Kept p w) old new k h e = ap (λ (d : Done C). d.world.state) e ∙ k

pub kept_after_step : {C : Type 0} (sys : SystemTables) (M : Meaning C) (n : ℕ) (old new : Done C) (e : Event)
    → effect.Kept ≡ effect_of (step sys M n old.world e) → new ≡ done_or old (step sys M n old.world e)
    → new.world.state ≡ old.world.state
kept_after_step sys M n old new e h k =
    kept_same (step sys M n old.world e) old new (step-in sys M n old.world e) h k

pub kept_after_stretch : {C : Type 0} (sys : SystemTables) (M : Meaning C) (old new : Done C) (p : ℕ) (x : Ending C)
    → effect.Kept ≡ effect_of (applied_by sys M old.world p (actor_of (processor_at old.world.state p)) x)
    → new ≡ done_or old (applied_by sys M old.world p (actor_of (processor_at old.world.state p)) x)
    → new.world.state ≡ old.world.state
kept_after_stretch sys M old new p x h k =
    kept_same (applied_by sys M old.world p (actor_of (processor_at old.world.state p)) x) old new
    (applied_by-in sys M old.world p (actor_of (processor_at old.world.state p)) x) h k

-- a settled world is settled after every stretch that is applied
pub settled_applied : {C : Type 0} (sys : SystemTables) (M : Meaning C) (old new : Done C) (p : ℕ) (x : Ending C)
    → IsSettledWorld sys old.world → IsWorldOf sys new.world
    → new ≡ done_or old (applied_by sys M old.world p (actor_of (processor_at old.world.state p)) x)
    → IsSettledWorld sys new.world
settled_applied {C} sys M old new p x h whole k =
    subst (λ (d : Done C). IsSettledWorld sys d.world) (sym k)
    (by_reaction sys old (applied_by sys M old.world p (actor_of (processor_at old.world.state p)) x) h
    (subst (λ (d : Done C). IsWorldOf sys d.world) k whole)
    (λ d w s. applied-settled_world sys M old.world p x d h w s)
    (λ q v w s. applied-kept_world sys M old.world p x q v h w s))

-- a processor by its place, or by its number
pub by_number : {C : Type 0} (sys : SystemTables) (M : Meaning C) (w : World C) (p : ℕ) (x : Ending C) → 1 ≤ p
    → applied_by sys M w (p - 1) (actor_of (processor_at w.state (p - 1))) x ≡ applied sys M w p x
by_number {C} sys M w p x h =
    let e : suc (p - 1) ≡ p = omega (arith, h) in
    ap (λ (q : ℕ). applied sys M w q x) e
