use Rattle.std.proofs.Common.{ℕ, ◌-◌, ap, ◌∙◌, arith, subst}
use Rattle.std.specs.List.{Contains}
use Rattle.fmp_base.specs.declared.systems.InterruptConfig.{InterruptConfig}
use Rattle.fmp_base.specs.Systems.{tables_of}
use Rattle.fmp_fields.specs.declared.field.What.TheVariants as what
use Rattle.fmp_fields.specs.Listing.{AreAmong}
use Rattle.fmp_fields.proofs.Lists.{among-more, interrupts-added, pushed}
use Rattle.fmp_fields.proofs.Places.{each-more, read-at}
use Rattle.fmp_fields.proofs.listing.add_interrupts.Goals as goal

pub loop-handler-preserved : goal.loop-handler-preserved
loop-handler-preserved c =
    let xs = c.args.sys.now.interrupts.items in
    let i = c.loop-handler.handler-index in
    let before = c.loop-handler.fields.items in
    let after = c.push.new.self.items in
    let kept : AreAmong before after = among-more before after _ c.in_ok-push.ensures.items in
    record {
      kept = λ f there. kept f (c.loop-handler.invariant.kept f there);
      added = each-more (λ (h : InterruptConfig). Contains before (what.PendingInterrupt (h.number - 1)))
          (λ (h : InterruptConfig). Contains after (what.PendingInterrupt (h.number - 1))) xs i
          c.loop-handler.invariant.added
          (λ h there. kept (what.PendingInterrupt (h.number - 1)) there)
          (λ h at.
          subst (λ (n : ℕ). Contains after (what.PendingInterrupt n))
          (c.saturating_sub.ensures ∙ ap (λ (z : InterruptConfig). z.number - 1)
          (read-at c.deref-handler-items.result.now xs i _ h c.deref-handler-items.ensures.value at))
          (pushed before after _ c.in_ok-push.ensures.items));
    }

pub returns-clause-added : goal.returns-clause-added
returns-clause-added c =
    interrupts-added (tables_of c.args.sys.now) c.loop-handler.fields.items
    (λ k h lt e. c.loop-handler.invariant.added k h (omega (arith, lt, c.loop-handler-test.false)) e)
