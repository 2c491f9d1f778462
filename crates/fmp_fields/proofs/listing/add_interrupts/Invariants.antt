use Rattle.std.proofs.Common.{◌-◌}
use Rattle.std.specs.List.{Contains}
use Rattle.fmp_base.specs.declared.systems.InterruptConfig.{InterruptConfig}
use Rattle.fmp_fields.specs.declared.field.What.TheVariants as what
use Rattle.fmp_fields.specs.Listing.{AreAmong}
use Rattle.fmp_fields.proofs.listing.add_interrupts.Given as goal
use Rattle.fmp_fields.proofs.Places.{EachBefore}

abbrev pub invariant-loop-handler : goal.invariant-loop-handler
invariant-loop-handler l =
    record {
      kept : AreAmong l.fn.fields.items l.fields.items;
      added : EachBefore (λ (x : InterruptConfig). Contains l.fields.items (what.PendingInterrupt (x.number - 1)))
          l.fn.sys.interrupts.items l.handler-index;
    }
