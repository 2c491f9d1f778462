use Rattle.std.proofs.Common.{ℕ, ◌<◌}
use Rattle.std.specs.List.{Contains}
use Rattle.fmp_fields.specs.declared.field.What.TheVariants as what
use Rattle.fmp_fields.specs.Listing.{AreAmong}
use Rattle.fmp_fields.proofs.listing.add_cyclics.Given as goal

abbrev pub invariant-loop-c : goal.invariant-loop-c
invariant-loop-c l =
    record {
      kept : AreAmong l.fn.fields.items l.fields.items;
      ticks : (c : ℕ) → c < l.c → Contains l.fields.items (what.TicksToDue c);
      pending : (c : ℕ) → c < l.c → Contains l.fields.items (what.PendingCyclic c);
    }
