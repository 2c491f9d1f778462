use Rattle.std.proofs.Common.{ℕ, ◌<◌}
use Rattle.std.specs.List.{Contains}
use Rattle.fmp_fields.specs.declared.field.What.{What}
use Rattle.fmp_fields.specs.Listing.{AreAmong}
use Rattle.fmp_fields.proofs.listing.add_each.Given as goal

abbrev pub invariant-loop-place : goal.invariant-loop-place
invariant-loop-place g l =
    record {
      kept : AreAmong l.fn.fields.items l.fields.items;
      added : (i : ℕ) → i < l.place → (f : What) × goal.F-post g l.field i f × Contains l.fields.items f;
    }
