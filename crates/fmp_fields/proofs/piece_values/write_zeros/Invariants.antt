use Rattle.std.proofs.Common.{◌≡◌, ℕ, ◌+◌, ◌++◌, length, map, take}
use Rattle.std.specs.List.{range_with_len}
use Rattle.fmp_fields.proofs.piece_values.write_zeros.Given as goal

abbrev pub invariant-loop-field : goal.invariant-loop-field
invariant-loop-field g =
    record {
      long : length g.values ≡ length g.fn.values;
      told : take (g.at + g.field) g.values ≡ take g.at g.fn.values ++ map (λ (n : ℕ). 0) (range_with_len 0 g.field);
    }
