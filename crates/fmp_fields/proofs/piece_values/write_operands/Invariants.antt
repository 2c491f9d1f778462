use Rattle.std.proofs.Common.{◌≡◌, ℕ, ◌+◌, ◌++◌, length, map, take}
use Rattle.std.specs.Prelude.{get_or, pos}
use Rattle.std.specs.List.{range_with_len}
use Rattle.fmp_reachable.specs.Numbers.{unsigned}
use Rattle.fmp_fields.proofs.piece_values.write_operands.Given as goal

abbrev pub invariant-loop-i : goal.invariant-loop-i
invariant-loop-i g =
    record {
      long : length g.values ≡ length g.fn.values;
      told :
          take (g.at + g.i) g.values
          ≡ take g.at g.fn.values
          ++ map (λ (i : ℕ). unsigned (get_or g.operands i (pos 0))) (range_with_len 0 g.i);
    }
