use Rattle.std.proofs.Common.{◌≡◌, ℕ, ◌+◌, ◌++◌, length, map, take}
use Rattle.std.specs.Prelude.{get_or, pos}
use Rattle.std.specs.List.{range_with_len}
use Rattle.fmp_live.specs.Zeroed.{zeroed_by}
use Rattle.fmp_reachable.specs.Numbers.{unsigned}
use Rattle.fmp_fields.proofs.piece_values.write_locals.Given as goal

abbrev pub invariant-loop-l : goal.invariant-loop-l
invariant-loop-l g =
    record {
      long : length g.values ≡ length g.fn.values;
      told :
          take (g.at + g.l) g.values
          ≡ take g.at g.fn.values
          ++ map (λ (l : ℕ). unsigned (get_or (zeroed_by g.row g.locals) l (pos 0))) (range_with_len 0 g.l);
    }
