use Rattle.std.proofs.Common.{◌≡◌, ◌++◌, ◌∷◌, [], length, take}
use Rattle.std.specs.List.{flat_map}
use Rattle.fmp_image_bytes.proofs.rows.put_table.Given as goal

abbrev pub invariant-loop-row : goal.invariant-loop-row
invariant-loop-row g l =
    l.out.items ≡ (l.fn.out.items ++ length l.rows ∷ []) ++ flat_map g.R.Row.spelled (take l.row-index l.rows)
