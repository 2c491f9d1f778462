use Rattle.std.proofs.Common.{◌≡◌, ◌++◌, ◌-◌, map}
use Rattle.fmp_image_bytes.specs.ImageContexts.{rows_context}
use Rattle.fmp_image_bytes.specs.Tables.{rows_at}
use Rattle.fmp_image_bytes.proofs.RowLoops.{with_front}
use Rattle.fmp_image_bytes.proofs.rows.read_rows.Given as goal

abbrev pub invariant-loop : goal.invariant-loop
invariant-loop g l =
    let row = g.R.Row.field (rows_context l.context) in
    let key_of = g.R.Row.key_of in
    record {
      so_far : with_front l.rows.items (rows_at row key_of (l.count - l.counter) l.taken.keys l.rest)
          ≡ rows_at row key_of l.count l.fn.taken.keys l.bytes;
      taken : l.taken.keys ≡ l.fn.taken.keys ++ map key_of l.rows.items;
    }
