use Rattle.std.proofs.Common.{◌≡◌, ◌++◌, ◌∷◌, [], false, true, map, append_assoc, rules}
use Rattle.std.proofs.lemmas.List.{map_push}
use Rattle.std.proofs.lemmas.Result.{err_from_is_err_and}
use Rattle.fmp_image_bytes.specs.Keys.{is_taken}
use Rattle.fmp_image_bytes.specs.ImageContexts.{rows_context}
use Rattle.fmp_image_bytes.specs.Tables.{rows_at}
use Rattle.fmp_image_bytes.proofs.RowLoops.{goes_on, ends, stands, is_done}
use Rattle.fmp_image_bytes.proofs.rows.read_rows.Goals as goal

pub returns-in_err-row-clause-read : goal.returns-in_err-row-clause-read
returns-in_err-row-clause-read g c =
    let p = err_from_is_err_and c.from_residual.result c.from_residual.ensures.1 in
    let row = g.R.Row.field (rows_context c.args.context) in
    rw (p.1, p.2) (ends row g.R.Row.key_of c.loop.rows.items c.args.count c.loop.counter c.loop.taken.keys
    c.loop.rest.now (rows_at row g.R.Row.key_of c.args.count c.args.taken.now.keys c.args.bytes.now)
    c.in_err-row.field-0.0 c.loop-test.true c.in_err-row.ensures c.loop.invariant.so_far)

pub returns-then-is_taken-clause-read : goal.returns-then-is_taken-clause-read
returns-then-is_taken-clause-read g c =
    let row = g.R.Row.field (rows_context c.args.context) in
    let there : is_taken (g.R.Row.key_of c.in_ok-row.row) c.loop.taken.keys ≡ true = search rules in
    stands row g.R.Row.key_of c.loop.rows.items c.args.count c.loop.counter c.loop.taken.keys c.loop.rest.now
    (rows_at row g.R.Row.key_of c.args.count c.args.taken.now.keys c.args.bytes.now) c.in_ok-row.row
    c.in_ok-row.after.now c.loop-test.true c.in_ok-row.ensures there c.loop.invariant.so_far

pub loop-preserved : goal.loop-preserved
loop-preserved g c =
    let row = g.R.Row.field (rows_context c.args.context) in
    let key_of = g.R.Row.key_of in
    let a = c.in_ok-row.row in
    let free : is_taken (key_of a) c.loop.taken.keys ≡ false = search rules in
    let rows_are : c.push.new.self.items ≡ c.loop.rows.items ++ a ∷ [] = c.in_ok-push.ensures.items in
    let taken_are : c.take.new.taken.keys ≡ c.loop.taken.keys ++ key_of a ∷ [] = search rules in
    record {
      so_far = rw (rows_are, taken_are) (goes_on row key_of c.loop.rows.items c.args.count c.loop.counter
          c.loop.taken.keys
          c.loop.rest.now (rows_at row key_of c.args.count c.args.taken.now.keys c.args.bytes.now) a
          c.in_ok-row.after.now
          c.loop-test.true c.in_ok-row.ensures free c.loop.invariant.so_far);
      taken = rw (rows_are, taken_are, c.loop.invariant.taken, map_push key_of c.loop.rows.items a)
          (append_assoc c.args.taken.now.keys (map key_of c.loop.rows.items) (key_of a ∷ []));
    }

pub returns-clause-read : goal.returns-clause-read
returns-clause-read g c =
    let row = g.R.Row.field (rows_context c.args.context) in
    is_done row g.R.Row.key_of c.loop.rows.items c.args.count c.loop.counter c.loop.taken.keys c.loop.rest.now
    (rows_at row g.R.Row.key_of c.args.count c.args.taken.now.keys c.args.bytes.now) c.loop-test.false
    c.loop.invariant.so_far
