use Rattle.std.proofs.Common.{◌≡◌, ◌++◌, ◌∷◌, [], map}
use Rattle.std.proofs.lemmas.List.{map_push}
use Rattle.std.proofs.lemmas.Result.{err_from_is_err_and}
use Rattle.fmp_instructions.specs.Instructions.{body_tables}
use Rattle.fmp_image_bytes.specs.Bodies.{body_at}
use Rattle.fmp_image_bytes.specs.Pairs.{pairs_at}
use Rattle.fmp_image_bytes.proofs.PairLoops.{goes_on, ends, is_done}
use Rattle.fmp_image_bytes.proofs.bodies.read_some_bodies.Goals as goal

pub returns-in_err-head : goal.returns-in_err-head
returns-in_err-head c =
    let p = err_from_is_err_and c.from_residual.result c.from_residual.ensures.1 in
    rw (p.1, p.2) (ends (body_at c.args.version) c.loop.heads.items (map body_tables c.loop.bodies.items) c.args.count
    c.loop.counter
    c.loop.rest.now (pairs_at (body_at c.args.version) c.args.count c.args.bytes.now) c.in_err-head.field-0.0
    c.loop-test.true
    c.in_err-head.ensures c.loop.invariant)

pub loop-preserved : goal.loop-preserved
loop-preserved c =
    let more : map body_tables c.push-in-loop.new.self.items
    ≡ map body_tables c.loop.bodies.items ++ body_tables c.in_ok-head.body ∷ [] =
    rw c.in_ok-push-2.ensures.items (map_push body_tables c.loop.bodies.items c.in_ok-head.body) in
    rw (c.in_ok-push.ensures.items, more)
    (goes_on (body_at c.args.version) c.loop.heads.items (map body_tables c.loop.bodies.items) c.args.count
    c.loop.counter
    c.loop.rest.now (pairs_at (body_at c.args.version) c.args.count c.args.bytes.now) c.in_ok-head.head
    (body_tables c.in_ok-head.body) c.in_ok-head.after.now c.loop-test.true c.in_ok-head.ensures c.loop.invariant)

pub returns : goal.returns
returns c =
    is_done (body_at c.args.version) c.loop.heads.items (map body_tables c.loop.bodies.items) c.args.count
    c.loop.counter c.loop.rest.now
    (pairs_at (body_at c.args.version) c.args.count c.args.bytes.now) c.loop-test.false c.loop.invariant
