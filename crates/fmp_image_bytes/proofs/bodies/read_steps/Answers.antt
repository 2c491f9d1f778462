use Rattle.std.proofs.Common.{◌≡◌, ◌*◌, false, true, drop, refl, arith}
use Rattle.std.proofs.lemmas.List.{take_rest}
use Rattle.fmp_image_bytes.specs.Bodies.{step_at}
use Rattle.fmp_image_bytes.proofs.KeptCode.{goes, stops, done}
use Rattle.fmp_image_bytes.proofs.bodies.read_steps.Goals as goal

pub returns-then-not-push_step : goal.returns-then-not-push_step
returns-then-not-push_step c =
    let position = c.loop-position.position in
    let rest = take_rest c.args.bytes.now (6 * position) in
    let pushed = rw rest at c.push_step.ensures.pushed in
    let refused = rw rest at c.push_step.ensures.refused in
    let declined : c.push_step.result ≡ false = c.if-not-push_step.true in
    stops c.args.version c.args.locals c.args.bytes.now c.args.depths.now position c.loop-position.instructions.items
    c.push_step.new.instructions.items
    c.push_step.result c.loop-position-test.true (step_at c.args.version (drop (6 * position) c.args.bytes.now)) refl
    declined pushed refused
    c.requires.bytes c.requires.depths c.loop-position.invariant.so_far

pub loop-position-preserved : goal.loop-position-preserved
loop-position-preserved c =
    let position = c.loop-position.position in
    let rest = take_rest c.args.bytes.now (6 * position) in
    let pushed = rw rest at c.push_step.ensures.pushed in
    let refused = rw rest at c.push_step.ensures.refused in
    let accepted : c.push_step.result ≡ true = c.if-not-push_step.false in
    record {
      so_far =
          goes c.args.version c.args.locals c.args.bytes.now c.args.depths.now position
          c.loop-position.instructions.items c.push_step.new.instructions.items
          c.push_step.result c.loop-position-test.true
          (step_at c.args.version (drop (6 * position) c.args.bytes.now)) refl
          accepted pushed refused
          c.loop-position.invariant.so_far;
      room = omega (
        arith,
        c.loop-position.invariant.room,
        c.loop-position-test.true,
        c.push_step.ensures.size,
        c.push_step.ensures.capacity,
      );
    }

pub returns : goal.returns
returns c =
    done c.args.version c.args.locals c.args.bytes.now c.args.depths.now c.loop-position.position
    c.loop-position.instructions.items
    (omega (arith, c.loop-position.auto.position-end, c.loop-position-test.false)) c.requires.size c.requires.first
    c.loop-position.invariant.so_far
