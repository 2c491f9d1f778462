use Rattle.std.proofs.Common.{◌≡◌, arith, subst, ℕ}
use Rattle.fmp_frames.specs.Frames as spec
use Rattle.fmp_frames.proofs.EachLemmas.{each-more}
use Rattle.fmp_frames.proofs.reading.each.Goals as goal

pub loop-i-init : goal.loop-i-init
loop-i-init g c = λ f h. c.in_ok-xs.ensures.items

pub loop-i-preserved : goal.loop-i-preserved
loop-i-preserved g c = λ f h.
    each-more f _ _ _ _ (c.loop-i.invariant f h) c.in_ok-push.ensures.items
    (h c.loop-i.i c.read.result c.loop-i-test.true c.read.ensures)

pub returns : goal.returns
returns g c = λ f h.
    let ends : c.loop-i.i ≡ c.args.count = omega (arith, c.loop-i-test.false, c.loop-i.auto.i-end) in
    subst (λ (n : ℕ). c.loop-i.xs.items ≡ spec.each f n) ends (c.loop-i.invariant f h)
