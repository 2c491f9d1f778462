use Rattle.std.proofs.Common.{◌+◌, List, drop, drop-cons, add-one, subst}
use Rattle.fmp_base.specs.declared.events.Line.{Line}
use Rattle.fmp_kernel.proofs.CountLemmas.{Rising, rising_all, rising_few, rising_first, rising_on}
use Rattle.fmp_kernel.proofs.stamps.Stamps.count_lines.Goals as goal

pub loop-line-init : goal.loop-line-init
loop-line-init c = rising_first c.args.self.now c.args.ran c.args.lines.now

pub loop-line-preserved : goal.loop-line-preserved
loop-line-preserved c =
    rw c.count_line.ensures
    (rising_on c.args.self.now c.loop-line.self c.args.ran c.args.lines.now _
    (drop (c.loop-line.line-index + 1) c.args.lines.now)
    (subst (λ (xs : List Line). Rising c.args.self.now c.loop-line.self c.args.ran c.args.lines.now xs)
    (rw add-one (drop-cons c.args.lines.now c.loop-line.line-index _ c.loop-line-test.true)) c.loop-line.invariant))

pub count_line-requires : goal.count_line-requires
count_line-requires c =
    rising_few c.args.self.now c.loop-line.self c.args.ran c.args.lines.now _ c.loop-line.invariant c.requires.few
    c.requires.short

pub returns : goal.returns
returns c =
    rising_all c.args.self.now c.loop-line.self c.args.ran c.args.lines.now c.loop-line.line-index
    c.loop-line-test.false c.loop-line.invariant
