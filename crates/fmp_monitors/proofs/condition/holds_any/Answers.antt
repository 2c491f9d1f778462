use Rattle.fmp_monitors.proofs.ConditionLaws.{on_first}
use Rattle.fmp_monitors.proofs.condition.holds_any.Goals as goal

pub loop-test-init : goal.loop-test-init
loop-test-init c = on_first c.args.tests.now c.args.state.now.state
