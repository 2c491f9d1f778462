use Rattle.json.specs.Value.{value_view}
use Rattle.fmp_server.proofs.LastItem.{last_view}
use Rattle.fmp_server.proofs.parameters.last_of.Goals as goal

pub returns : goal.returns
returns c = last_view value_view c.args.items.now c.last.result c.last.ensures.value
