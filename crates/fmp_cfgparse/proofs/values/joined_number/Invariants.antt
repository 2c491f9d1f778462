use Rattle.std.proofs.Common.{◌≡◌, drop}
use Rattle.fmp_cfgparse.specs.Values.{joined_items, value_number}
use Rattle.fmp_cfgparse.proofs.values.joined_number.Given as goal

abbrev pub invariant-loop-item : goal.invariant-loop-item
invariant-loop-item l = joined_items l.number (drop l.item-index l.items) ≡ value_number l.items
