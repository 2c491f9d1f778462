use Rattle.std.proofs.Common.{◌≡◌, drop, map}
use Rattle.fmp_cfgparse.specs.Trees.{field_view}
use Rattle.fmp_cfgparse.specs.Values.{all_known}
use Rattle.fmp_cfgparse.proofs.values.all_known.Given as goal

abbrev pub invariant-loop-field : goal.invariant-loop-field
invariant-loop-field l = all_known (map field_view (drop l.field-index l.fields)) ≡ all_known (map field_view l.fields)
