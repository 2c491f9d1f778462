use Rattle.std.proofs.Common.{◌≡◌, ◌++◌, map, take}
use Rattle.std.specs.List.{flat_map}
use Rattle.fmp_cfgparse.specs.Trees.{api_view}
use Rattle.fmp_image.specs.Entries.{api_uses}
use Rattle.fmp_image.proofs.entries.add_class.Given as goal

abbrev pub invariant-loop-api : goal.invariant-loop-api
invariant-loop-api l =
    l.uses.items ≡ l.initial.uses.items ++ flat_map api_uses (map api_view (take l.api-index l.class.apis.items))
