use Rattle.std.proofs.Common.{◌≡◌, drop, map}
use Rattle.fmp_cfgparse.specs.Configuring.{walk_apis}
use Rattle.fmp_cfgparse.specs.Making.{making_of}
use Rattle.fmp_cfgparse.specs.Trees.{api_view}
use Rattle.fmp_cfgparse.proofs.configuring.add_apis.Given as goal

abbrev pub invariant-loop-api : goal.invariant-loop-api
invariant-loop-api l =
    walk_apis l.class (map api_view (drop l.api-index l.apis)) (making_of l.making)
    ≡ walk_apis l.class (map api_view l.apis) (making_of l.initial.making)
