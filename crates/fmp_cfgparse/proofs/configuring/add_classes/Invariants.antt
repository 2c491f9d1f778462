use Rattle.std.proofs.Common.{◌≡◌, drop, map}
use Rattle.fmp_cfgparse.specs.Configuring.{walk_classes}
use Rattle.fmp_cfgparse.specs.Making.{making_of}
use Rattle.fmp_cfgparse.specs.Trees.{class_view}
use Rattle.fmp_cfgparse.proofs.configuring.add_classes.Given as goal

abbrev pub invariant-loop-class : goal.invariant-loop-class
invariant-loop-class l =
    walk_classes l.processors (map class_view (drop l.class-index l.classes)) (making_of l.making)
    ≡ walk_classes l.processors (map class_view l.classes) (making_of l.initial.making)
