use Rattle.std.proofs.Common.{◌≡◌, map, take}
use Rattle.std.specs.List.{flat_map}
use Rattle.fmp_cfgparse.specs.Trees.{class_view}
use Rattle.fmp_image.specs.Entries.{class_uses}
use Rattle.fmp_image.proofs.entries.entry_uses.Given as goal

abbrev pub invariant-loop-class : goal.invariant-loop-class
invariant-loop-class l =
    l.uses.items ≡ flat_map class_uses (map class_view (take l.class-index l.tree.classes.items))
