use Rattle.std.proofs.Common.{◌≡◌, map, take}
use Rattle.fmp_image.specs.Building.{head_of}
use Rattle.fmp_image.proofs.heads.built_heads.Given as goal

abbrev pub invariant-loop-heading : goal.invariant-loop-heading
invariant-loop-heading l = l.heads.items ≡ map head_of (take l.heading-index l.headings)
