use Rattle.std.proofs.Common.{◌≡◌, drop}
use Rattle.fmp_arguments.specs.Settings.{kind_of}
use Rattle.fmp_arguments.proofs.keys.kind_of.Given as goal

abbrev pub invariant-loop-key : goal.invariant-loop-key
invariant-loop-key l = kind_of (drop l.key-index l.keys) l.name ≡ kind_of l.keys l.name
