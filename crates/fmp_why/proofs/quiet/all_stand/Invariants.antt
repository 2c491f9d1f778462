use Rattle.std.proofs.Common.{◌≡◌, drop}
use Rattle.std.specs.List.{list_all}
use Rattle.std.specs.Prelude.{zip}
use Rattle.fmp_why.specs.Reports.{stands}
use Rattle.fmp_why.proofs.quiet.all_stand.Given as goal

abbrev pub invariant-loop-cpu : goal.invariant-loop-cpu
invariant-loop-cpu l =
    list_all stands (zip (drop l.cpu-index l.processors) l.rest) ≡ list_all stands (zip l.processors l.spins)
