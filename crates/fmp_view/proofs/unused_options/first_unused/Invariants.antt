use Rattle.std.proofs.Common.{◌≡◌, drop}
use Rattle.std.specs.Prelude.{find}
use Rattle.clap.specs.Words.{found_of, rows_of}
use Rattle.fmp_view.specs.UnusedOptions.{is_unused}
use Rattle.fmp_view.proofs.unused_options.first_unused.Given as goal

abbrev pub invariant-loop-unused : goal.invariant-loop-unused
invariant-loop-unused l =
    let test = is_unused l.command (rows_of (found_of l.words)) in
    find test (drop l.unused-index l.options) ≡ find test l.options
