-- What the program says on standard error.
use Rattle.std.specs.Prelude.{ℕ, List, [], ◌∷◌, Option, ◌++◌, codes, decimal}
use Rattle.fmp_engine.specs.Messages.{host_message, sim_message}
use Rattle.fmp_files.specs.Deeds.{Deed, Does, said}
use Rattle.fmp_files.specs.Messages.{failure_message}
use Rattle.fmp_lex.specs.Messages.{build_message}
use Rattle.fmp.specs.declared.perform.Exit.{Exit}
use Rattle.fmp.specs.declared.perform.Exit.TheVariants.{Build, Sim, Host, Failed}
use Rattle.fmp.specs.declared.progress.Arrivals.{Arrivals}

-- why it ends with nothing printed
abbrev pub exit_message : Exit → List ℕ
exit_message (Build fault) = build_message fault
exit_message (Sim fault) = sim_message fault
exit_message (Host fault) = host_message fault
exit_message (Failed failure) = failure_message failure

-- the same as a line
abbrev pub exit_line : Exit → List ℕ
exit_line exit = exit_message exit ++ codes "\n"

-- why it ends was said, in one line
abbrev pub SaysExit : Exit → (before after : Option (List Deed)) → Type 0
SaysExit exit before after = Does before (said (exit_line exit) ∷ []) after

-- what came of a host, in one line
abbrev pub arrivals_line : Arrivals → List ℕ
arrivals_line arrivals =
    let events = arrivals.events in
    codes "ticks " ++ (decimal events.ticks ++ (codes ", interrupts " ++ (decimal events.interrupts
    ++ (codes ", runs " ++ (decimal events.runs ++ (codes ", lines " ++ (decimal arrivals.lines ++ codes "\n")))))))
