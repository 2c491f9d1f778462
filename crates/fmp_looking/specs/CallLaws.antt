-- What is forbidden at calls, along a run of a kernel.
use Rattle.std.specs.Prelude.{List, [], ◌∷◌, Bool, false, ◌||◌}
use Rattle.std.specs.List.{list_any}
use Rattle.fmp_base.specs.declared.events.Event.{Event}
use Rattle.fmp_base.specs.Steps.{Reaction, Nothing, Did, Kept}
use Rattle.fmp_base.specs.Systems.{SystemTables}
use Rattle.fmp_instructions.specs.declared.instructions.MachineContext.{MachineContext}
use Rattle.fmp_instructions.specs.Instructions.{BodyTables}
use Rattle.fmp_instructions.specs.Machine.{code_meaning}
use Rattle.fmp_kernel.specs.Comings.{reaction_of}
use Rattle.fmp_kernel.specs.KernelViews.{KernelView, view_after}
use Rattle.fmp_question.specs.declared.question.NeverAt.{NeverAt}
use Rattle.fmp_question.specs.Sites.{forbids_there}

-- a line of an event that does this tells what a search forbids
abbrev pub forbids_in : SystemTables → List NeverAt → Reaction MachineContext → Bool
forbids_in sys nevers Nothing = false
forbids_in sys nevers (Did d) = list_any (forbids_there sys nevers d.world) d.lines
forbids_in sys nevers (Kept p w) = false

-- a line of one of these events does
abbrev pub forbids_along : SystemTables → List NeverAt → KernelView (List BodyTables) MachineContext → List Event → Bool
forbids_along sys nevers k [] = false
forbids_along sys nevers k (e ∷ es) =
    forbids_in sys nevers (reaction_of code_meaning k e)
    || forbids_along sys nevers (view_after k (reaction_of code_meaning k e)) es
