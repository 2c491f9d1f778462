use Rattle.std.proofs.Common.{◌≡◌, [], None, Option, Bor, ap, sym, ◌∙◌}
use Rattle.std.specs.Option.{option_copied}
use Rattle.fmp_fields.specs.Reading.{with_zeros}
use Rattle.fmp_fields.proofs.ZeroedBodies.{none_zeroed}
use Rattle.fmp_instructions.specs.declared.instructions.MachineContext.{MachineContext}
use Rattle.fmp_live.specs.LiveLocals.{live_tables}
use Rattle.fmp_fields.proofs.body_values.row_of.Goals as goal

pub returns-in-None : goal.returns-in-None
returns-in-None g c =
    let kernel = c.args.kernel.now in
    let none : option_copied c.args.context ≡ None =
    ap (λ (x : Option (Bor MachineContext)). option_copied x) c.in-None.is in
    ap (λ (x : Option MachineContext). with_zeros [] x) none
    ∙ none_zeroed kernel.system (live_tables c.args.live.now) kernel.world c.args.owner (sym c.requires.value ∙ none)
