use Rattle.fmp_instructions.specs.Instructions.{code_tables}
use Rattle.std.proofs.Common.{slice_get}
use Rattle.fmp_searching.proofs.Bodies.{sized_by}
use Rattle.fmp_searching.proofs.sites.CallLines.add_calls.Goals as goal

pub call_positions-requires : goal.call_positions-requires
call_positions-requires c =
    sized_by (slice_get (code_tables c.args.code.now) c.args.body) _ c.in-Some.ensures
    (c.requires.instructions c.args.body)
