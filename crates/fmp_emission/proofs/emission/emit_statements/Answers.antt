use Rattle.fmp_tasklang.specs.Views.{block_view}
use Rattle.fmp_scopes.specs.Scopes.{scope_view}
use Rattle.fmp_emission.proofs.BreakLemmas.{body-led}
use Rattle.fmp_emission.proofs.emission.emit_statements.Goals as goal

pub returns-clause-code : goal.returns-clause-code
returns-clause-code c =
    body-led (scope_view c.args.names.now) (block_view c.args.statements.now) c.args.end
    c.args.out.now.instructions.items
    c.emit_block.new.out.instructions.items c.end_breaks.new.out.instructions.items c.new-breaks.result.items
    c.emit_block.new.breaks.items c.requires.begun c.new-breaks.ensures.items c.requires.size
    c.in_ok-emit_block.ensures.code c.in_ok-emit_block.ensures.breaks c.end_breaks.ensures.code
