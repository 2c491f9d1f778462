use Rattle.std.proofs.Common.{◌+◌}
use Rattle.fmp_lex.specs.Reading.{kinds_of}
use Rattle.fmp_lex.proofs.Answered.{answers_as}
use Rattle.fmp_tasklang.specs.Reading.{called_view, RightArguments, RightCall}
use Rattle.fmp_tasklang.specs.Calls.{call_parts}
use Rattle.fmp_tasklang.proofs.Arguments.{call_as}
use Rattle.fmp_tasklang.proofs.calls.call.Goals as goal

pub returns-clause-reads : goal.returns-clause-reads
returns-clause-reads c =
    let ts = kinds_of c.args.tokens.now in
    let d = c.args.depth in
    let i = c.args.at in
    let s = c.args.service in
    let passed = rw c.parts_of.ensures at c.arguments.ensures.reads in
    answers_as called_view c.arguments.result (RightArguments ts d s (call_parts s) (i + 1)) (RightCall ts d i)
    (λ o x. call_as d ts i s c.requires.first o x) passed
