use Rattle.std.proofs.Common.{◌∙◌, sym, true≢false}
use Rattle.fmp_view.proofs.FormLemmas.{by_memory, memory_refused, otherwise_refused, parse_names}
use Rattle.fmp_view.proofs.parsing.parsed.Goals as goal

pub returns-in_err-plain_program-clause-refused : goal.returns-in_err-plain_program-clause-refused
returns-in_err-plain_program-clause-refused c = memory_refused _ c.from_residual.result c.from_residual.ensures.1

pub returns-in-Ok-clause-entered : goal.returns-in-Ok-clause-entered
returns-in-Ok-clause-entered c = parse_names _ _ _ c.in_ok-plain_program.ensures c.in-Ok.ensures.matches

pub returns-in-Err-clause-refused : goal.returns-in-Err-clause-refused
returns-in-Err-clause-refused c = by_memory _ _ (c.is_memory.ensures.0 c.if-is_memory.true)

pub returns-in-Err-2-clause-refused : goal.returns-in-Err-2-clause-refused
returns-in-Err-2-clause-refused c =
    otherwise_refused _ _ _ c.parsed_with_numbers.result c.in_ok-plain_program.ensures c.in-Err.ensures.passes
    (λ is. true≢false (sym (c.is_memory.ensures.1 is) ∙ c.if-is_memory.false))
