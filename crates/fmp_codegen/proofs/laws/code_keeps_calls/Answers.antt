use Rattle.std.proofs.Common.{sym, ◌∙◌}
use Rattle.fmp_codegen.proofs.TokenCalls.{tokens_name}
use Rattle.fmp_codegen.proofs.TreeCalls.{bodies_keep, body_keeps}
use Rattle.fmp_codegen.proofs.laws.code_keeps_calls.Goals as goal

pub returns : goal.returns
returns c = record {
  tree = body_keeps;
  tokens = λ tables ts bodies whole. bodies_keep tables bodies ∙ sym (tokens_name ts bodies whole);
}
