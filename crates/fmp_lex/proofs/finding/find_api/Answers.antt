use Rattle.std.proofs.Common.{rules, ◌≡◌, Some, None}
use Rattle.fmp_base.specs.Words.{api_name}
use Rattle.fmp_lex.proofs.Placed.{no_api, other_api, this_api}
use Rattle.fmp_lex.proofs.finding.find_api.Goals as goal

pub returns-in_default : goal.returns-in_default
returns-in_default c =
    let none : c.api_in.result ≡ None = search rules in
    no_api c.args.bytes.now c.api_in.result c.api_in.ensures none

pub returns-then-is_text : goal.returns-then-is_text
returns-then-is_text c =
    let same : c.args.bytes.now ≡ api_name c.in-Some.api = search rules in
    this_api c.args.bytes.now c.in-Some.api same

pub returns-else-is_text : goal.returns-else-is_text
returns-else-is_text c =
    let may : c.api_in.result ≡ Some c.in-Some.api = search rules in
    other_api c.args.bytes.now c.api_in.result c.in-Some.api c.api_in.ensures may (λ e. search rules)
