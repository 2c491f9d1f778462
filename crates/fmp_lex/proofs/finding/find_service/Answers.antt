use Rattle.std.proofs.Common.{rules, ◌≡◌, Some, None}
use Rattle.fmp_base.specs.Services.{service_name}
use Rattle.fmp_lex.proofs.Placed.{no_service, other_service, this_service}
use Rattle.fmp_lex.proofs.finding.find_service.Goals as goal

pub returns-in_default : goal.returns-in_default
returns-in_default c =
    let none : c.service_in.result ≡ None = search rules in
    no_service c.args.bytes.now c.service_in.result c.service_in.ensures none

pub returns-then-is_text : goal.returns-then-is_text
returns-then-is_text c =
    let same : c.args.bytes.now ≡ service_name c.in-Some.service = search rules in
    this_service c.args.bytes.now c.in-Some.service same

pub returns-else-is_text : goal.returns-else-is_text
returns-else-is_text c =
    let may : c.service_in.result ≡ Some c.in-Some.service = search rules in
    other_service c.args.bytes.now c.service_in.result c.in-Some.service c.service_in.ensures may (λ e. search rules)
