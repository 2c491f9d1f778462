use Rattle.std.proofs.Common.{rules, ◌≡◌, Some, None}
use Rattle.fmp_base.specs.Words.{constant_name}
use Rattle.fmp_lex.proofs.Placed.{no_constant, other_constant, this_constant}
use Rattle.fmp_lex.proofs.finding.find_constant.Goals as goal

pub returns-in_default : goal.returns-in_default
returns-in_default c =
    let none : c.constant_in.result ≡ None = search rules in
    no_constant c.args.bytes.now c.constant_in.result c.constant_in.ensures none

pub returns-then-is_text : goal.returns-then-is_text
returns-then-is_text c =
    let same : c.args.bytes.now ≡ constant_name c.in-Some.constant = search rules in
    this_constant c.args.bytes.now c.in-Some.constant same

pub returns-else-is_text : goal.returns-else-is_text
returns-else-is_text c =
    let may : c.constant_in.result ≡ Some c.in-Some.constant = search rules in
    other_constant c.args.bytes.now c.constant_in.result c.in-Some.constant c.constant_in.ensures may
    (λ e. search rules)
