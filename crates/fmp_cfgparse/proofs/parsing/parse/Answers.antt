use Rattle.std.proofs.Common.{◌≡◌, ◌≤◌, ◌<◌, ◌↔◌, ℕ, List, length, Err, Ok, inl, inr}
use Rattle.fmp_lex.specs.declared.token.TokenList.{TokenList}
use Rattle.std.proofs.lemmas.Bool.{cases_lt}
use Rattle.fmp_lex.specs.declared.token.TextFault.TheVariants as text_fault
use Rattle.fmp_lex.specs.Faults.{text_max}
use Rattle.fmp_cfgparse.proofs.Parses.{parse_stopped}
use Rattle.fmp_cfgparse.proofs.parsing.parse.Goals as goal

not_long : (text : List ℕ) (list : TokenList) → ((Ok list ≡ Err text_fault.TooLong) ↔ (text_max < length text))
    → length text ≤ text_max
not_long text list h = elim (cases_lt text_max (length text)) [
  | inl lt ↦ let e = h.1 lt in absurd (cc)
  | inr le ↦ le
]

pub returns-in-Ok : goal.returns-in-Ok
returns-in-Ok c =
    let text = c.args.text.now in
    let ts = c.in-Ok.list.tokens in
    let short : length text ≤ text_max = not_long text c.in-Ok.list c.in-Ok.ensures.too_long in
    let first = rw c.in-Err-Fault.field-0-is at c.in-Err-Fault.ensures in
    parse_stopped text ts c.in-Err-Fault.fault.at c.in-Ok.list.end c.in-Err-Fault.fault.why c.fault_at.result short
    c.in-Ok.ensures.cut first c.in-Ok.ensures.end c.fault_at.ensures
