use Rattle.std.proofs.Common.{◌≡◌, ◌≤◌, ◌<◌, ◌↔◌, ◌∙◌, ap, ℕ, List, length, slice_get, Err, Ok, inl, inr}
use Rattle.std.proofs.lemmas.Bool.{cases_lt}
use Rattle.fmp_lex.specs.declared.fault.BuildFault.{BuildFault}
use Rattle.fmp_lex.specs.declared.fault.BuildFault.TheVariants as build
use Rattle.fmp_lex.specs.declared.fault.TextFile.TheVariants as file
use Rattle.fmp_lex.specs.declared.reading.GrammarFault.{GrammarFault}
use Rattle.fmp_lex.specs.declared.token.Token.{Token}
use Rattle.fmp_lex.specs.declared.token.TokenList.{TokenList}
use Rattle.fmp_lex.specs.declared.token.TextFault.TheVariants as text_fault
use Rattle.fmp_lex.specs.declared.position.TokenPosition.{TokenPosition}
use Rattle.fmp_lex.specs.Cutting.{Cuts}
use Rattle.fmp_lex.specs.Faults.{text_max, fault_of, IsSyntaxFault}
use Rattle.fmp_lex.specs.Positions.{text_end}
use Rattle.fmp_lex.specs.Reading.{kinds_of, IsFirstFault}
use Rattle.fmp_tasklang.specs.Grammar.{Bodies}
use Rattle.fmp_tasklang.specs.Reading.{IsRead}
use Rattle.fmp_tasklang.specs.Views.{program_view}
use Rattle.fmp_tasklang.proofs.CallForms.{calls_fit}
use Rattle.fmp_tasklang.proofs.reading.read_tasks.Goals as goal

not_long : (text : List ℕ) (list : TokenList) → ((Ok list ≡ Err text_fault.TooLong) ↔ (text_max < length text))
    → length text ≤ text_max
not_long text list h = elim (cases_lt text_max (length text)) [
  | inl lt ↦ let e = h.1 lt in absurd (cc)
  | inr le ↦ le
]

is_read : (text : List ℕ) (f : BuildFault) → IsSyntaxFault file.Source Bodies text f → IsRead text (Err f)
is_read text build.Memory x = tt
is_read text (build.At f place why) x = x

read_stopped : (text : List ℕ) (ts : List Token) (j : ℕ) (end : TokenPosition) (why : GrammarFault) (f : BuildFault)
    → length text ≤ text_max → Cuts text 0 ts →
    IsFirstFault Bodies (kinds_of ts) j why → end ≡ text_end text → f ≡ fault_of file.Source end (slice_get ts j) why
    → IsRead text (Err f)
read_stopped text ts j end why f short cut first there is =
    is_read text f (inr (
      short,
      (
        ts,
        cut,
        j,
        why,
        first,
        is ∙ ap (λ p. fault_of file.Source p (slice_get ts j) why)
            there,
      ),
    ))

pub returns-in-Ok-clause-read : goal.returns-in-Ok-clause-read
returns-in-Ok-clause-read c =
    let text = c.args.text.now in
    let list = c.in-Ok.list in
    let short : length text ≤ text_max = not_long text list c.in-Ok.ensures.too_long in
    let first = rw c.in-Err-Fault.field-0-is at c.in-Err-Fault.ensures in
    read_stopped text list.tokens c.in-Err-Fault.fault.at list.end c.in-Err-Fault.fault.why c.fault_at.result short
    c.in-Ok.ensures.cut first c.in-Ok.ensures.end c.fault_at.ensures

pub returns-in-Ok-read_program-clause-calls : goal.returns-in-Ok-read_program-clause-calls
returns-in-Ok-read_program-clause-calls c =
    let tokens = c.in-Ok.list.tokens in
    let end = length (kinds_of tokens) in
    calls_fit (kinds_of tokens) end (program_view c.in-Ok-read_program.program) 0 end c.in-Ok-read_program.ensures.0
