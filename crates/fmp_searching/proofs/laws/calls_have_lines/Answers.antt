use Rattle.std.proofs.Common.{◌∙◌, ap, map}
use Rattle.fmp_codegen.specs.Calls.{body_calls}
use Rattle.fmp_image_bytes.specs.Images.{ImageTables}
use Rattle.fmp_lex.specs.Reading.{kinds_of}
use Rattle.fmp_searching.proofs.TextCalls.{lines_are, services_of_text}
use Rattle.fmp_searching.proofs.laws.calls_have_lines.Goals as goal

pub returns : goal.returns
returns c = λ cfg src i b bodies are.
    let tables = b.configuration.making.tables in
    let ts = b.tasks.tokens in (
      ap (λ (x : ImageTables). map body_calls x.code) b.image
          ∙ c.code_keeps_calls.ensures.tokens tables (kinds_of ts) b.tasks.bodies b.tasks.spelled.2
          ∙ services_of_text ts,
      lines_are src ts bodies b.tasks.spelled.0 b.tasks.spelled.1 are,
    )
