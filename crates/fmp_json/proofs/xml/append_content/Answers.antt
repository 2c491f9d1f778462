use Rattle.fmp_json.proofs.Plain.{content_text_plain}
use Rattle.fmp_json.specs.Xml.{fit}
use Rattle.fmp_json.proofs.xml.append_content.Goals as goal

pub returns-clause-plain : goal.returns-clause-plain
returns-clause-plain c = content_text_plain (fit c.args.text.now)

pub returns-in_err-append_content_byte-clause-plain : goal.returns-in_err-append_content_byte-clause-plain
returns-in_err-append_content_byte-clause-plain c = content_text_plain (fit c.args.text.now)
