use Rattle.fmp_json.proofs.Plain.{escaped_plain}
use Rattle.fmp_json.specs.Xml.{fit}
use Rattle.fmp_json.proofs.xml.append_escaped.Goals as goal

pub returns-clause-plain : goal.returns-clause-plain
returns-clause-plain c = escaped_plain (fit c.args.text.now)

pub returns-in_err-append_byte-clause-plain : goal.returns-in_err-append_byte-clause-plain
returns-in_err-append_byte-clause-plain c = escaped_plain (fit c.args.text.now)
