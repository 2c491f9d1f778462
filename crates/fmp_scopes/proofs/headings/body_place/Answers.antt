use Rattle.std.proofs.Common.{sym}
use Rattle.fmp_scopes.proofs.Headed.{place-headed}
use Rattle.fmp_scopes.proofs.headings.body_place.Goals as goal

pub returns-clause-place : goal.returns-clause-place
returns-clause-place c = λ bodies are. sym (place-headed c.args.headings.now bodies c.args.name.now c.place_in.result
    are c.place_in.ensures.place)
