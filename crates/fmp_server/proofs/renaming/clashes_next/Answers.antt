use Rattle.std.proofs.Common.{◌∙◌, sym}
use Rattle.fmp_lex.specs.Reading.{kinds_of}
use Rattle.fmp_server.proofs.Clashes.{used_more, used_none}
use Rattle.fmp_server.proofs.renaming.clashes_next.Goals as goal

pub returns-in-Some : goal.returns-in-Some
returns-in-Some c =
    used_more c.args.walk.now c.take.new.self c.args.role (kinds_of c.args.tokens.now) c.args.at c.in-Some.kind
    c.clashes-clashes.result (sym c.kind.ensures.value ∙ c.in-Some.is) c.take.ensures c.clashes-clashes.ensures

pub returns-in-None : goal.returns-in-None
returns-in-None c =
    used_none c.args.walk.now c.args.role (kinds_of c.args.tokens.now) c.args.at
    (sym c.kind.ensures.value ∙ c.in-None.is)
