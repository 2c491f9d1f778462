use Rattle.std.proofs.Common.{◌≡◌, drop}
use Rattle.fmp_lex.specs.Reading.{kinds_of}
use Rattle.fmp_server.specs.Renaming.{is_used_from}
use Rattle.fmp_server.specs.Roles.{start_of}
use Rattle.fmp_server.proofs.renaming.is_used_in.Given as goal

abbrev pub invariant-loop-at : goal.invariant-loop-at
invariant-loop-at l =
    is_used_from l.walk l.role (drop l.at (kinds_of l.tokens))
    ≡ is_used_from (start_of l.fn.file l.fn.name) l.role (kinds_of l.tokens)
