use Rattle.std.proofs.Common.{◌≡◌, take}
use Rattle.fmp_lex.specs.Reading.{kinds_of}
use Rattle.fmp_server.specs.Roles.{start_of, walked_all}
use Rattle.fmp_server.proofs.roles.named_at.Given as goal

abbrev pub invariant-loop-before : goal.invariant-loop-before
invariant-loop-before l =
    l.walk ≡ walked_all (start_of l.file l.name) (take l.before (kinds_of l.tokens))
