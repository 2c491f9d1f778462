use Rattle.std.proofs.Common.{[], ◌∷◌, ◌++◌}
use Rattle.json.specs.Token.{begin_array, end_array}
use Rattle.fmp_server.proofs.Joining.{joined, then_ok}
use Rattle.fmp_server.proofs.outline.write_symbols.Goals as goal

pub returns-clause-tokens : goal.returns-clause-tokens
returns-clause-tokens c =
    then_ok c.end_array.result c.end_array.ensures.ok
    (λ last. (
      _,
      joined _ _ _ (begin_array ∷ [] ++ _) (end_array ∷ [])
          (joined _ _ _ (begin_array ∷ []) _ c.in_ok-begin_array.ensures.ok c.in_ok-write_entries.ensures.tokens)
          last,
    ))
