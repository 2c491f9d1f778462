use Rattle.std.proofs.Common.{[], ◌∷◌, ◌++◌, List, refl}
use Rattle.std.specs.Prelude.{codes}
use Rattle.json.specs.Token.{Token, begin_object, end_object}
use Rattle.fmp_server.specs.Messages.{member_begin}
use Rattle.fmp_server.proofs.Joining.{joined, then_ok}
use Rattle.fmp_server.proofs.renaming.write_all_changes.Goals as goal

pub returns-clause-tokens : goal.returns-clause-tokens
returns-clause-tokens c =
    let both = c.in_ok-write_both_changes.ensures.tokens in
    let opened : List Token = begin_object ∷ member_begin (codes "changes") ++ both.0 in
    let ended : List Token = opened ++ end_object ∷ [] in
    then_ok c.end_object-2.result c.end_object-2.ensures.ok
    (λ last. (
      ended ++ end_object ∷ [],
      record { both = both.0; both_are = both.1; all = refl },
      joined _ _ _ ended (end_object ∷ [])
          (joined _ _ _ opened (end_object ∷ [])
          (joined _ _ _ (begin_object ∷ member_begin (codes "changes")) both.0
          (joined _ _ _ (begin_object ∷ []) (member_begin (codes "changes")) c.in_ok-begin_object.ensures.ok
          c.in_ok-begin_member.ensures.tokens)
          both.2)
          c.in_ok-end_object.ensures.ok)
          last,
    ))
