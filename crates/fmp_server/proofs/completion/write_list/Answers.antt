use Rattle.std.proofs.Common.{[], ◌∷◌, ◌++◌, false}
use Rattle.std.specs.Prelude.{codes}
use Rattle.json.specs.Token.{begin_object, boolean, end_array, end_object, key}
use Rattle.fmp_json.specs.Members.{list_begin}
use Rattle.fmp_server.specs.Messages.{word_list_begin}
use Rattle.fmp_server.proofs.Joining.{joined, then_ok}
use Rattle.fmp_server.proofs.completion.write_list.Goals as goal

pub returns-clause-tokens : goal.returns-clause-tokens
returns-clause-tokens c =
    let name = key (codes "isIncomplete") in
    let opened =
    joined _ _ _ (begin_object ∷ []) (name ∷ []) c.in_ok-begin_object.ensures.ok c.in_ok-key.ensures.ok in
    let whole = joined _ _ _ (begin_object ∷ name ∷ []) (boolean false ∷ []) opened c.in_ok-boolean.ensures.ok in
    let begun =
    joined _ _ _ (begin_object ∷ name ∷ boolean false ∷ []) (list_begin (codes "items")) whole
    c.in_ok-begin_list.ensures.tokens in
    let words = joined _ _ _ word_list_begin _ begun c.in_ok-write_words.ensures.tokens in
    then_ok c.end_object.result c.end_object.ensures.ok
    (λ last. (
      _,
      joined _ _ _ ((word_list_begin ++ _) ++ end_array ∷ []) (end_object ∷ [])
          (joined _ _ _ (word_list_begin ++ _) (end_array ∷ []) words c.in_ok-end_array.ensures.ok)
          last,
    ))
