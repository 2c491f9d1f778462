use Rattle.fmp_fields.proofs.FieldLaws.{live-fields-told}
use Rattle.fmp_fields.proofs.laws.worlds_of_the_same_live_numbers_are_like.Goals as goal

pub returns : goal.returns
returns c = λ outs sys bodies limited fields v w tables others came other all live also a b e.
    live-fields-told outs sys bodies limited fields v w tables others came other all live also a b e
