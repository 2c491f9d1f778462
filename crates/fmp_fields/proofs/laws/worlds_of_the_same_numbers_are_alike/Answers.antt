use Rattle.fmp_fields.proofs.FieldLaws.{fields-told}
use Rattle.fmp_fields.proofs.laws.worlds_of_the_same_numbers_are_alike.Goals as goal

pub returns : goal.returns
returns c = λ sys bodies limited fields v w came other all a b e. fields-told sys bodies limited fields v w came other
    all a b e
