use Rattle.fmp_fields.proofs.FieldLaws.{interrupts-told}
use Rattle.fmp_fields.proofs.laws.numbers_tell_how_many_interrupts_came.Goals as goal

pub returns : goal.returns
returns c = λ sys bodies limited fields v w came other all counted a b e.
    interrupts-told sys bodies limited fields v w came other all counted a b e
