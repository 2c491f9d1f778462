use Rattle.std.proofs.Common.{◌∙◌, sym}
use Rattle.std.proofs.lemmas.Bool.{or_left, or_right}
use Rattle.fmp_server.specs.Renaming.{used}
use Rattle.fmp_server.proofs.renaming.hindrance.Goals as goal
use Rattle.fmp_server.proofs.renaming.hindrance.Goals.{then-is_exinf, else-is_exinf}

pub returns-in-Some-2 : goal.returns-in-Some-2
returns-in-Some-2 c =
    let name = rw c.in-Some-2.is at c.in_ok-name_of.ensures in
    elim c.if-is_exinf.branch [
      | then-is_exinf w ↦
          used c.in-Some-2.name name (or_left _ _ (sym c.is_exinf.ensures ∙ w.if-is_exinf.true))
      | else-is_exinf w ↦
          used c.in-Some-2.name name (or_right _ _ (sym w.is_used.ensures ∙ sym w.value-is ∙ c.if-is_used.true))
    ]
