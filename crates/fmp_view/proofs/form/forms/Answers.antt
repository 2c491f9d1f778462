use Rattle.std.proofs.Common.{refl}
use Rattle.fmp_view.proofs.form.forms.Goals as goal

pub returns : goal.returns
returns c = (_, _, refl)
