use Rattle.std.proofs.Common.{◌∙◌}
use Rattle.fmp_view.proofs.SessionLemmas.{no_file_saves, told_saves}
use Rattle.fmp_view.proofs.session_files.save_as.Goals as goal

pub returns-in-Ok : goal.returns-in-Ok
returns-in-Ok g c =
    told_saves _ _ _ _ _ _ c.saved.result c.saved.ensures (c.is_text.ensures c.if-is_text.false)
    (rw (c.deref.ensures.value ∙ c.in_ok-text.ensures) at c.in-Ok.ensures.ok)

pub returns : goal.returns
returns g c =
    no_file_saves _ _ _ _ _ _ c.no_file.result c.no_file.ensures (c.is_text.ensures c.if-is_text.false)
    (rw (c.deref.ensures.value ∙ c.in_ok-text.ensures) at c.in-Err.ensures.begun)
