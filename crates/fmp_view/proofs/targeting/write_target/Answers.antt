use Rattle.std.proofs.Common.{[], refl}
use Rattle.std.proofs.lemmas.Result.{on_err_weaker, on_ok_weaker}
use Rattle.fmp_searching.proofs.Doing.{on_err}
use Rattle.fmp_view.proofs.BegunDeeds.{begun_first, begun_next}
use Rattle.fmp_view.proofs.Projects.{written}
use Rattle.fmp_view.proofs.targeting.write_target.Goals as goal

pub returns-clause-ok : goal.returns-clause-ok
returns-clause-ok g c =
    on_ok_weaker c.write_in-3.result
    (λ e. written _ _ _ _ _ _ _ c.deref.ensures.value c.in_ok-write_in.ensures.ok
    (written _ _ _ _ _ _ _ c.deref-2.ensures.value c.in_ok-write_in-2.ensures.ok e))
    (rw c.deref-3.ensures.value at c.write_in-3.ensures.ok)

pub returns-in_err-write_in-clause-begun : goal.returns-in_err-write_in-clause-begun
returns-in_err-write_in-clause-begun g c =
    on_err _
    (begun_first _ _ _ _ _ _ c.deref.ensures.value c.in_err-write_in.ensures.begun)

pub returns-in_err-write_in-2-clause-begun : goal.returns-in_err-write_in-2-clause-begun
returns-in_err-write_in-2-clause-begun g c =
    on_err _
    (begun_next _ _ _ _ _ _ _ c.deref.ensures.value c.in_ok-write_in.ensures.ok
    (begun_first _ _ _ _ _ _ c.deref-2.ensures.value c.in_err-write_in-2.ensures.begun))

pub returns-clause-begun : goal.returns-clause-begun
returns-clause-begun g c =
    on_err_weaker c.write_in-3.result
    (λ e. begun_next _ _ _ _ _ _ _ c.deref.ensures.value c.in_ok-write_in.ensures.ok
    (begun_next _ _ _ _ _ _ _ c.deref-2.ensures.value c.in_ok-write_in-2.ensures.ok
    (begun_first _ _ _ _ _ [] refl e)))
    (rw c.deref-3.ensures.value at c.write_in-3.ensures.begun)
