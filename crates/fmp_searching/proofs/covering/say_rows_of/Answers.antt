use Rattle.std.proofs.Common.{◌≡◌, ◌++◌, OnOk, subst}
use Rattle.fmp_base.specs.Systems.{SystemTables}
use Rattle.fmp_searching.specs.Extent.{counts_text, lengths_text, unrun_text}
use Rattle.fmp_searching.proofs.covering.say_rows_of.Goals as goal

pub returns : goal.returns
returns c =
    let r = c.args.report.now in
    subst
    (λ (t : SystemTables). OnOk c.say_rows.result
    (c.say_rows.new.out.items
    ≡ c.args.out.now.items ++ (unrun_text t r ++ (counts_text t r ++ lengths_text t r))))
    c.system.ensures.tables c.say_rows.ensures
