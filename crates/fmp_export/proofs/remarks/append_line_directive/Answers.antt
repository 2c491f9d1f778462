use Rattle.std.proofs.Common.{◌++◌, codes, decimal}
use Rattle.std.proofs.lemmas.Result.{on_ok_weaker}
use Rattle.fmp_export.specs.Remarks.{line_directive}
use Rattle.fmp_export.proofs.Appended.{two}
use Rattle.fmp_export.proofs.remarks.append_line_directive.Goals as goal

pub returns : goal.returns
unfolding line_directive
returns c =
    let p = codes "#line " in
    let q = decimal c.args.line in
    let r = codes " \"system.src\"\n" in
    on_ok_weaker c.append-2.result
    (λ e. two c.args.out.now.items p (q ++ r) _ _ c.in_ok-append.ensures
    (two c.append.new.out.items q r _ _ c.in_ok-append_count.ensures e)) c.append-2.ensures
