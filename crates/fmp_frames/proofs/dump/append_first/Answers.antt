use Rattle.std.proofs.Common.{◌∙◌, ◌++◌, ℕ, List, ap, append_assoc, codes}
use Rattle.fmp_frames.proofs.DumpLemmas.{on_ok_then}
use Rattle.fmp_frames.specs.Dumps.{values_text}
use Rattle.fmp_frames.proofs.dump.append_first.Goals as goal

pub returns : goal.returns
returns c =
    let before = c.args.out.now.items in
    let opening = codes "#0\n$dumpvars\n" in
    let values = values_text 0 c.args.variables.now c.args.values.now in
    let closing = codes "$end\n" in
    on_ok_then c.append-2.result
    (λ h. h
    ∙ ap (λ (xs : List ℕ). xs ++ closing) c.in_ok-append_all.ensures
    ∙ ap (λ (xs : List ℕ). (xs ++ values) ++ closing) c.in_ok-append.ensures
    ∙ append_assoc (before ++ opening) values closing
    ∙ append_assoc before opening (values ++ closing))
    c.append-2.ensures
