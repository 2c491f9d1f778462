use Rattle.std.proofs.Common.{◌++◌, codes, map}
use Rattle.std.proofs.lemmas.Result.{on_ok_weaker}
use Rattle.fmp_import.specs.Written.{lacking_text, note_end, note_front, shown_byte}
use Rattle.fmp_import.proofs.Appended.{two}
use Rattle.fmp_import.proofs.notes.append_lacking.Goals as goal

pub returns : goal.returns
unfolding lacking_text
returns c =
    let p = note_front c.args.line c.args.word.now in
    let q = codes "` is left out: `" in
    let r = map shown_byte c.args.name.now in
    let s = note_end (codes " ") c.args.why.now in
    on_ok_weaker c.append_end.result
    (λ e. two c.args.out.now.items p (q ++ (r ++ s)) _ _ c.in_ok-append_front.ensures
    (two c.append_front.new.out.items q (r ++ s) _ _ c.in_ok-append.ensures
    (two c.append.new.out.items r s _ _ c.in_ok-append_shown.ensures e))) c.append_end.ensures
