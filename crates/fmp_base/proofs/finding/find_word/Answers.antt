use Rattle.std.proofs.Common.{rules, ◌≡◌, List, Option, Some, None, find, ap, ◌∙◌, sym}
use Rattle.std.specs.Prelude.{slice_get}
use Rattle.std.specs.Str.{bytes_eq}
use Rattle.fmp_base.proofs.FirstBytes.{named_from_first, no_first}
use Rattle.fmp_base.proofs.finding.find_word.Goals as goal

pub returns : goal.returns
returns g c =
    let text = c.args.text.now in
    let first : slice_get text 0 ≡ Some c.in_ok-first.field-0.now = search rules in
    c.word_among.ensures
    ∙ ap (λ (words : List g.row.W.Denot). find (λ word. bytes_eq (g.W.Word.text word) text) words) c.words_from.ensures
    ∙ named_from_first g.W.Word.text _ text g.W.Word.words first

pub returns-in_err-first : goal.returns-in_err-first
returns-in_err-first g c =
    let first : slice_get c.args.text.now 0 ≡ None = search rules in
    let gone : ◌≡◌ {A = Option g.row.W.Denot} c.from_residual.result None = search rules in
    rw (gone, no_first c.args.text.now first) (sym g.W.Word.are_texts)
