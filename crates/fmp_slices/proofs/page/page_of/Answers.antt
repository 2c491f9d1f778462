use Rattle.std.proofs.Common.{ℕ, List, subst, sym}
use Rattle.fmp_slices.specs.Pages.{IsData, IsPage}
use Rattle.fmp_slices.proofs.Canvases.{finished_text}
use Rattle.fmp_slices.proofs.page.page_of.Goals as goal

pub returns : goal.returns
returns c =
    let page = c.args.page in
    let run = c.args.run.now in
    let made = subst (IsData page run) (sym c.deref.ensures.value) c.in_ok-contents.ensures in
    finished_text (λ text. text.items)
    (λ (text : List ℕ). (json : List ℕ) × IsPage c.args.name.now c.args.picture.now json text × IsData page run json)
    c.finish.result c.new-out.result c.put_page.new.out c.put_page.ensures.0 c.new-out.ensures.bytes
    c.put_page.ensures.2 (c.deref.result.now, c.put_page.ensures.1, made) c.finish.ensures.whole
    c.finish.ensures.bytes
