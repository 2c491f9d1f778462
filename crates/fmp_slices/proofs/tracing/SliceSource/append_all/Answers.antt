use Rattle.std.proofs.Common.{◌≡◌, ◌∙◌, ℕ, List, [], ◌∷◌, ◌++◌, ap, codes}
use Rattle.std.proofs.lemmas.Result.{on_ok_weaker}
use Rattle.fmp_slices.specs.Traces.{link_text, notes_text, slices_text, source_of, texts_from, titles_text}
use Rattle.fmp_slices.proofs.Joined.{onto}
use Rattle.fmp_timeline.specs.declared.marks.ActorLink.{ActorLink}
use Rattle.fmp_slices.proofs.tracing.SliceSource.append_all.Goals as goal

pub returns : goal.returns
returns c =
    let s = source_of c.args.self in
    let end : List ℕ = codes "]" ++ 10 ∷ [] in
    let arrows : List ℕ = texts_from (link_text s.sys s.times) 1 s.run.links.items ++ end in
    let notes : List ℕ = notes_text s ++ arrows in
    let slices : List ℕ = slices_text s ++ notes in
    let titles : List ℕ = titles_text s.sys ++ slices in
    let links : c.append_links.new.out.items
    ≡ c.append_notes.new.out.items ++ texts_from (link_text s.sys s.times) 1 s.run.links.items =
    c.in_ok-append_links.ensures
    ∙ ap (λ (ls : List ActorLink). c.append_notes.new.out.items ++ texts_from (link_text s.sys s.times) 1 ls)
    c.deref.ensures.value in
    on_ok_weaker c.append.result
    (λ (last : c.append.new.out.items ≡ c.append_links.new.out.items ++ end).
    last
    ∙ onto c.append_notes.new.out.items c.append_links.new.out.items _ end links
    ∙ onto c.append_slices.new.out.items c.append_notes.new.out.items _ arrows c.in_ok-append_notes.ensures
    ∙ onto c.append_titles.new.out.items c.append_slices.new.out.items _ notes c.in_ok-append_slices.ensures
    ∙ onto c.append_head.new.out.items c.append_titles.new.out.items _ slices c.in_ok-append_titles.ensures
    ∙ onto c.args.out.now.items c.append_head.new.out.items _ titles c.in_ok-append_head.ensures)
    c.append.ensures
