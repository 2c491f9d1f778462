use Rattle.std.proofs.Common.{rules, ◌≡◌, ◌<◌, ◌≤◌, sym, ap, ◌∙◌, Some, length, get_or}
use Rattle.std.specs.Prelude.{slice_get, option_map}
use Rattle.std.proofs.lemmas.Option.{slice_get-get_or, slice_get-map, slice_get_past}
use Rattle.fmp_frames.proofs.comparing.event_text.Goals as goal

pub returns-in-Some : goal.returns-in-Some
returns-in-Some c =
    let items = c.args.told.now.texts.items in
    let text = c.in-Some.text.now in
    let within : c.args.number < length items = search rules in
    let same : text ≡ get_or items c.args.number text = search rules in
    let found : slice_get items c.args.number ≡ Some text =
    slice_get-get_or items c.args.number text within ∙ ap (λ x. Some x) (sym same) in
    ap (λ x. Some x) c.as_slice.ensures.value
    ∙ sym (slice_get-map (λ x. x.items) items c.args.number ∙ ap (option_map (λ x. x.items)) found)

pub returns-in-None : goal.returns-in-None
returns-in-None c =
    let items = c.args.told.now.texts.items in
    let past : length items ≤ c.args.number = search rules in
    sym (slice_get-map (λ x. x.items) items c.args.number ∙ ap (option_map (λ x. x.items))
    (slice_get_past items c.args.number past))
