use Rattle.std.proofs.Common.{◌∙◌}
use Rattle.fmp_slices.proofs.Fronts.{data_made, front_kept}
use Rattle.fmp_slices.proofs.contents.contents_of.Goals as goal

pub returns : goal.returns
returns c =
    let whole =
    c.in_ok-end_object.ensures.room.0
    ∙ c.in_ok-write_things.ensures.before
    ∙ c.in_ok-write_calls.ensures.before
    ∙ c.in_ok-write_lines.ensures.before
    ∙ c.in_ok-write_clocks.ensures.before
    ∙ c.in_ok-write_places.ensures.before
    ∙ c.in_ok-writer.ensures.before in
    data_made (λ json. json.items) c.escaped.result c.args.source.page c.args.source.run.now
    c.end_object.new.self.tokens c.end_object.new.self.before c.deref.result.now
    (front_kept _ _ _ _ _ _ _ _ _ _ _ c.in_ok-writer.ensures.tokens c.in_ok-write_places.ensures.tokens
    c.in_ok-write_clocks.ensures.tokens c.in_ok-write_lines.ensures.tokens c.in_ok-write_calls.ensures.tokens
    c.in_ok-write_things.ensures.tokens c.in_ok-end_object.ensures.ok)
    whole (c.deref.ensures.value ∙ c.into_inner.ensures.items) c.escaped.ensures.text c.escaped.ensures.safe
