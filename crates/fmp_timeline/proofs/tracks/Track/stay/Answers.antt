use Rattle.std.proofs.Common.{Option, ap, sym, ◌∙◌}
use Rattle.std.specs.Prelude.{ℕ, option_map, slice_get}
use Rattle.fmp_timeline.proofs.Stays.{stays_at}
use Rattle.fmp_timeline.proofs.tracks.Track.stay.Goals as goal

pub returns : goal.returns
returns g c =
    c.stay_from.ensures
    ∙ ap
    (λ (to : Option ℕ). option_map (λ d. record { from = d.event; to = to; state = d.state })
    (slice_get c.args.self.now.changes.items c.args.place))
    c.event_after.ensures
    ∙ sym (stays_at c.args.self.now.changes.items c.args.place)
