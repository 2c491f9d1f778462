use Rattle.std.proofs.Common.{◌∙◌, ap, refl}
use Rattle.fmp_looking.specs.Covered.{Seen, none_seen, with_run}
use Rattle.fmp_looking.proofs.covering.seen_of_run.Goals as goal

pub returns : goal.returns
returns c =
    let positions = c.in_ok-positions.positions in
    record {
      first = none_seen positions;
      none = (positions, c.in_ok-positions.ensures, refl);
      seen =
          c.new-2.ensures
          ∙ c.in_ok-seen.ensures
          ∙ ap (λ (x : Seen). with_run c.args.image.now c.args.n x c.args.events.now) (c.none-none.ensures positions);
    }
