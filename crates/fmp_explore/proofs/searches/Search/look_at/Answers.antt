use Rattle.fmp_explore.proofs.SearchStepLemmas.{stays_on}
use Rattle.fmp_explore.proofs.searches.Search.look_at.Goals as goal

pub returns : goal.returns
returns c =
    let noted = c.in_ok-note_state.ensures in
    record {
      stays =
          stays_on c.args.self.now c.look_if_idle.new.self c.note_state.new.self c.in_ok-look_if_idle.ensures.stays
          noted.stays;
      upheld = noted.upheld;
      free = λ sure. c.in_ok-look_if_idle.ensures.free (noted.stays.sure sure);
    }
