use Rattle.std.proofs.Common.{◌∙◌, ap, sym, Some, None, List, ℕ, ◌++◌, ◌+◌}
use Rattle.fmp_image_bytes.specs.Images.{ImageTables}
use Rattle.fmp_hostrun.specs.Followers.{Follows, reaction_text}
use Rattle.fmp_hostrun.proofs.Advancing.{early, goes_on, prints, prints_nothing, reaction_of, stays, system_of}
use Rattle.fmp_hostrun.proofs.follower.advance.Goals as goal

pub follow-requires : goal.follow-requires
follow-requires g c = record { at = c.requires.at }

pub take-requires-clause-system : goal.take-requires-clause-system
take-requires-clause-system g c =
    system_of g.S.Site.image g.S.Site.bound g.S.Site.row_id _ _ c.requires
    ∙ sym (c.system.ensures.tables ∙ ap (λ (i : ImageTables). i.system) c.image.ensures)

pub take-requires-clause-early : goal.take-requires-clause-early
take-requires-clause-early g c =
    let f : Follows g.S.Site.row_id.capacity c.args.seat.now c.follow.new.seat (Some c.in-Some.event) =
    record {
      same = c.in-Some.ensures.same;
      grows = c.in-Some.ensures.grows;
      reads = c.in-Some.ensures.reads;
      end = c.in-Some.ensures.end;
      some = c.in-Some.ensures.some;
      none = c.in-Some.ensures.none;
      empty = c.in-Some.ensures.empty;
    } in
    early g.S.Site.image g.S.Site.bound g.S.Site.row_id _ _ _ c.in-Some.event c.requires f

pub returns-in-Some-clause-following : goal.returns-in-Some-clause-following
returns-in-Some-clause-following g c =
    let f : Follows g.S.Site.row_id.capacity c.args.seat.now c.follow.new.seat (Some c.in-Some.event) =
    record {
      same = c.in-Some.ensures.same;
      grows = c.in-Some.ensures.grows;
      reads = c.in-Some.ensures.reads;
      end = c.in-Some.ensures.end;
      some = c.in-Some.ensures.some;
      none = c.in-Some.ensures.none;
      empty = c.in-Some.ensures.empty;
    } in
    goes_on g.S.Site.image g.S.Site.bound g.S.Site.row_id _ _ _ _ c.in-Some.event c.requires f c.take.ensures.kernel

pub returns-in-Some-clause-follows : goal.returns-in-Some-clause-follows
returns-in-Some-clause-follows g c =
    record {
      same = c.in-Some.ensures.same;
      grows = c.in-Some.ensures.grows;
      reads = c.in-Some.ensures.reads;
      end = c.in-Some.ensures.end;
      some = c.in-Some.ensures.some;
      none = c.in-Some.ensures.none;
      empty = c.in-Some.ensures.empty;
    }

pub returns-in-Some-clause-text : goal.returns-in-Some-clause-text
returns-in-Some-clause-text g c =
    let f : Follows g.S.Site.row_id.capacity c.args.seat.now c.follow.new.seat (Some c.in-Some.event) =
    record {
      same = c.in-Some.ensures.same;
      grows = c.in-Some.ensures.grows;
      reads = c.in-Some.ensures.reads;
      end = c.in-Some.ensures.end;
      some = c.in-Some.ensures.some;
      none = c.in-Some.ensures.none;
      empty = c.in-Some.ensures.empty;
    } in
    let k = c.args.kernel.now in
    prints g.S.Site.image g.S.Site.bound g.S.Site.row_id _ _ _ c.in-Some.event _ _ c.requires f
    (c.take.ensures.text
    ∙ ap (λ (xs : List ℕ). xs ++ reaction_text k.system (k.done + 1) (reaction_of k c.in-Some.event))
    c.reserve.ensures.items)

pub returns-in-None-clause-following : goal.returns-in-None-clause-following
returns-in-None-clause-following g c =
    let f : Follows g.S.Site.row_id.capacity c.args.seat.now c.follow.new.seat None =
    record {
      same = c.in-None.ensures.same;
      grows = c.in-None.ensures.grows;
      reads = c.in-None.ensures.reads;
      end = c.in-None.ensures.end;
      some = c.in-None.ensures.some;
      none = c.in-None.ensures.none;
      empty = c.in-None.ensures.empty;
    } in
    stays g.S.Site.image g.S.Site.bound g.S.Site.row_id _ _ _ c.requires f

pub returns-in-None-clause-follows : goal.returns-in-None-clause-follows
returns-in-None-clause-follows g c =
    record {
      same = c.in-None.ensures.same;
      grows = c.in-None.ensures.grows;
      reads = c.in-None.ensures.reads;
      end = c.in-None.ensures.end;
      some = c.in-None.ensures.some;
      none = c.in-None.ensures.none;
      empty = c.in-None.ensures.empty;
    }

pub returns-in-None-clause-text : goal.returns-in-None-clause-text
returns-in-None-clause-text g c =
    let f : Follows g.S.Site.row_id.capacity c.args.seat.now c.follow.new.seat None =
    record {
      same = c.in-None.ensures.same;
      grows = c.in-None.ensures.grows;
      reads = c.in-None.ensures.reads;
      end = c.in-None.ensures.end;
      some = c.in-None.ensures.some;
      none = c.in-None.ensures.none;
      empty = c.in-None.ensures.empty;
    } in
    prints_nothing g.S.Site.image g.S.Site.bound g.S.Site.row_id.capacity _ _ _ _ f c.reserve.ensures.items
