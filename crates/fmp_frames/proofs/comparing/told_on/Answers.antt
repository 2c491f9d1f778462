use Rattle.std.proofs.Common.{◌≡◌, ◌+◌, ◌≤◌, ◌^◌, ◌∙◌, ◌++◌, [], ◌∷◌, List, ℕ, length, ap, arith, subst}
use Rattle.std.proofs.lemmas.Result.{err_from_is_err_and}
use Rattle.fmp_base.specs.Systems.{SystemTables, tables_of}
use Rattle.fmp_frames.specs.Frames.{FrameTable, frames_of_each}
use Rattle.fmp_frames.specs.Compares.{AreStates, events_of, told_from}
use Rattle.fmp_frames.proofs.ToldLemmas.{few_frames, told-all}
use Rattle.fmp_named.specs.Lines.{named_lines}
use Rattle.fmp_frames.proofs.comparing.told_on.Goals as goal

pub show_all-requires : goal.show_all-requires
show_all-requires g c = record { few = c.requires.few }

pub returns-in_err-setup : goal.returns-in_err-setup
returns-in_err-setup g c =
    let failed = (err_from_is_err_and c.from_residual.result c.from_residual.ensures.1).1 in
    record { shown = rw failed tt; events = rw failed tt }

pub returns-in_err-told : goal.returns-in_err-told
returns-in_err-told g c =
    let failed = (err_from_is_err_and c.from_residual-in_err-told.result c.from_residual-in_err-told.ensures.1).1 in
    record { shown = rw failed tt; events = rw failed tt }

pub returns-in_err-show_all : goal.returns-in_err-show_all
returns-in_err-show_all g c =
    let failed = (err_from_is_err_and c.from_residual-in_err-show_all.result
    c.from_residual-in_err-show_all.ensures.1).1 in
    record { shown = rw failed tt; events = rw failed tt }

pub returns : goal.returns
returns g c =
    let k = c.args.kernel.now in
    let sys : SystemTables = tables_of c.args.sys.now in
    let fs : List FrameTable = frames_of_each g.B.Body.meaning g.T.Coming.reaction k c.args.events.now in
    let first = c.in_ok-told.told in
    let setup : events_of first ≡ named_lines sys 0 k.lines ∷ [] =
    c.in_ok-told.ensures.events ∙ ap (λ (f : FrameTable). named_lines sys 0 f.lines ∷ []) c.in_ok-setup.ensures in
    let few : length fs ≤ length c.args.events.now =
    few_frames g.B.Body.meaning g.T.Coming.reaction k c.args.events.now in
    let long : length (events_of first) ≡ 1 = ap length setup in
    let all = told-all first fs _ c.in_ok-show_all.ensures.shown (omega (arith, c.requires.few)) in
    record {
      shown = record {
        first = first;
        begins = subst (λ (f : FrameTable). AreStates first f) c.in_ok-setup.ensures c.in_ok-told.ensures.states;
        frames = c.in_ok-show_all.ensures.shown;
      };
      events = all
          ∙ ap (λ n. events_of first ++ told_from (tables_of first.sys.now) n fs) long
          ∙ ap (λ (s : _). events_of first ++ told_from (tables_of s.now) 1 fs) c.in_ok-told.ensures.sys
          ∙ ap (λ (es : List (List ℕ)). es ++ told_from sys 1 fs) setup;
    }
