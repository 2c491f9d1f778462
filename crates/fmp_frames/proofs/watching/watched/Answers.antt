use Rattle.std.proofs.Common.{◌≡◌, ◌≤◌, [], length, arith, subst}
use Rattle.std.proofs.lemmas.Result.{err_from_is_err_and}
use Rattle.fmp_base.specs.Systems.{tables_of}
use Rattle.fmp_frames.specs.Frames.{FrameTable, frames_of_each}
use Rattle.fmp_frames.specs.Shown.{frame_now}
use Rattle.fmp_frames.specs.Watches.{IsSeen}
use Rattle.fmp_frames.proofs.SeenLemmas.{seen-last, told-whole}
use Rattle.fmp_frames.proofs.ToldLemmas.{few_frames}
use Rattle.fmp_why.specs.Histories.{told_with}
use Rattle.fmp_why.specs.HistoryTables.{IsTold, tables}
use Rattle.fmp_frames.proofs.watching.watched.Goals as goal

pub show_all-requires : goal.show_all-requires
show_all-requires g c = record { few = c.requires.few }

pub returns-in_err-setup : goal.returns-in_err-setup
returns-in_err-setup g c =
    let failed = (err_from_is_err_and c.from_residual.result c.from_residual.ensures.1).1 in
    record { shown = rw failed tt; after = rw failed tt; seen = rw failed tt; told = rw failed tt }

pub returns-in_err-watcher : goal.returns-in_err-watcher
returns-in_err-watcher g c =
    let failed = (err_from_is_err_and c.from_residual-in_err-watcher.result
    c.from_residual-in_err-watcher.ensures.1).1 in
    record { shown = rw failed tt; after = rw failed tt; seen = rw failed tt; told = rw failed tt }

pub returns-in_err-show_all : goal.returns-in_err-show_all
returns-in_err-show_all g c =
    let failed = (err_from_is_err_and c.from_residual-in_err-show_all.result
    c.from_residual-in_err-show_all.ensures.1).1 in
    record { shown = rw failed tt; after = rw failed tt; seen = rw failed tt; told = rw failed tt }

pub returns : goal.returns
returns g c =
    let meaning = g.B.Body.meaning in
    let reaction = g.T.Coming.reaction in
    let k = c.args.kernel.now in
    let xs = c.args.events.now in
    let fs = frames_of_each meaning reaction k xs in
    let first = c.in_ok-watcher.watcher in
    let begins : IsSeen first (frame_now meaning k) =
    subst (λ (f : FrameTable). IsSeen first f) c.in_ok-setup.ensures c.in_ok-watcher.ensures.seen in
    let setup : IsTold (tables_of c.args.sys.now) (told_with k.lines 0 []) (tables first.history) =
    subst (λ (f : FrameTable). IsTold (tables_of c.args.sys.now) (told_with f.lines 0 []) (tables first.history))
    c.in_ok-setup.ensures c.in_ok-watcher.ensures.told in
    let few : length fs ≤ length xs = few_frames meaning reaction k xs in
    let zero : first.number ≡ 0 = c.in_ok-watcher.ensures.number in
    let shown = c.in_ok-show_all.ensures.shown in
    let all = told-whole (tables_of c.args.sys.now) first fs _ (told_with k.lines 0 []) zero shown
    (omega (arith, c.requires.few)) setup in
    record {
      shown = record { first = first; begins = begins; frames = shown };
      after = c.in_ok-show_all.ensures.after;
      seen = seen-last meaning reaction first _ k xs begins shown;
      told = all;
    }
