use Rattle.std.proofs.Common.{◌≡◌, ◌∙◌, ◌++◌, ℕ, List, ap, append_assoc, codes, decimal}
use Rattle.fmp_frames.specs.Tables.{cell}
use Rattle.fmp_frames.proofs.DumpLemmas.{on_ok_then}
use Rattle.fmp_frames.proofs.table.append_counts.Goals as goal

-- a piece after a text, before what is left
onto : (before after piece left : List ℕ) → after ≡ before ++ piece → after ++ left ≡ before ++ (piece ++ left)
onto before after piece left e = ap (λ (xs : List ℕ). xs ++ left) e ∙ append_assoc before piece left

pub returns : goal.returns
unfolding Rattle.fmp_frames.specs.Tables.count_cells
returns c =
    let t = c.args.tally.now in
    let events : List ℕ = cell (codes "events") (decimal t.events) in
    let spins : List ℕ = cell (codes "spins") (decimal c.args.spins) ++ events in
    let kept : List ℕ = cell (codes "kept") (decimal t.kept) ++ spins in
    let preemptions : List ℕ = cell (codes "preemptions") (decimal t.preemptions) ++ kept in
    let time_outs : List ℕ = cell (codes "time-outs") (decimal t.time_outs) ++ preemptions in
    let waits : List ℕ = cell (codes "waits") (decimal t.waits) ++ time_outs in
    let calls : List ℕ = cell (codes "calls") (decimal t.calls) ++ waits in
    on_ok_then c.append_count-8.result
    (λ h. h
    ∙ onto c.append_count-6.new.out.items c.append_count-7.new.out.items _ events c.in_ok-append_count-7.ensures
    ∙ onto c.append_count-5.new.out.items c.append_count-6.new.out.items _ spins c.in_ok-append_count-6.ensures
    ∙ onto c.append_count-4.new.out.items c.append_count-5.new.out.items _ kept c.in_ok-append_count-5.ensures
    ∙ onto c.append_count-3.new.out.items c.append_count-4.new.out.items _ preemptions c.in_ok-append_count-4.ensures
    ∙ onto c.append_count-2.new.out.items c.append_count-3.new.out.items _ time_outs c.in_ok-append_count-3.ensures
    ∙ onto c.append_count.new.out.items c.append_count-2.new.out.items _ waits c.in_ok-append_count-2.ensures
    ∙ onto c.args.out.now.items c.append_count.new.out.items _ calls c.in_ok-append_count.ensures)
    c.append_count-8.ensures
