use Rattle.fmp_why.proofs.HistoryLemmas.{lines-told}
use Rattle.fmp_why.proofs.history.History.note.Goals as goal

pub returns : goal.returns
returns c = λ sys told is.
    rw c.note_lines.ensures (lines-told sys c.args.event c.args.lines.now told _ is)
