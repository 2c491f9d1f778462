use Rattle.fmp_import.proofs.importing.is_read.Goals as goal
use Rattle.fmp_import.proofs.importing.is_read.Goals.{in-Ok, in-Err-Memory, in-Err}

pub returns : goal.returns
returns c =
    elim c.match-read_cfg.branch [
      | in-Ok w ↦ rw w.result-is (record { read = (w.in-Ok.field-0, w.in-Ok.ensures.read); fault = tt })
      | in-Err-Memory w ↦ rw w.result-is (record { read = tt; fault = λ e. absurd (cc) })
      | in-Err w ↦ rw w.result-is (record { read = tt; fault = λ e. absurd (cc) })
    ]
