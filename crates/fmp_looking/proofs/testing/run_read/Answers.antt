use Rattle.fmp_looking.proofs.TestEnds.{if_none}
use Rattle.fmp_looking.proofs.testing.run_read.Goals as goal

pub returns-in-Ok : goal.returns-in-Ok
returns-in-Ok g c = λ done.
    record {
      apart = c.requires;
      found = c.in-Ok.found;
      fails = c.in-Ok.ensures.fails;
      meets = λ is. if_none _ c.in-Ok.found c.in-Ok.ensures.meets is;
      verdict = rw c.as_ref.ensures.value at (c.ended.ensures.status done);
      has = rw c.as_ref.ensures.value at (c.ended.ensures.tested done);
    }
