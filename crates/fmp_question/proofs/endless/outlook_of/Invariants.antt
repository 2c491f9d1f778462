use Rattle.std.proofs.Common.{◌*◌}
use Rattle.fmp_code.specs.Vms.{IsContext}
use Rattle.fmp_question.specs.Endless.{LeadsTo}
use Rattle.fmp_instructions.specs.Machine.{code_meaning}
use Rattle.fmp_question.proofs.EndlessLemmas.{Made}
use Rattle.fmp_question.proofs.endless.outlook_of.Given as goal

abbrev pub invariant-loop-tried : goal.invariant-loop-tried
invariant-loop-tried l =
    record {
      marked : LeadsTo (code_meaning l.fn.body) l.fn.entry l.fn.context l.mark.context;
      made : LeadsTo (code_meaning l.fn.body) l.fn.entry l.mark.context l.at;
      tried : Made l.fn.body l.fn.entry (l.tried * 256) l.fn.context l.at;
      fits : IsContext l.fn.body l.fn.entry l.at;
    }
