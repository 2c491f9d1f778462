use Rattle.std.proofs.Common.{ℕ, List, Err, inr, refl}
use Rattle.fmp_lex.specs.declared.fault.BuildFault.{BuildFault}
use Rattle.fmp_lex.specs.declared.fault.BuildFault.TheVariants as build
use Rattle.fmp_cfgparse.specs.Configurations.{IsOffence, IsRead}
use Rattle.fmp_cfgparse.specs.Making.{making_of}
use Rattle.fmp_cfgparse.specs.Trees.{configuration_view}
use Rattle.fmp_cfgparse.proofs.Tables.{made_keeps}
use Rattle.fmp_cfgparse.proofs.reading.read_configuration.Goals as goal

is_read : (text : List ℕ) (f : BuildFault) → IsOffence text f → IsRead text (Err f)
is_read text build.Memory x = tt
is_read text (build.At f place why) x = inr x

pub returns-in-Ok-configure-clause-reads : goal.returns-in-Ok-configure-clause-reads
returns-in-Ok-configure-clause-reads c = record {
  configuration = record {
    tokens = c.in-Ok.parsed.list.tokens;
    tree = configuration_view c.in-Ok.parsed.tree;
    spelled = c.in-Ok.ensures;
    making = making_of c.in-Ok-configure.making;
    makes = c.in-Ok-configure.ensures;
  };
  tokens = refl;
  tree = refl;
  tables = refl;
}

pub returns-in-Ok-clause-refuses : goal.returns-in-Ok-clause-refuses
returns-in-Ok-clause-refuses c =
    let stopped = rw c.in-Err-Fault.field-0-is at c.in-Err-Fault.ensures in
    is_read c.args.text.now c.offence_at.result (
      c.in-Ok.parsed.list.tokens,
      configuration_view c.in-Ok.parsed.tree,
      c.in-Ok.ensures,
      record { at = c.in-Err-Fault.at; why = c.in-Err-Fault.why },
      stopped,
      c.offence_at.ensures,
    )

pub returns-in-Ok-configure-clause-rules : goal.returns-in-Ok-configure-clause-rules
returns-in-Ok-configure-clause-rules c =
    made_keeps c.args.text.now c.in-Ok.parsed.list.tokens (configuration_view c.in-Ok.parsed.tree)
    (making_of c.in-Ok-configure.making)
    c.in-Ok.ensures c.in-Ok-configure.ensures
