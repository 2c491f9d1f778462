-- What the code has made so far, as data without memory.
use Rattle.fmp_base.specs.Systems.{tables_of}
use Rattle.fmp_cfgparse.specs.declared.making.Making as declared
use Rattle.fmp_cfgparse.specs.Apis.{Making}
use Rattle.fmp_cfgparse.specs.UsedNames.{names_of}

abbrev pub making_of : declared.Making → Making
making_of m = record { tables = tables_of m.system; names = names_of m.names }
