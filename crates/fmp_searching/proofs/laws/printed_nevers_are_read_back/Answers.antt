use Rattle.fmp_searching.proofs.PrintedNevers.{all_forbidden, fault_read, named_forbidden, never_read}
use Rattle.fmp_searching.proofs.laws.printed_nevers_are_read_back.Goals as goal

pub returns-clause-nevers : goal.returns-clause-nevers
returns-clause-nevers c = never_read

pub returns-clause-faults : goal.returns-clause-faults
returns-clause-faults c = fault_read

pub returns-clause-named : goal.returns-clause-named
returns-clause-named c = named_forbidden

pub returns-clause-all : goal.returns-clause-all
returns-clause-all c = all_forbidden
