use Rattle.fmp_worlds.proofs.SettledLaws.{called-may_spin, called-spins}
use Rattle.fmp_worlds.proofs.laws.spinning_changes_nothing.Goals as goal

pub returns-clause-held : goal.returns-clause-held
returns-clause-held c sys s p who made h = called-may_spin sys s p who made h

pub returns-clause-unchanged : goal.returns-clause-unchanged
returns-clause-unchanged c sys s p who made h = called-spins sys s p who made h
