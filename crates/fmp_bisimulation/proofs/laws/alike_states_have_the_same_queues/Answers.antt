use Rattle.fmp_bisimulation.proofs.ReadLaws.{top-same, first_ready-same, wait_queue-same}
use Rattle.fmp_bisimulation.proofs.laws.alike_states_have_the_same_queues.Goals as goal

pub returns-clause-top : goal.returns-clause-top
returns-clause-top c = λ sys s u p h. top-same sys s u p h

pub returns-clause-first_ready : goal.returns-clause-first_ready
returns-clause-first_ready c = λ sys s u p priority h. first_ready-same sys s u p priority h

pub returns-clause-wait_queue : goal.returns-clause-wait_queue
returns-clause-wait_queue c = λ sys s u q h. wait_queue-same sys s u q h
