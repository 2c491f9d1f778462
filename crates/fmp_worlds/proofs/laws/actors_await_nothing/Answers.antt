use Rattle.fmp_worlds.proofs.Awaiting.{actors-free}
use Rattle.fmp_worlds.proofs.laws.actors_await_nothing.Goals as goal

pub returns : goal.returns
returns g c = λ sys M n es p who d a e. actors-free sys M n es p who d a e
