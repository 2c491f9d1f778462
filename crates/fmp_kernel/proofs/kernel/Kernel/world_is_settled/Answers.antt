use Rattle.fmp_kernel.proofs.kernel.Kernel.world_is_settled.Goals as goal

pub returns : goal.returns
returns g c = rw (← c.self.view_is) c.self.invariant.1
