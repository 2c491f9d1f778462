-- What is said of the faults for which an image is not run.
use Rattle.std.specs.Prelude.{ℕ, List, ◌++◌, codes}
use Rattle.fmp_board.specs.Messages.{board_code}
use Rattle.fmp_image_bytes.specs.Messages.{load_message}
use Rattle.fmp_trace.specs.Messages.{steps_message}
use Rattle.fmp_engine.specs.declared.fault.SimFault.{SimFault}
use Rattle.fmp_engine.specs.declared.fault.SimFault.TheVariants as sim
use Rattle.fmp_engine.specs.declared.hosting.HostFault.{HostFault}
use Rattle.fmp_engine.specs.declared.hosting.HostFault.TheVariants as host

-- of a run over steps: the message of the image or of the steps
abbrev pub sim_message : SimFault → List ℕ
sim_message (sim.Load fault) = load_message fault
sim_message (sim.Steps fault) = steps_message fault
sim_message sim.Memory = codes "memory"

-- of a run by threads: the message of the image, or the code of the board after `host`
abbrev pub host_message : HostFault → List ℕ
host_message (host.Load fault) = load_message fault
host_message (host.Board fault) = codes "host: " ++ board_code fault
host_message host.Memory = codes "memory"
