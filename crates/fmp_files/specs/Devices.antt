-- Files and streams as devices: what is inside, and whether a call on it has failed.
use Rattle.std.specs.Prelude.{false}
use Rattle.fmp_files.specs.declared.device.Device.{Device}

-- one on which no call has failed
abbrev pub device_of : {T : Type 0} → T → Device T
device_of inner = record { inner = inner; failed = false }
