-- How long the texts of the tables are.
use Rattle.std.proofs.Common.{ℕ, ◌≤◌, length, rules}
use Rattle.fmp_base.specs.declared.calls.Call.{Call}
use Rattle.fmp_base.specs.declared.calls.Call.TheVariants as call
use Rattle.fmp_base.specs.declared.services.Service.{Service}
use Rattle.fmp_base.specs.declared.services.Service.TheVariants as service
use Rattle.fmp_base.specs.Services.{arguments_of, service_name}

-- a service call has at most four arguments
pub few_arguments : (c : Call) → length (arguments_of c) ≤ 4
few_arguments (call.Put value) = search rules
few_arguments _ = search rules

-- the name of a service has at most nine characters
pub short_name : (s : Service) → length (service_name s) ≤ 9
short_name service.Put = search rules
short_name _ = search rules
