-- The service calls by their function codes.
use Rattle.std.specs.Prelude.{ℕ, List, [], if◌then◌else◌, Bool, ◌||◌, nat_eq}
use Rattle.fmp_base.specs.Services.{arity, service_name}
use Rattle.fmp_foreign.specs.Hosting.{is_number, service_of_code}

-- its name, or nothing
abbrev pub name_by : ℕ → List ℕ
name_by code = if is_number 59 code then service_name (service_of_code code) else []

-- how many arguments it takes
abbrev pub arity_by : ℕ → ℕ
arity_by code = if is_number 59 code then arity (service_of_code code) else 0

-- whether its calls are made most often: slp_tsk, wup_tsk, sig_sem, wai_sem and pol_sem
abbrev pub is_frequent : ℕ → Bool
is_frequent code = nat_eq code 12 || nat_eq code 14 || nat_eq code 20 || nat_eq code 21 || nat_eq code 22
