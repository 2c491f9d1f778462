-- The main error codes of the uITRON 4.0 specification, section 2.4.5.
use Rattle.std.specs.Prelude.{ℕ, ℤ, pos, negsuc, List, codes}
use Rattle.fmp_base.specs.declared.codes.Er.{Er}
use Rattle.fmp_base.specs.declared.codes.Er.TheVariants.{Ok, Sys, Nospt, Rsatr, Par, Id, Ctx, Iluse, Obj, Qovr, Rlwai}
use Rattle.fmp_base.specs.declared.codes.Er.TheVariants.{Tmout}

-- the number of a code: `negsuc n` is the number -(n + 1)
abbrev pub code_of : Er → ℤ
code_of Ok = pos 0
code_of Sys = negsuc 4
code_of Nospt = negsuc 8
code_of Rsatr = negsuc 10
code_of Par = negsuc 16
code_of Id = negsuc 17
code_of Ctx = negsuc 24
code_of Iluse = negsuc 27
code_of Obj = negsuc 40
code_of Qovr = negsuc 42
code_of Rlwai = negsuc 48
code_of Tmout = negsuc 49

-- the name of a code
abbrev pub code_name : Er → List ℕ
code_name Ok = codes "E_OK"
code_name Sys = codes "E_SYS"
code_name Nospt = codes "E_NOSPT"
code_name Rsatr = codes "E_RSATR"
code_name Par = codes "E_PAR"
code_name Id = codes "E_ID"
code_name Ctx = codes "E_CTX"
code_name Iluse = codes "E_ILUSE"
code_name Obj = codes "E_OBJ"
code_name Qovr = codes "E_QOVR"
code_name Rlwai = codes "E_RLWAI"
code_name Tmout = codes "E_TMOUT"
