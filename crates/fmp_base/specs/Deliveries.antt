-- Where the reply of a service call goes in the locals of the caller's body.
use Rattle.std.specs.Prelude.{ℕ, ℤ, pos, List, Option, Some, None, Bool, true, slice_set}
use Rattle.fmp_base.specs.declared.calls.Reply.{Reply}
use Rattle.fmp_base.specs.declared.services.Service.{Service}
use Rattle.fmp_base.specs.declared.codes.Er.{Er}
use Rattle.fmp_base.specs.declared.codes.Er.TheVariants.{Ok}
use Rattle.fmp_base.specs.Codes.{code_of}
use Rattle.fmp_base.specs.Services.{gives_count}

-- the service that was called, the local at its out place, and the local before `=`
pub record Places : Type 0 where
  pub service : Service
  pub out : Option ℕ
  pub result : Option ℕ

-- the value of a reply, 0 if it has none
abbrev pub value_or_zero : Option ℤ → ℤ
value_or_zero (Some v) = v
value_or_zero None = pos 0

-- a local is written, where one is named
abbrev pub written : List ℤ → Option ℕ → ℤ → List ℤ
written locals None v = locals
written locals (Some place) v = slice_set locals place v

-- the out place is written at E_OK only
abbrev pub out_written : Er → List ℤ → Option ℕ → ℤ → List ℤ
out_written Ok locals out v = written locals out v
out_written _ locals out v = locals

-- what the variable before `=` receives: the code, or at E_OK the count where the service gives one
abbrev pub result_value : Er → Bool → ℤ → ℤ
result_value Ok true v = v
result_value e _ v = code_of e

-- first the out place, then the variable before `=`
abbrev pub delivered : List ℤ → Places → Reply → List ℤ
delivered locals p reply =
    let v = value_or_zero reply.value in
    written (out_written reply.code locals p.out v) p.result (result_value reply.code (gives_count p.service) v)
