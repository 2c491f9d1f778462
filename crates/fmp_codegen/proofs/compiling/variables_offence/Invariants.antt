use Rattle.std.proofs.Common.{◌≡◌, ◌<◌, ◌≤◌, ◌∷◌, [], drop, take}
use Rattle.fmp_base.specs.Systems.{tables_of}
use Rattle.fmp_tasklang.specs.Layout.{exinf_local, total_places}
use Rattle.fmp_codegen.specs.Compiling.{variables_offence}
use Rattle.fmp_scopes.specs.Scopes.{locals_with}
use Rattle.fmp_codegen.proofs.compiling.variables_offence.Given as goal

abbrev pub invariant-loop-i : goal.invariant-loop-i
invariant-loop-i l =
    record {
      rest :
          variables_offence (tables_of l.objects.system.now) (locals_with (take l.i l.variables))
          (drop l.i l.variables) ≡
          variables_offence (tables_of l.objects.system.now) (exinf_local ∷ []) l.variables;
      counted : l.places ≡ total_places (locals_with (take l.i l.variables));
      low : l.places ≤ 64;
      few : l.i < l.places;
    }
