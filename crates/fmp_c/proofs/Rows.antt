-- The rows that a call of a generic function of boxes is given.
use Rattle.std.proofs.Common.{[], ◌∷◌, refl}
use mir.Syntax.{Dict, impl, tnil, tcons, dnil}
use mir.Raw.{raw as bare}
use denote.Exit.{no}
use denote.RattleType.{RattleType}
use denote.Param.{arg, layout}
use denote.Param.Laws.{Laws, arg_laws}
use Rattle.std_alloc.proofs.BoxSteps.Form as box
use Rattle.std_heap.specs.contracts.Global as global
use Rattle.std_heap.proofs.Global.TheLaws as global_laws
use Rattle.std_heap.specs.contracts.GlobalAllocator.TheImpl as heap
use Rattle.fmp_c.specs.contracts.machine.Machine as machine
use Rattle.fmp_c.proofs.machine.Machine.TheLaws as machine_laws

abbrev pub S : RattleType
S = arg (bare (layout machine.the_row)) no machine.the_row

abbrev pub Z : RattleType
Z = arg (bare (layout global.the_row)) no global.the_row

abbrev pub S-laws : Laws S
S-laws = arg_laws (bare (layout machine.the_row)) no machine.the_row machine_laws.the_row_laws refl

abbrev pub Z-laws : Laws Z
Z-laws = arg_laws (bare (layout global.the_row)) no global.the_row global_laws.the_row_laws refl

abbrev pub no_drop : Dict
no_drop = impl ("fmp_c::Destruct++none::drop" ∷ []) (tcons (layout Z) tnil) dnil

abbrev pub E : box.Bx
E = record {
  row = S;
  laws = S-laws;
  al = record {
    row = Z;
    laws = Z-laws;
    g = heap.ghosts;
    d = heap.dict;
    drops =
        no_drop;
  };
}
