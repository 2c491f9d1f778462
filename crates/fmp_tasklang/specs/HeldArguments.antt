-- The arguments that the places of a call hold.
use Rattle.std.specs.Prelude.{List, [], ◌∷◌}
use Rattle.fmp_tasklang.specs.declared.argument_list.ArgumentRoom.{ArgumentRoom}
use Rattle.fmp_tasklang.specs.declared.argument_list.ArgumentRoom.TheVariants as held
use Rattle.fmp_tasklang.specs.declared.trees.Expression.{Expression}

abbrev pub held_items : ArgumentRoom → List Expression
held_items held.Nothing = []
held_items (held.One e) = e ∷ []
held_items (held.Several v) = v.items
