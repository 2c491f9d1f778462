-- More turns change no stretch that is within its bound.
use Rattle.std.proofs.Common.{◌≡◌, ℕ, zero, suc, ◌≤◌, List, false, refl, arith}
use Rattle.fmp_tasklang.specs.Scopes.{Scope}
use Rattle.fmp_tasklang.specs.Contexts.{Item}
use Rattle.fmp_tasklang.specs.Values.{Values}
use Rattle.fmp_base.specs.Stretches.{is_over}
use Rattle.fmp_tasklang.specs.Stretches.{Way, Next, Goes, Turns, Stops, after_item, follow, out_of_turns, walk, weight}
use Rattle.fmp_tasklang.specs.Stretches.{turns}
use Rattle.fmp_tasklang.specs.Laws.{MoreTurnsChangeNothing}

-- where f is not over its bound, g is the same
abbrev Extends : (f g : Way) → Type 0
Extends f g = (locals : Values) (todo : List Item) → is_over (f locals todo) ≡ false → g locals todo ≡ f locals todo

over_extends : (g : Way) → Extends out_of_turns g
over_extends g locals todo e = absurd (cc e)

follow_extends :
    (again again' go go' : Way) →
    Extends again again' →
    Extends go go' →
    (n : Next) →
    is_over (follow again go n) ≡ false →
    follow again' go' n ≡ follow again go n
follow_extends again again' go go' a g (Goes locals todo) e = g locals todo e
follow_extends again again' go go' a g (Turns locals todo) e = a locals todo e
follow_extends again again' go go' a g (Stops s) e = refl

module _ (scope : Scope) where
  walk_extends :
      (again again' : Way) → Extends again again' → (n : ℕ) → Extends (walk scope again n) (walk scope again' n)
  walk_extends again again' a zero locals todo e = absurd (cc e)
  walk_extends again again' a (suc n) locals todo e =
      let go = walk scope again n in
      let go' = walk scope again' n in
      follow_extends again again' go go' a (walk_extends again again' a n) (after_item scope locals todo) e

  turns_extend : (low high : ℕ) → low ≤ high → Extends (turns scope low) (turns scope high)
  turns_extend zero zero le locals todo e = refl
  turns_extend zero (suc high) le locals todo e =
      let after = turns scope high in
      walk_extends out_of_turns after (over_extends after) (weight todo) locals todo e
  turns_extend (suc low) zero le locals todo e = absurd (omega (arith, le))
  turns_extend (suc low) (suc high) le locals todo e =
      let extends = turns_extend low high (omega (arith, le)) in
      walk_extends (turns scope low) (turns scope high) extends (weight todo) locals todo e

pub more_turns : MoreTurnsChangeNothing
more_turns scope c low high le e = turns_extend scope low high le c.locals c.todo e
