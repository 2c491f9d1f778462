use Rattle.std.proofs.Common.{rules, ◌≡◌, List, ℕ, Some, length, slice_get, refl, sym, ap, ◌∙◌}
use Rattle.std.proofs.lemmas.Option.{slice_get_read}
use Rattle.fmp_visited.specs.declared.kept.State.{State}
use Rattle.fmp_visited.specs.Kept.{row_in}
use Rattle.fmp_visited.proofs.KeptLemmas.{row-found, row-none}
use Rattle.fmp_visited.proofs.kept.StateStore.row.Goals as goal

pub returns-in-Some : goal.returns-in-Some
returns-in-Some c =
    let states : List State = c.deref.result.now in
    let state : State = c.in-Some.state.now in
    let look = c.in-Some.ensures.lookup in
    let here : slice_get states c.args.i ≡ Some state = slice_get_read states
    (length states) c.args.i state refl look.3.0 look.1 in
    let kept : slice_get c.self.inside.states.items c.args.i ≡ Some state =
    ap (λ (xs : List State). slice_get xs c.args.i) (sym c.deref.ensures.value) ∙ here in
    let row : c.row_of_state.result.now ≡ row_in c.self.inside.bytes.items state =
    c.row_of_state.ensures ∙ ap (λ (b : List ℕ). row_in b state) c.deref-in-Some.ensures.value in
    ap Some row ∙ row-found c.self.inside.bytes.items c.self.inside.states.items c.args.i state c.args.self.now
    c.self.view_is kept

pub returns-in-None : goal.returns-in-None
returns-in-None c =
    row-none c.self.inside.bytes.items c.self.inside.states.items c.args.i c.args.self.now c.self.view_is (search rules)
