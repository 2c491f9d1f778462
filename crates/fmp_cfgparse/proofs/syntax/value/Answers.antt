use Rattle.std.proofs.Common.{◌≡◌, ◌≤◌, ◌+◌, ◌++◌, ◌∷◌, List, [], length, refl, ap, ◌∙◌, rules, append-nil}
use Rattle.std.proofs.lemmas.List.{length-map}
use Rattle.std.proofs.lemmas.Result.{err_from_is_err_and}
use Rattle.fmp_lex.specs.Reading.{kinds_of, ParseResult, found, stopped, map_result}
use Rattle.fmp_lex.proofs.Answered.{find_as}
use Rattle.fmp_cfgparse.specs.declared.tree.Item.{Item}
use Rattle.fmp_cfgparse.specs.Reading.{itself, RightItem, RightValue}
use Rattle.fmp_cfgparse.specs.Trees.{items_view}
use Rattle.fmp_cfgparse.proofs.Items.{value_then, value_stop, more_items, more_items_stop, no_more_items}
use Rattle.fmp_lex.proofs.Repetitions.{put_before, push_before}
use Rattle.fmp_cfgparse.proofs.syntax.value.Goals as goal

first_of_value : (a : Item) (o : ParseResult (List Item)) (P : ParseResult (List Item) → Type 0)
    → P (map_result (λ (more : List Item). a ∷ more) o) →
    P (map_result (put_before (a ∷ [])) o)
first_of_value a (found more j) P x = x
first_of_value a (stopped j why) P x = x

pub returns-in_err-first : goal.returns-in_err-first
returns-in_err-first c =
    let ts = kinds_of c.args.tokens.now in
    let i = c.args.at in
    let p = err_from_is_err_and c.from_residual.result c.from_residual.ensures.1 in
    rw (p.1, p.2) (find_as itself items_view c.in_err-first.field-0.0 (RightItem ts i) (RightValue ts i)
    (λ j why x. value_stop ts i j why x) c.in_err-first.ensures)

pub returns-then-not-is_symbol_at : goal.returns-then-not-is_symbol_at
returns-then-not-is_symbol_at c =
    let ts = kinds_of c.args.tokens.now in
    let k = c.in_ok-first.next in
    let x : RightItem ts c.args.at (found c.in_ok-first.first k) = c.in_ok-first.ensures in
    value_then ts c.args.at k c.in_ok-first.first x (found [] k) (no_more_items ts k
    (c.is_symbol_at.ensures.no (search rules)) x.within)

pub items-init : goal.items-init
items-init c =
    let ts = kinds_of c.args.tokens.now in
    let x : RightItem ts c.args.at (found c.in_ok-first.first c.in_ok-first.next) = c.in_ok-first.ensures in
    let within = simp length-map at x.within in
    let pushed : c.push.new.self.items ≡ c.in_ok-first.first ∷ [] = c.in_ok-push.ensures.items
    ∙ ap (λ z. z ++ c.in_ok-first.first ∷ []) c.new-items.ensures.items in
    record {
      within = within;
      goes = rw pushed (λ o rest. first_of_value c.in_ok-first.first o (RightValue ts c.args.at)
          (value_then ts c.args.at c.in_ok-first.next c.in_ok-first.first x o rest));
    }

pub returns-in_err-one : goal.returns-in_err-one
returns-in_err-one c =
    let ts = kinds_of c.args.tokens.now in
    let i = c.args.at in
    let m = c.items.i in
    let p = err_from_is_err_and c.from_residual-in_err-one.result c.from_residual-in_err-one.ensures.1 in
    rw (p.1, p.2) (find_as itself items_view c.in_err-one.field-0.0 (RightItem ts (m + 1)) (RightValue ts i)
    (λ j why x. c.items.invariant.goes (stopped j why) (more_items_stop ts m
    (c.items-test.ensures.yes (search rules)) j why x)) c.in_err-one.ensures)

pub items-preserved : goal.items-preserved
items-preserved c =
    let ts = kinds_of c.args.tokens.now in
    let i = c.args.at in
    let m = c.items.i in
    let a = c.in_ok-one.one in
    let k = c.in_ok-one.next in
    let x : RightItem ts (m + 1) (found a k) = c.in_ok-one.ensures in
    let within = simp length-map at x.within in
    let pushed : c.push-in-items.new.self.items ≡ c.items.items.items ++ a ∷ [] = c.in_ok-push-2.ensures.items in
    record {
      within = within;
      goes = rw pushed (λ o rest. push_before c.items.items.items a o (RightValue ts i)
          (c.items.invariant.goes (map_result (λ (more : List Item). a ∷ more) o)
          (more_items ts m (c.items-test.ensures.yes (search rules)) a k x o rest)));
    }

pub returns : goal.returns
returns c =
    let ts = kinds_of c.args.tokens.now in
    let m = c.items.i in
    let within : m ≤ length ts = simp length-map c.items.invariant.within in
    rw append-nil at (c.items.invariant.goes (found [] m) (no_more_items ts m (c.items-test.ensures.no refl) within))
