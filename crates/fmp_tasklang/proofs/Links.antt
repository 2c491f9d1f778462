-- Chains of operators of one level.
use Rattle.std.proofs.Common.{◌≡◌, ℕ, zero, suc, ◌+◌, ◌-◌, ◌≤◌, ◌<◌, List, [], ◌∷◌, length, slice_get, Option, Some}
use Rattle.std.proofs.Common.{None, option_and_then, refl, sym, ap, subst, ◌∙◌, arith}
use Rattle.fmp_lex.specs.declared.reading.GrammarFault.{GrammarFault}
use Rattle.fmp_lex.specs.declared.token.TokenKind.{TokenKind}
use Rattle.fmp_lex.specs.Reading.{Rel, At, Seq, Star, ParseResult, found, stopped, map_result, Right}
use Rattle.fmp_lex.proofs.Sequences.{Follows, token_found, seq_then, seq_stop, right_as}
use Rattle.fmp_lex.proofs.Repetitions.{Behind, behind_then, star_fills, star_none, star_more, star_stop}
use Rattle.fmp_tasklang.specs.declared.trees.Operator.{Operator}
use Rattle.fmp_tasklang.specs.Trees.{ExpressionTree}
use Rattle.fmp_tasklang.specs.Views.{LinkTree, chain_tree}
use Rattle.fmp_tasklang.specs.Expressions.{operator_of, IsOperand, IsExpression, an_operand, a_chain, AreLinks, no_link}
use Rattle.fmp_tasklang.specs.Expressions.{a_link}
use Rattle.fmp_tasklang.specs.Reading.{EndsExpression, OneOperand, OneExpression, OneLink, RightOperand}
use Rattle.fmp_tasklang.specs.Reading.{RightExpression, RightLinks}
use Rattle.fmp_tasklang.proofs.Layers.{token_there, right_same}
use Rattle.fmp_tasklang.proofs.Operands.{open_bracket, expression_framed, link_framed}

one_operator : (a b : ℕ) (x y : Operator) → ◌≡◌ {A = Option (ℕ × Operator)} (Some (a, x)) (Some (b, y)) → (a ≡ b)
    × (x ≡ y)
one_operator a b x y e =
    let p : ◌≡◌ {A = ℕ × Operator} (a, x) (b, y) = cc in
    (ap (λ (z : ℕ × Operator). z.0) p, ap (λ (z : ℕ × Operator). z.1) p)

module _ (us : List TokenKind) (limit d m : ℕ) where
  pub to_star : {i : ℕ} {links : List LinkTree} {j : ℕ} → AreLinks us limit d m i links j
      → Star (OneLink d m) us limit i links j
  to_star no_link = refl
  to_star (a_link {a = a} {b = b} x e links) = (b, (a, x, e), to_star links)

  from_star : (i : ℕ) (links : List LinkTree) (j : ℕ) → Star (OneLink d m) us limit i links j
      → AreLinks us limit d m i links j
  from_star i [] j s = subst (λ n. AreLinks us limit d m i [] n) (sym s) no_link
  from_star i (l ∷ links) j s = a_link s.1.1 s.1.2 (from_star s.0 links j s.2)

  expression_zero_back : {l i : ℕ} {e : ExpressionTree} {j : ℕ} → l ≡ 0 → IsExpression us limit d l i e j
      → IsOperand us limit d i e j
  expression_zero_back at (an_operand z e) = e
  expression_zero_back at (a_chain z first links is) = absurd (omega arith)

module _ (us : List TokenKind) (limit d m : ℕ) where
  chain_back : {l i : ℕ} {e : ExpressionTree} {j : ℕ} → l ≡ m + 1 → IsExpression us limit d l i e j →
      (p : ExpressionTree × List LinkTree) × (e ≡ chain_tree p.0 p.1)
      × Seq (OneExpression d m) (Star (OneLink d m)) us limit i p j
  chain_back at (an_operand z e) = absurd (omega arith)
  chain_back {i = i} {j = j} at (a_chain {m = n} {a = a} {first = first} {links = links} z x more is) =
      let same : n ≡ m = omega arith in (
        (first, links),
        is,
        (
          a,
          subst (λ k. IsExpression us limit d k i first a) same x,
          to_star us limit d m
              (subst (λ k. AreLinks us limit d k a links j) same more),
        ),
      )

-- an operand is an expression of the tightest level
pub expression_zero : (ts : List TokenKind) (d l i : ℕ) → l ≡ 0 → (o : ParseResult ExpressionTree)
    → RightOperand ts d i o → RightExpression ts d l i o
expression_zero ts d l i at o x = right_same (OneOperand d) (OneExpression d l) (λ us limit e j r. an_operand at r)
    (λ us limit e j same r ends. (expression_zero_back us limit d 0 at r, ends.0)) o x

module _ (d m : ℕ) where
  -- where a chain ends, or another link of it begins, an operand of it ends
  pub links_follow : Follows (EndsExpression m) (Star (OneLink d m)) (EndsExpression (m + 1))
  links_follow us limit k [] j s ends = (
    (λ is. ends.0 (subst (λ p. slice_get us p ≡ Some open_bracket) (sym s) is)),
    (λ n op is. let le = ends.1 n op (subst (λ p. option_and_then operator_of (slice_get us p) ≡ Some (n, op))
        (sym s) is) in omega arith),
  )
  links_follow us limit k (l ∷ links) j s ends = (
    (λ is. let e : ◌≡◌ {A = Option (ℕ × Operator)} None (Some (m, l.operator)) = ap (option_and_then operator_of)
        (sym is) ∙ s.1.1.0 in absurd (cc)),
    (λ n op is. let one = one_operator m n l.operator op (sym s.1.1.0 ∙ is) in let e = one.0 in omega arith),
  )

  module _ (ts : List TokenKind) (l i : ℕ) (at : l ≡ m + 1) where
    chain_as : (o : ParseResult (ExpressionTree × List LinkTree))
        → Right (At (Seq (OneExpression d m) (Star (OneLink d m))) i) (EndsExpression (m + 1)) ts i o →
        RightExpression ts d l i (map_result (λ (p : ExpressionTree × List LinkTree). chain_tree p.0 p.1) o)
    chain_as o x = right_as (Seq (OneExpression d m) (Star (OneLink d m))) (OneExpression d l) (λ p. chain_tree p.0 p.1)
        (λ us limit p j r. a_chain at r.1 (from_star us limit d m r.0 p.1 j r.2) refl)
        (λ us limit e j same r ends. let b = chain_back us limit d m at r in
        (b.0, b.1, b.2, subst (λ n. EndsExpression n us j) at ends)) o x

    pub chain_then : (a : ExpressionTree) (k : ℕ) → RightExpression ts d m i (found a k)
        → (o : ParseResult (List LinkTree)) → RightLinks ts d m k o →
        RightExpression ts d l i (map_result (chain_tree a) o)
    chain_then a k x (found links j) y = chain_as (found (a, links) j)
        (seq_then (OneExpression d m) (Star (OneLink d m)) (expression_framed d m) links_follow x (found links j) y)
    chain_then a k x (stopped j why) y = chain_as (stopped j why)
        (seq_then (OneExpression d m) (Star (OneLink d m)) (expression_framed d m) links_follow x (stopped j why) y)

    pub chain_stop : (j : ℕ) (why : GrammarFault) → RightExpression ts d m i (stopped j why)
        → RightExpression ts d l i (stopped j why)
    chain_stop j why x = chain_as (stopped j why)
        (seq_stop (OneExpression d m) (Star (OneLink d m)) (expression_framed d m)
        (star_fills (OneLink d m)) links_follow x)

  module _ (ts : List TokenKind) (i : ℕ) where
    module _ (op : Operator) (is : option_and_then operator_of (slice_get ts i) ≡ Some (m, op)) where
      abbrev sign : (t : TokenKind) × (slice_get ts i ≡ Some t) × (operator_of t ≡ Some (m, op))
      sign = token_there operator_of (slice_get ts i) (m, op) is

      abbrev Signed : Rel ExpressionTree
      Signed = Behind sign.0 (OneExpression d m)

      abbrev link_of : ExpressionTree → LinkTree
      link_of e = record { operator = op; operand = e }

      link_back : (us : List TokenKind) (limit : ℕ) (l : LinkTree) (j : ℕ) → slice_get us i ≡ slice_get ts i
          → OneLink d m us limit i l j →
          (e : ExpressionTree) × (l ≡ link_of e) × Signed us limit i e j
      link_back us limit l j at r =
          let one = one_operator m m l.operator op (sym r.1.0 ∙ (ap (option_and_then operator_of) at ∙ is)) in
          (l.operand, ap (λ o. record { operator = o; operand = l.operand }) one.1, (r.0, (at ∙ sign.1, r.1.1), r.2))

      link_as : (o : ParseResult ExpressionTree) → Right (At Signed i) (EndsExpression m) ts i o
          → Right (At (OneLink d m) i) (EndsExpression m) ts i (map_result link_of o)
      link_as o x = right_as Signed (OneLink d m) link_of
          (λ us limit e j r. (r.0, (ap (option_and_then operator_of) r.1.0 ∙ sign.2, r.1.1), r.2))
          (λ us limit l j at r ends. let b = link_back us limit l j at r in (b.0, b.1, b.2, ends)) o x

      link_right : (o : ParseResult ExpressionTree) → RightExpression ts d m (i + 1) o
          → Right (At (OneLink d m) i) (EndsExpression m) ts i (map_result link_of o)
      link_right o x = link_as o (behind_then sign.0 (OneExpression d m) (token_found sign.0 ts i sign.1) o x)

      goes_on : (us : List TokenKind) → slice_get us i ≡ slice_get ts i → EndsExpression (m + 1) us i → ⊥
      goes_on us at ends = let le = ends.1 m op (ap (option_and_then operator_of) at ∙ is) in absurd (omega arith)

      pub links_more : (e : ExpressionTree) (k : ℕ) → RightExpression ts d m (i + 1) (found e k)
          → (o : ParseResult (List LinkTree)) → RightLinks ts d m k o →
          RightLinks ts d m i (map_result (λ (more : List LinkTree). record { operator = op; operand = e } ∷ more) o)
      links_more e k x o rest = star_more (OneLink d m) (EndsExpression m) (EndsExpression (m + 1)) ts i
          (link_framed d m) links_follow goes_on
          (link_of e) k (link_right (found e k) x) o rest

      pub links_stop : (j : ℕ) (why : GrammarFault) → RightExpression ts d m (i + 1) (stopped j why)
          → RightLinks ts d m i (stopped j why)
      links_stop j why x = star_stop (OneLink d m) (EndsExpression m) (EndsExpression (m + 1)) ts i
          (link_framed d m) links_follow goes_on
          j why (link_right (stopped j why) x)

    pub links_none : ((op : Operator) → option_and_then operator_of (slice_get ts i) ≡ Some (m, op) → ⊥)
        → i ≤ length ts → RightLinks ts d m i (found [] i)
    links_none none within = star_none (OneLink d m) ts i
        (λ us limit l k at x. none l.operator (ap (option_and_then operator_of) (sym at) ∙ x.1.0)) within

-- where no operator of the levels between follows, an expression of lower levels is one of higher levels
pub raised : (ts : List TokenKind) (d i : ℕ) (a : ExpressionTree) (k l t g : ℕ) → t ≡ l + g → k ≤ length ts
    → ((n : ℕ) → l ≤ n → n < t → (op : Operator) → option_and_then operator_of (slice_get ts k) ≡ Some (n, op) → ⊥)
    → RightExpression ts d l i (found a k) → RightExpression ts d t i (found a k)
raised ts d i a k l t zero at within none x =
    let same : l ≡ t = omega arith in subst (λ (n : ℕ). RightExpression ts d n i (found a k)) same x
raised ts d i a k l t (suc g) at within none x =
    chain_then d (l + g) ts t i (omega arith) a k
    (raised ts d i a k l (l + g) g refl within (λ n le lt op is. none n le (omega arith) op is) x)
    (found [] k) (links_none d (l + g) ts k (λ op is. none (l + g) (omega arith) (omega arith) op is) within)

-- a fault of lower levels is one of higher levels
pub raised_stop : (ts : List TokenKind) (d i j : ℕ) (why : GrammarFault) (l t g : ℕ) → t ≡ l + g
    → RightExpression ts d l i (stopped j why) → RightExpression ts d t i (stopped j why)
raised_stop ts d i j why l t zero at x =
    let same : l ≡ t = omega arith in subst (λ (n : ℕ). RightExpression ts d n i (stopped j why)) same x
raised_stop ts d i j why l t (suc g) at x =
    chain_stop d (l + g) ts t i (omega arith) j why (raised_stop ts d i j why l (l + g) g refl x)

-- up to the level of the operator that follows
pub raised_to : (ts : List TokenKind) (d i : ℕ) (a : ExpressionTree) (k l m : ℕ) (op : Operator) → l ≤ m → k ≤ length ts
    → option_and_then operator_of (slice_get ts k) ≡ Some (m, op)
    → RightExpression ts d l i (found a k) → RightExpression ts d m i (found a k)
raised_to ts d i a k l m op le within is x =
    raised ts d i a k l m (m - l) (omega arith) within
    (λ n above below other same. let e = (one_operator n m other op (sym same ∙ is)).0 in omega arith) x
