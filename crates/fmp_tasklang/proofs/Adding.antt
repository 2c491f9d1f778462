-- What is right about adding statements to others, one after another.
use Rattle.std.proofs.Common.{◌≡◌, ℕ, ◌+◌, ◌≤◌, Bool, List, [], ◌∷◌, ◌++◌, length, slice_get, Some, Ok, Err, refl, sym}
use Rattle.std.proofs.Common.{ap, subst, ◌∙◌, arith, append-nil, append_assoc}
use Rattle.fmp_lex.specs.declared.reading.ReadError.{ReadError}
use Rattle.fmp_lex.specs.declared.reading.ReadError.TheVariants.{Memory, Fault}
use Rattle.fmp_lex.specs.declared.token.TokenKind.{TokenKind}
use Rattle.fmp_lex.specs.Reading.{Rel, Star, ParseResult, found, stopped, map_result, Answers}
use Rattle.fmp_lex.proofs.Repetitions.{put_before, push_before}
use Rattle.fmp_tasklang.specs.Reading.{OneStatement, statements_view, RightStatement, RightStatements}
use Rattle.fmp_tasklang.specs.Streaming.{Adds}
use Rattle.fmp_tasklang.specs.Trees.{StatementTree}
use Rattle.fmp_tasklang.specs.Views.{statement_view}
use Rattle.fmp_tasklang.proofs.StatementFrames.{close_brace, statement_up}
use Rattle.fmp_tasklang.proofs.StatementPaths.{statements_none, statements_more, statements_stop}

star_push : {A : Type 0} (X : Rel A) (us : List TokenKind) (limit i : ℕ) (xs : List A) (k : ℕ) (a : A) (j : ℕ) →
    Star X us limit i xs k → X us limit k a j → Star X us limit i (xs ++ a ∷ []) j
star_push X us limit i [] k a j s x = (j, subst (λ n. X us limit n a j) s x, refl)
star_push X us limit i (b ∷ more) k a j s x = (s.0, s.1, star_push X us limit s.0 more k a j s.2 x)

before_none : {A : Type 0} (o : ParseResult (List A)) (P : ParseResult (List A) → Type 0) → P o →
    P (map_result (put_before []) o)
before_none (found a j) P x = x
before_none (stopped j why) P x = x

-- the statements that were added from i up to k, and what a right answer about the others gives
abbrev pub Added : List TokenKind → ℕ → Bool → (i k : ℕ) → (before after : List StatementTree) → Type 0
Added ts d loop i k before after =
    (ss : List StatementTree)
    × (after ≡ before ++ ss)
    × (i ≤ k)
    × ((limit : ℕ) → Star (OneStatement d loop) ts limit i ss k)
    × ((o : ParseResult (List StatementTree)) → RightStatements ts d loop k o →
    RightStatements ts d loop i (map_result (put_before ss) o))

module _ (ts : List TokenKind) (d : ℕ) (loop : Bool) (i : ℕ) where
  pub added_none : (before : List StatementTree) → Added ts d loop i i before before
  added_none before = (
    [],
    sym (append-nil before),
    omega arith,
    λ limit. refl,
    λ o x. before_none o (RightStatements ts d loop i) x,
  )

  module _ (k : ℕ) (before after : List StatementTree) (added : Added ts d loop i k before after) where
    pub added_all : slice_get ts k ≡ Some close_brace → k ≤ length ts → Adds ts d loop i k before after (Ok tt)
    added_all is within =
        let right = added.4 (found [] k) (statements_none d loop ts k is within) in
        (added.0, added.1, subst (λ ss. RightStatements ts d loop i (found ss k)) (append-nil added.0) right, is)

    module _ (is_not : slice_get ts k ≡ Some close_brace → ⊥) where
      pub added_more : (a : StatementTree) (n : ℕ) → RightStatement ts d loop k (found a n) →
          Added ts d loop i n before (after ++ a ∷ [])
      added_more a n x =
          let up = statement_up ts 0 (x.reads 0) in
          let long = added.2 in (
            added.0 ++ a ∷ [],
            ap (λ ss. ss ++ a ∷ []) added.1 ∙ append_assoc before added.0 (a ∷ []),
            omega arith,
            λ limit. star_push (OneStatement d loop) ts limit i added.0 k a n (added.3 limit) (x.reads limit),
            λ o rest. push_before added.0 a o (RightStatements ts d loop i)
                (added.4 (map_result (λ (more : List StatementTree). a ∷ more) o)
                (statements_more d loop ts k is_not a n x o rest)),
          )

      pub added_stopped : k ≤ length ts → (e : ReadError) →
          Answers statement_view (Err e) (RightStatement ts d loop k) → Adds ts d loop i k before after (Err e)
      added_stopped within Memory x = tt
      added_stopped within (Fault f) x = (
        added.0,
        added.1,
        added.4 (stopped f.at f.why) (statements_stop d loop ts k is_not f.at f.why x),
        added.2,
        within,
        added.3,
      )

-- the reader of statements hands on what was added to none
pub adds_none : (ts : List TokenKind) (d : ℕ) (loop : Bool) (i j : ℕ) (after : List StatementTree) →
    Adds ts d loop i j [] after (Ok tt) → RightStatements ts d loop i (found after j)
adds_none ts d loop i j after x = subst (λ ss. RightStatements ts d loop i (found ss j)) (sym x.1) x.2

pub adds_stopped : (ts : List TokenKind) (d : ℕ) (loop : Bool) (i j : ℕ) (before after : List StatementTree)
    (e : ReadError) → Adds ts d loop i j before after (Err e) →
    Answers statements_view (Err e) (RightStatements ts d loop i)
adds_stopped ts d loop i j before after Memory x = tt
adds_stopped ts d loop i j before after (Fault f) x = x.2
