-- What the reader of a whole list answers.
use Rattle.std.proofs.Common.{◌≡◌, ℕ, zero, suc, ◌+◌, ◌<◌, ◌≤◌, List, [], ◌∷◌, ◌++◌, length, slice_get, take, drop}
use Rattle.std.proofs.Common.{Some, refl, inl, inr, sym, ap, ap₂, subst, ◌∙◌, arith, length-append}
use Rattle.std.proofs.lemmas.List.{take-append-drop}
use Rattle.std.proofs.lemmas.Option.{slice_get_past, slice_get_cases}
use Rattle.std.proofs.lemmas.Bool.{cases_lt}
use Rattle.fmp_lex.specs.declared.token.TokenKind.{TokenKind}
use Rattle.fmp_lex.specs.declared.reading.GrammarFault.{GrammarFault}
use Rattle.fmp_lex.specs.declared.reading.GrammarFault.TheVariants.{Syntax, Depth}
use Rattle.fmp_lex.specs.Reading.{Rel, At, Same, found, stopped, Completes, Right, IsWhole, Begins, IsFirstFault}
use Rattle.fmp_lex.proofs.Lists.{same_take, take_long}
use Rattle.fmp_lex.proofs.Sequences.{Framed, same_between}

same_front : (ts us : List TokenKind) (n : ℕ) → n ≤ length ts → n ≤ length us → Same n ts us → take n ts ≡ take n us
same_front ts us zero a b same = refl
same_front [] us (suc n) a b same = absurd (omega arith)
same_front (x ∷ ts) [] (suc n) a b same = absurd (omega arith)
same_front (x ∷ ts) (y ∷ us) (suc n) a b same =
    let heads : Some x ≡ Some y = same 0 (omega arith) in
    let head : x ≡ y = cc in
    ap₂ (λ z zs. z ∷ zs) head (same_front ts us n (omega arith) (omega arith) (λ k lt. same (suc k) (omega arith)))

-- a list that begins with the first n tokens
fronts_long : (ts rest : List TokenKind) (n : ℕ) → n ≤ length ts → n ≤ length (take n ts ++ rest)
fronts_long ts rest n le = let e = length-append (take n ts) rest in let long = take_long ts n le in omega arith

inside : (ts us : List TokenKind) (j : ℕ) → j + 1 ≤ length us → slice_get ts j ≡ slice_get us j → j < length ts
inside ts us j long same = elim (cases_lt j (length ts)) [
  | inl lt ↦ lt
  | inr past ↦
      let none = slice_get_past ts j past in
      let other = slice_get_cases us j in
      elim other.1 [ inl some ↦ (let is = some.2 in absurd (cc)) | inr gone ↦ absurd (omega (arith, gone.0)) ]
]

-- Ends is what may follow a whole list: its end does
module _ {A : Type 0} (X : Rel A) (Ends : List TokenKind → ℕ → Type 0) (ends : (us : List TokenKind)
    → Ends us (length us)) where
  -- a list that completes the first n tokens
  begins : (ts : List TokenKind) (n limit : ℕ) → n ≤ length ts → Completes (At X 0) ts n limit
      → Begins X limit (take n ts)
  begins ts n limit le c =
      let whole : take n ts ++ drop n c.other ≡ c.other = ap (λ z. z ++ drop n c.other)
      (same_front ts c.other n le c.long c.same) ∙ take-append-drop n c.other in
      (drop n c.other, c.tree, subst (λ us. X us limit 0 c.tree (length us)) (sym whole) c.reads)

  -- the reader took all tokens
  pub whole_found : (ts : List TokenKind) (a : A) (j : ℕ) → length ts ≤ j → Right (At X 0) Ends ts 0 (found a j) →
      IsWhole X ts a × ((other : A) → IsWhole X ts other → other ≡ a)
  whole_found ts a j past x =
      let within = x.within in
      let e : j ≡ length ts = omega arith in (
        subst (λ k. X ts (length ts) 0 a k) e (x.reads (length ts)),
        λ other r.
            (x.decides ts (length ts) other (length ts) (λ k lt. refl) (omega arith) r (ends ts)).0,
      )

  -- tokens are left
  pub whole_longer : Framed X → (ts : List TokenKind) (a : A) (j : ℕ) → j < length ts
      → Right (At X 0) Ends ts 0 (found a j) → IsFirstFault X ts j Syntax
  whole_longer framed ts a j lt x =
      let same = same_take ts [] j (omega arith) in
      let size : length (take j ts ++ []) ≡ j = (let e = length-append (take j ts) [] in let long = take_long ts j
      (omega arith) in omega arith) in (
        omega arith,
        (
          [],
          a,
          subst (λ k. X (take j ts ++ []) j 0 a k) (sym size) (framed.same ts (take j ts ++ []) j j 0 a j
              (omega arith) (x.reads j) (same_between 0 j ts (take j ts ++ []) same)),
        ),
        (λ h more. let e = x.decides (take (j + 1) ts ++ more.0) 0 more.1 _
            (same_take ts more.0 (j + 1) (omega arith)) (omega arith) more.2 (ends _) in
            let long = fronts_long ts more.0 (j + 1) (omega arith) in absurd (omega (arith, e.1))),
        (λ other r. let e = x.decides ts (length ts) other (length ts) (λ k h. refl) (omega arith) r
            (ends ts) in absurd (omega (arith, e.1))),
      )

  -- the reader stopped
  pub whole_stopped : (ts : List TokenKind) (j : ℕ) (why : GrammarFault) → Right (At X 0) Ends ts 0 (stopped j why)
      → IsFirstFault X ts j why
  whole_stopped ts j Syntax x = (
    x.within,
    begins ts j j x.within x.reads,
    (λ h more. x.decides (take (j + 1) ts ++ more.0) 0 more.1 _ (same_take ts more.0 (j + 1) (omega arith))
        (omega arith) more.2 (ends _)),
    (λ other r. x.decides ts (length ts) other (length ts) (λ k h. refl) (omega arith) r (ends ts)),
  )
  whole_stopped ts j Depth x =
      let c = x.reads in
      let lt : j < length ts = inside ts c.other j c.long (c.same j (omega arith)) in (
        lt,
        begins ts (j + 1) j (omega arith) c,
        (λ more. x.decides (take (j + 1) ts ++ more.0) (j + 1) more.1 _ (same_take ts more.0 (j + 1) (omega arith))
            (omega arith) more.2 (ends _)),
        (λ other r. x.decides ts (length ts) other (length ts) (λ k h. refl) (omega arith) r (ends ts)),
      )
