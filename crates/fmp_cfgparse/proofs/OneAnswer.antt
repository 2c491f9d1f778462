-- A text has at most one answer.
use Rattle.std.proofs.Common.{◌≡◌, ℕ, ◌+◌, ◌<◌, ◌≤◌, List, ◌++◌, length, slice_get, take, drop, Result, Ok, Err, inl}
use Rattle.std.proofs.Common.{inr, refl, sym, ap, ap₂, subst, ◌∙◌, arith, append_assoc}
use Rattle.std.proofs.lemmas.Bool.{cases_order}
use Rattle.std.proofs.lemmas.List.{take-take, take-append-drop}
use Rattle.fmp_base.specs.declared.systems.System.{System}
use Rattle.fmp_base.specs.Systems.{tables_of}
use Rattle.fmp_lex.specs.declared.fault.BuildFault.{BuildFault}
use Rattle.fmp_lex.specs.declared.fault.TextFile.TheVariants as file
use Rattle.fmp_lex.specs.declared.reading.GrammarFault.{GrammarFault}
use Rattle.fmp_lex.specs.declared.reading.GrammarFault.TheVariants.{Syntax, Depth}
use Rattle.fmp_lex.specs.declared.token.Token.{Token}
use Rattle.fmp_lex.specs.declared.token.TokenKind.{TokenKind}
use Rattle.fmp_lex.specs.Faults.{Spells, IsSyntaxFault, fault_of, offence_fault}
use Rattle.fmp_lex.specs.Positions.{text_end}
use Rattle.fmp_lex.specs.Reading.{Rel, kinds_of, IsWhole, Begins, IsFirstFault}
use Rattle.fmp_lex.proofs.Sequences.{Framed}
use Rattle.fmp_lex.proofs.Unique.{cuts_unique}
use Rattle.fmp_cfgparse.specs.Apis.{Making}
use Rattle.fmp_cfgparse.specs.Configurations.{Describes, IsOffence, IsFault}
use Rattle.fmp_cfgparse.specs.Configuring.{Offence, configured}
use Rattle.fmp_cfgparse.specs.Grammar.{Config}
use Rattle.fmp_cfgparse.specs.Laws.{HasOneAnswer}
use Rattle.fmp_cfgparse.specs.Trees.{ConfigurationTree}
use Rattle.fmp_cfgparse.proofs.Classes.{config_framed}
use Rattle.fmp_cfgparse.proofs.Single.{config_single}

module _ {A : Type 0} (X : Rel A) (framed : Framed X) where
  -- fewer tokens of a list begin something too
  begins_down : (ts : List TokenKind) (m n limit lower : ℕ) → m ≤ n → lower ≤ limit → Begins X limit (take n ts)
      → Begins X lower (take m ts)
  begins_down ts m n limit lower le low b =
      let front : take m ts ++ drop m (take n ts) ≡ take n ts = ap (λ z. z ++ drop m (take n ts))
      (sym (take-take m n ts le)) ∙ take-append-drop m (take n ts) in
      let whole : take n ts ++ b.0 ≡ take m ts ++ (drop m (take n ts) ++ b.0) = ap (λ z. z ++ b.0) (sym front)
      ∙ append_assoc (take m ts) (drop m (take n ts)) b.0 in (
        drop m (take n ts) ++ b.0,
        b.1,
        subst (λ us. X us lower 0 b.1 (length us)) whole
            (framed.same (take n ts ++ b.0) (take n ts ++ b.0) limit lower 0 b.1 _ low b.2 (λ k from lt. refl)),
      )

  not_before : (ts : List TokenKind) (j k : ℕ) (why other : GrammarFault) → IsFirstFault X ts j why
      → IsFirstFault X ts k other → j < k → ⊥
  not_before ts j k Syntax Syntax f g lt = let within = g.0 in f.2 (omega arith)
      (begins_down ts (j + 1) k k 0 (omega arith) (omega arith) g.1)
  not_before ts j k Syntax Depth f g lt = let within = g.0 in f.2 (omega arith)
      (begins_down ts (j + 1) (k + 1) k 0 (omega arith) (omega arith) g.1)
  not_before ts j k Depth Syntax f g lt = f.2 (begins_down ts (j + 1) k k (j + 1) (omega arith) (omega arith) g.1)
  not_before ts j k Depth Depth f g lt = f.2 (begins_down ts (j + 1) (k + 1) k (j + 1) (omega arith) (omega arith) g.1)

  one_why : (ts : List TokenKind) (j : ℕ) (why other : GrammarFault) → IsFirstFault X ts j why
      → IsFirstFault X ts j other → why ≡ other
  one_why ts j Syntax Syntax f g = refl
  one_why ts j Syntax Depth f g = absurd (f.2 g.0 (begins_down ts (j + 1) (j + 1) j 0 (omega arith) (omega arith) g.1))
  one_why ts j Depth Syntax f g = absurd (g.2 f.0 (begins_down ts (j + 1) (j + 1) j 0 (omega arith) (omega arith) f.1))
  one_why ts j Depth Depth f g = refl

  -- a list has one first fault
  pub one_first : (ts : List TokenKind) (j k : ℕ) (why other : GrammarFault) → IsFirstFault X ts j why
      → IsFirstFault X ts k other → (j ≡ k) × (why ≡ other)
  one_first ts j k why other f g = elim (cases_order j k) [
    | inl e ↦ (e, one_why ts j why other f (subst (λ n. IsFirstFault X ts n other) (sym e) g))
    | inr o ↦ elim o [
      | inl lt ↦ absurd (not_before ts j k why other f g lt)
      | inr lt ↦ absurd (not_before ts k j other why g f lt)
    ]
  ]

  pub not_whole : (ts : List TokenKind) (j : ℕ) (why : GrammarFault) (a : A) → IsFirstFault X ts j why
      → IsWhole X ts a → ⊥
  not_whole ts j Syntax a f x = f.3 a x
  not_whole ts j Depth a f x = f.3 a x

abbrev pub Faulty : List ℕ → BuildFault → Type 0
Faulty = IsSyntaxFault file.Configuration Config

abbrev pub Spelled : List ℕ → List Token → ConfigurationTree → Type 0
Spelled = Spells Config

pub one_spelled : (text : List ℕ) (ts us : List Token) (t u : ConfigurationTree) → Spelled text ts t
    → Spelled text us u → (us ≡ ts) × (u ≡ t)
one_spelled text ts us t u x y =
    let same = cuts_unique text 0 us ts y.1 x.1 in
    (same, config_single (kinds_of ts) t u x.2 (subst (λ zs. IsWhole Config (kinds_of zs) u) same y.2))

pub not_spelled : (text : List ℕ) (f : BuildFault) (ts : List Token) (t : ConfigurationTree) → Faulty text f
    → Spelled text ts t → ⊥
not_spelled text f ts t (inl a) x = let short = x.0 in let long = a.0 in absurd (omega arith)
not_spelled text f ts t (inr a) x =
    let same = cuts_unique text 0 ts a.1.0 x.1 a.1.1 in
    not_whole Config config_framed (kinds_of a.1.0) a.1.2 a.1.3 t a.1.4
    (subst (λ zs. IsWhole Config (kinds_of zs) t) same x.2)

one_faulty : (text : List ℕ) (f g : BuildFault) → Faulty text f → Faulty text g → f ≡ g
one_faulty text f g (inl a) (inl b) = a.1 ∙ sym b.1
one_faulty text f g (inl a) (inr b) = let long = a.0 in let short = b.0 in absurd (omega arith)
one_faulty text f g (inr a) (inl b) = let short = a.0 in let long = b.0 in absurd (omega arith)
one_faulty text f g (inr a) (inr b) =
    let x = a.1 in
    let y = b.1 in
    let same = cuts_unique text 0 y.0 x.0 y.1 x.1 in
    let first = subst (λ zs. IsFirstFault Config (kinds_of zs) y.2 y.3) same y.4 in
    let one = one_first Config config_framed (kinds_of x.0) x.2 y.2 x.3 y.3 x.4 first in
    x.5 ∙ (ap₂ (λ j why. fault_of file.Configuration (text_end text) (slice_get x.0 j) why) one.0 one.1 ∙
    (ap (λ zs. fault_of file.Configuration (text_end text) (slice_get zs y.2) y.3) (sym same) ∙ sym y.5))

one_offence : (text : List ℕ) (f g : BuildFault) → IsOffence text f → IsOffence text g → f ≡ g
one_offence text f g x y =
    let one = one_spelled text x.0 y.0 x.1 y.1 x.2 y.2 in
    let both : ◌≡◌ {A = Result Making Offence} (Err y.3) (Err x.3) = sym y.4 ∙ (ap configured one.1 ∙ x.4) in
    let same : x.3 ≡ y.3 = cc in
    x.5 ∙ (ap₂ (λ ts (o : Offence). offence_fault file.Configuration (slice_get ts o.at) o.why) (sym one.0) same
    ∙ sym y.5)

one_fault : (text : List ℕ) (f g : BuildFault) → IsFault text f → IsFault text g → f ≡ g
one_fault text f g (inl a) (inl b) = one_faulty text f g a b
one_fault text f g (inl a) (inr b) = absurd (not_spelled text f b.0 b.1 a b.2)
one_fault text f g (inr a) (inl b) = absurd (not_spelled text g a.0 a.1 b a.2)
one_fault text f g (inr a) (inr b) = one_offence text f g a b

one_system : (text : List ℕ) (s t : System) → Describes text s → Describes text t → tables_of s ≡ tables_of t
one_system text s t x y =
    let one = one_spelled text x.0 y.0 x.1 y.1 x.2 y.2 in
    let both : ◌≡◌ {A = Result Making Offence} (Ok y.3) (Ok x.3) = sym y.4 ∙ (ap configured one.1 ∙ x.4) in
    let same : x.3 ≡ y.3 = cc in
    x.5 ∙ (ap (λ (g : Making). g.tables) same ∙ sym y.5)

not_both : (text : List ℕ) (s : System) (f : BuildFault) → Describes text s → IsFault text f → ⊥
not_both text s f x (inl a) = not_spelled text f x.0 x.1 a x.2
not_both text s f x (inr a) =
    let one = one_spelled text x.0 a.0 x.1 a.1 x.2 a.2 in
    let both : ◌≡◌ {A = Result Making Offence} (Err a.3) (Ok x.3) = sym a.4 ∙ (ap configured one.1 ∙ x.4) in
    absurd (cc)

pub one_answer : (text : List ℕ) → HasOneAnswer text
one_answer text = record { one_system = one_system text; one_fault = one_fault text; not_both = not_both text }
