-- Bodies and variables are judged one after another.
use Rattle.std.proofs.Common.{◌≡◌, ℕ, ◌+◌, ◌<◌, ◌≤◌, List, [], ◌∷◌, ◌++◌, Option, Some, None, Err, length, take, drop}
use Rattle.std.proofs.Common.{get_or, map, refl, sym, ap, ◌∙◌, subst, append_assoc}
use Rattle.std.proofs.lemmas.List.{take_more}
use Rattle.fmp_base.specs.declared.names.Name.{Name}
use Rattle.fmp_base.specs.Systems.{SystemTables}
use Rattle.fmp_lex.specs.declared.fault.BuildFault.{BuildFault}
use Rattle.fmp_lex.specs.declared.fault.BuildFault.TheVariants as build
use Rattle.fmp_lex.specs.declared.fault.TextFile.TheVariants as file
use Rattle.fmp_lex.specs.declared.token.Token.{Token}
use Rattle.fmp_tasklang.specs.declared.trees.Body.{Body}
use Rattle.fmp_tasklang.specs.Trees.{BodyTree}
use Rattle.fmp_tasklang.specs.Views.{body_view}
use Rattle.fmp_instructions.specs.Instructions.{BodyTables}
use Rattle.fmp_instructions.specs.Verify.{Verified}
use Rattle.fmp_scopes.specs.declared.offences.Offence.{Offence}
use Rattle.fmp_tasklang.specs.CallForms.{CallsFit}
use Rattle.fmp_codegen.specs.Compiling.{body_offence, bodies_offence, compiled, compiled_body, IsAccepted, IsCompiled}
use Rattle.fmp_codegen.specs.Laws.{DoesText}
use Rattle.fmp_scopes.specs.Naming.{fault_in, first_offence}
use Rattle.fmp_codegen.proofs.Bodies.{does_text}
use Rattle.fmp_scopes.proofs.Loops.{drop-all, map-step}
use Rattle.fmp_codegen.proofs.VerifiedBodies.{is_verified}

pub map-append : {A B : Type 0} (f : A → B) (xs ys : List A) → map f (xs ++ ys) ≡ map f xs ++ map f ys
map-append f [] ys = refl
map-append f (x ∷ xs) ys = ap (λ zs. f x ∷ zs) (map-append f xs ys)

pub take-step :
    {A B : Type 0} (f : A → B) (xs : List A) (i : ℕ) (x : A) → i < length xs → x ≡ get_or xs i x →
    map f (take (i + 1) xs) ≡ map f (take i xs) ++ f x ∷ []
take-step f xs i x h e =
    ap (map f) (take_more xs i x h) ∙ map-append f (take i xs) (get_or xs i x ∷ [])
    ∙ ap (λ y. map f (take i xs) ++ f y ∷ []) (sym e)

module _ (tables : SystemTables) (bodies : List Body) (i : ℕ) (b : Body) (within : i < length bodies)
    (is : b ≡ get_or bodies i b)
    (whole : Option Offence) where
  abbrev names_before : ℕ → List Name
  names_before n = map (λ (x : Body). x.name.name) (take n bodies)

  abbrev judged : ℕ → Option Offence
  judged n = bodies_offence tables (names_before n) (map body_view (drop n bodies))

  unrolled :
      judged i ≡ first_offence (body_offence tables (names_before i) (body_view b)) (judged (i + 1))
  unrolled =
      ap (bodies_offence tables (names_before i)) (map-step body_view bodies i b within is)
      ∙ ap (λ ns. first_offence (body_offence tables (names_before i) (body_view b))
      (bodies_offence tables ns (map body_view (drop (i + 1) bodies))))
      (sym (take-step (λ (x : Body). x.name.name) bodies i b within is))

  -- a body without a fault
  pub judged-on : None ≡ body_offence tables (names_before i) (body_view b) → judged i ≡ whole → judged (i + 1) ≡ whole
  judged-on h before =
      ap (λ o. first_offence o (judged (i + 1))) h ∙ sym unrolled ∙ before

  -- the first body with a fault
  pub judged-here : (o : Offence) → Some o ≡ body_offence tables (names_before i) (body_view b) → judged i ≡ whole
      → whole ≡ Some o
  judged-here o h before = sym before ∙ unrolled ∙ ap (λ x. first_offence x (judged (i + 1))) (sym h)

-- one more body is compiled
pub compiled-on :
    (tables : SystemTables) (bodies : List Body) (i : ℕ) (b : Body) → i < length bodies → b ≡ get_or bodies i b →
    (code grown : List BodyTables) (c : BodyTables) (whole : List BodyTables) → grown ≡ code ++ c ∷ [] → c
    ≡ compiled_body tables (body_view b) →
    code ++ compiled tables (map body_view (drop i bodies)) ≡ whole → grown
    ++ compiled tables (map body_view (drop (i + 1) bodies)) ≡ whole
compiled-on tables bodies i b within is code grown c whole grows made before =
    let rest = compiled tables (map body_view (drop (i + 1) bodies)) in
    let joined : (code ++ c ∷ []) ++ rest ≡ code ++ c ∷ rest = append_assoc code (c ∷ []) rest in
    ap (λ (cs : List BodyTables). cs ++ rest) grows ∙ joined ∙ ap (λ (x : BodyTables). code ++ x ∷ rest) made
    ∙ sym (ap (λ bs. code ++ compiled tables bs) (map-step body_view bodies i b within is)) ∙ before

pub code-tied :
    (tables : SystemTables) (bodies : List BodyTree) (code : List BodyTables) → IsAccepted tables bodies →
    code ≡ compiled tables bodies → DoesText tables bodies code
code-tied tables bodies code accepted e =
    subst (λ (c : List BodyTables). DoesText tables bodies c) (sym e) (does_text tables bodies accepted)

pub code-verified :
    (tables : SystemTables) (bodies : List BodyTree) (code : List BodyTables) → IsAccepted tables bodies →
    code ≡ compiled tables bodies → CallsFit bodies → Verified code
code-verified tables bodies code accepted e fits = subst Verified (sym e) (is_verified tables bodies accepted fits)

-- the fault of a text
pub compiled-stopped :
    (tables : SystemTables) (ts : List Token) (bodies : List BodyTree) (o : Offence) (f : BuildFault) →
    f ≡ fault_in file.Source ts o → bodies_offence tables [] bodies ≡ Some o → IsCompiled tables ts bodies (Err f)
compiled-stopped tables ts bodies o build.Memory is first = tt
compiled-stopped tables ts bodies o (build.At f place why) is first = (o, first, is)

append-nil : {A : Type 0} (xs : List A) → xs ++ [] ≡ xs
append-nil [] = refl
append-nil (x ∷ xs) = ap (λ ys. x ∷ ys) (append-nil xs)

-- after the last body
pub all-accepted :
    (tables : SystemTables) (bodies : List Body) (i : ℕ) → length bodies ≤ i →
    bodies_offence tables (map (λ (b : Body). b.name.name) (take i bodies)) (map body_view (drop i bodies)) ≡
    bodies_offence tables [] (map body_view bodies) →
    IsAccepted tables (map body_view bodies)
all-accepted tables bodies i last h =
    sym h ∙ ap (λ bs. bodies_offence tables (map (λ (b : Body). b.name.name) (take i bodies)) (map body_view bs))
    (drop-all bodies i last)

pub all-compiled :
    (tables : SystemTables) (bodies : List Body) (i : ℕ) → length bodies ≤ i → (code : List BodyTables) →
    code ++ compiled tables (map body_view (drop i bodies)) ≡ compiled tables (map body_view bodies) →
    code ≡ compiled tables (map body_view bodies)
all-compiled tables bodies i last code h =
    sym (append-nil code) ∙ sym (ap (λ bs. code ++ compiled tables (map body_view bs)) (drop-all bodies i last)) ∙ h
