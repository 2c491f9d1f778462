-- Bodies are made one after another.
use Rattle.std.proofs.Common.{◌≡◌, ℕ, List, [], ◌∷◌, ◌++◌, Option, Some, None, Result, Ok, Err, inl, inr, ◌<◌, ◌≤◌, ◌↔◌}
use Rattle.std.proofs.Common.{length, map, slice_get, true, false, refl, sym, ap, ◌∙◌, append_assoc, append-nil, arith}
use Rattle.std.specs.Prelude.{IfOk, is_some}
use Rattle.std.specs.List.{AllByRecursion}
use Rattle.std.proofs.lemmas.Bool.{cases_lt}
use Rattle.std.proofs.lemmas.List.{map-append}
use Rattle.fmp_base.specs.declared.names.Name.{Name}
use Rattle.fmp_base.specs.Systems.{SystemTables}
use Rattle.fmp_lex.specs.declared.fault.BuildFault.{BuildFault}
use Rattle.fmp_lex.specs.declared.fault.BuildFault.TheVariants as build
use Rattle.fmp_lex.specs.declared.fault.TextFile.TheVariants as file
use Rattle.fmp_lex.specs.declared.reading.GrammarFault.{GrammarFault}
use Rattle.fmp_lex.specs.declared.reading.ReadError.{ReadError}
use Rattle.fmp_lex.specs.declared.reading.ReadError.TheVariants.{Memory, Fault}
use Rattle.fmp_lex.specs.declared.token.TextFault.TheVariants as text_fault
use Rattle.fmp_lex.specs.declared.token.Token.{Token}
use Rattle.fmp_lex.specs.declared.token.TokenKind.{TokenKind}
use Rattle.fmp_lex.specs.declared.token.TokenList.{TokenList}
use Rattle.fmp_lex.specs.declared.position.TokenPosition.{TokenPosition}
use Rattle.fmp_lex.specs.Cutting.{Cuts}
use Rattle.fmp_lex.specs.Faults.{Spells, text_max, fault_of, IsSyntaxFault}
use Rattle.fmp_lex.specs.Positions.{text_end}
use Rattle.fmp_lex.specs.Reading.{ParseResult, stopped, Answers, kinds_of, IsFirstFault}
use Rattle.fmp_lex.proofs.Wholes.{whole_stopped}
use Rattle.fmp_tasklang.specs.Grammar.{Bodies}
use Rattle.fmp_tasklang.specs.Reading.{EndsBodies, RightBodies}
use Rattle.fmp_tasklang.specs.Views.{body_view}
use Rattle.fmp_tasklang.proofs.BodyPaths.{ends_there}
use Rattle.fmp_tasklang.specs.Trees.{BodyTree}
use Rattle.fmp_instructions.specs.declared.instructions.BodyCode.{BodyCode}
use Rattle.fmp_instructions.specs.Instructions.{BodyTables, body_tables, code_tables}
use Rattle.fmp_scopes.specs.declared.headings.Heading.{Heading}
use Rattle.fmp_scopes.specs.declared.offences.Offence.{Offence}
use Rattle.fmp_codegen.specs.declared.texts.CompiledText.{CompiledText}
use Rattle.fmp_codegen.specs.declared.texts.MadeBodies.{MadeBodies}
use Rattle.fmp_codegen.specs.Compiling.{body_offence, bodies_offence, compiled_body}
use Rattle.fmp_scopes.specs.Headings.{heading_of}
use Rattle.fmp_scopes.specs.Naming.{first_offence}
use Rattle.fmp_codegen.specs.Texts.{AreMade, IsMadeUpTo, IsMadeOf, IsStreamed, MadeText, IsTextCompiled}
use Rattle.fmp_scopes.proofs.Headed.{names-of, length-headed}
use Rattle.fmp_codegen.proofs.LowHeadings.{low-headed}
use Rattle.fmp_codegen.proofs.Limits.{few-bodies}

first-none : (o : Option Offence) → first_offence o None ≡ o
first-none None = refl
first-none (Some o) = refl

first-assoc : (a b c : Option Offence) → first_offence a (first_offence b c) ≡ first_offence (first_offence a b) c
first-assoc None b c = refl
first-assoc (Some o) b c = refl

abbrev names : List BodyTree → List Name
names bodies = map (λ (b : BodyTree). b.name.name) bodies

-- the first fault where a body stands after others
last_offence :
    (tables : SystemTables) (before : List Name) (bodies : List BodyTree) (b : BodyTree) →
    bodies_offence tables before (bodies ++ b ∷ []) ≡
    first_offence (bodies_offence tables before bodies) (body_offence tables (before ++ names bodies) b)
last_offence tables before [] b =
    first-none (body_offence tables before b) ∙ ap (λ ns. body_offence tables ns b) (sym (append-nil before))
last_offence tables before (x ∷ xs) b =
    let one = x.name.name ∷ [] in
    let first = body_offence tables before x in
    let more = bodies_offence tables (before ++ one) xs in
    ap (first_offence first) (last_offence tables (before ++ one) xs b)
    ∙ first-assoc first more (body_offence tables ((before ++ one) ++ names xs) b)
    ∙ ap (λ ns. first_offence (first_offence first more) (body_offence tables ns b))
    (append_assoc before one (names xs))

module _ (tables : SystemTables) (bodies : List BodyTree) (b : BodyTree) where
  abbrev one_more : List BodyTree
  one_more = bodies ++ b ∷ []

  -- after a fault nothing changes
  pub made-stays : (made : MadeBodies) (o : Offence) → made.offence ≡ Some o → AreMade tables made bodies
      → AreMade tables made one_more
  made-stays made o is h = record {
    offence = is ∙ ap (λ x. first_offence x (body_offence tables (names bodies) b)) (sym is ∙ h.offence)
        ∙ sym (last_offence tables [] bodies b);
    headings = λ none. let e : Some o ≡ None = sym is ∙ none in absurd (cc);
    code = λ none. let e : Some o ≡ None = sym is ∙ none in absurd (cc);
  }

  module _ (made new : MadeBodies) (fine : made.offence ≡ None) (h : AreMade tables made bodies) where
    abbrev judged : Option Offence
    judged = body_offence tables (map (λ (x : Heading). x.name) made.headings.items) b

    all_judged : bodies_offence tables [] one_more ≡ judged
    all_judged =
        last_offence tables [] bodies b
        ∙ ap (λ x. first_offence x (body_offence tables (names bodies) b)) (sym h.offence ∙ fine)
        ∙ ap (λ ns. body_offence tables ns b) (sym (names-of made.headings.items bodies (h.headings fine)))

    -- a body with a fault
    pub made-stops : (o : Offence) → judged ≡ Some o → new.offence ≡ Some o → AreMade tables new one_more
    made-stops o is now = record {
      offence = now ∙ sym is ∙ sym all_judged;
      headings = λ none. let e : Some o ≡ None = sym now ∙ none in absurd (cc);
      code = λ none. let e : Some o ≡ None = sym now ∙ none in absurd (cc);
    }

    -- a body without a fault
    pub made-more :
        judged ≡ None → new.offence ≡ made.offence → new.headings.items ≡ made.headings.items ++ heading_of b ∷ [] →
        map body_tables new.bodies.items ≡ map body_tables made.bodies.items ++ compiled_body tables b ∷ [] →
        AreMade tables new one_more
    made-more is same headings code = record {
      offence = same ∙ fine ∙ sym is ∙ sym all_judged;
      headings = λ none. headings ∙ ap (λ hs. hs ++ heading_of b ∷ []) (h.headings fine)
          ∙ sym (map-append heading_of bodies (b ∷ []));
      code = λ none. code ∙ ap (λ cs. cs ++ compiled_body tables b ∷ []) (h.code fine)
          ∙ sym (map-append (compiled_body tables) bodies (b ∷ []));
    }

-- what the reader of a body answered, handed on
pub read-error :
    (tables : SystemTables) (ts : List TokenKind) (e : ReadError) (P : ParseResult BodyTree → Type 0) →
    ((j : ℕ) (why : GrammarFault) → P (stopped j why) → RightBodies ts 0 (stopped j why)) →
    Answers body_view (Err e) P → IsMadeUpTo tables ts (Err e)
read-error tables ts Memory P f a = tt
read-error tables ts (Fault e) P f a = f e.at e.why a

pub made-stopped :
    (tables : SystemTables) (ts : List TokenKind) (e : ReadError) → IsMadeUpTo tables ts (Err e) →
    IsMadeOf tables ts (Err e)
made-stopped tables ts Memory a = tt
made-stopped tables ts (Fault f) a = whole_stopped Bodies EndsBodies ends_there ts f.at f.why a

-- what is answered of the bodies that a text spells
module _ (tables : SystemTables) (made : MadeBodies) (bodies : List BodyTree) (are : AreMade tables made bodies)
    (ts : List Token) where
  pub text-compiled :
      (text : List ℕ) → Spells Bodies text ts bodies → (r : Result CompiledText BuildFault) → MadeText ts made r →
      IsTextCompiled tables text r
  text-compiled text spelled (Ok c) h =
      (ts, bodies, spelled, sym are.offence ∙ h.0, h.1 ∙ are.headings h.0, h.2 ∙ are.code h.0)
  text-compiled text spelled (Err build.Memory) h = tt
  text-compiled text spelled (Err (build.At f place why)) h = inr (ts, bodies, spelled, h.0, sym are.offence ∙ h.1, h.2)

-- what is known of the headings that are answered
pub compiled-few :
    (tables : SystemTables) (text : List ℕ) (r : Result CompiledText BuildFault) → IsTextCompiled tables text r →
    IfOk r (λ c. length c.headings.items ≤ 255)
compiled-few tables text (Ok c) h =
    let few = few-bodies tables h.1 h.3 in
    let long : length c.headings.items ≡ length h.1 = ap length h.4 ∙ length-headed h.1 in
    omega (arith, few, long)
compiled-few tables text (Err f) h = tt

pub compiled-low :
    (tables : SystemTables) (text : List ℕ) (r : Result CompiledText BuildFault) → IsTextCompiled tables text r →
    IfOk r (λ c. AllByRecursion (λ (h : Heading). h.depth ≤ 64) c.headings.items)
compiled-low tables text (Ok c) h = low-headed tables h.1 c.headings.items h.3 h.4
compiled-low tables text (Err f) h = tt

-- a text without a fault, all of whose bodies are made
pub text-streamed :
    (tables : SystemTables) (text : List ℕ) (made : MadeBodies) (c : CompiledText) → IsStreamed tables text made →
    c.headings.items ≡ made.headings.items → code_tables c.code ≡ map body_tables made.bodies.items →
    IsTextCompiled tables text (Ok c)
text-streamed tables text made c x headings code =
    let are = x.3 in
    let fine = x.4 in
    (x.0, x.1, x.2, sym are.offence ∙ fine, headings ∙ are.headings fine, code ∙ are.code fine)

pub not_long : (text : List ℕ) (list : TokenList) → ((Ok list ≡ Err text_fault.TooLong) ↔ (text_max < length text))
    → length text ≤ text_max
not_long text list h = elim (cases_lt text_max (length text)) [
  | inl lt ↦ let e = h.1 lt in absurd (cc)
  | inr le ↦ le
]

text-fault : (tables : SystemTables) (text : List ℕ) (f : BuildFault) → IsSyntaxFault file.Source Bodies text f
    → IsTextCompiled tables text (Err f)
text-fault tables text build.Memory x = tt
text-fault tables text (build.At f place why) x = inl x

pub text-stopped : (tables : SystemTables) (text : List ℕ) (ts : List Token) (j : ℕ) (end : TokenPosition)
    (why : GrammarFault) (f : BuildFault) → length text ≤ text_max →
    Cuts text 0 ts → IsFirstFault Bodies (kinds_of ts) j why → end ≡ text_end text → f
    ≡ fault_of file.Source end (slice_get ts j) why →
    IsTextCompiled tables text (Err f)
text-stopped tables text ts j end why f short cut first there is =
    text-fault tables text f (inr (
      short,
      (
        ts,
        cut,
        j,
        why,
        first,
        is
            ∙ ap (λ p. fault_of file.Source p (slice_get ts j) why) there,
      ),
    ))

pub some-there : (o : Option Offence) → is_some o ≡ true → (x : Offence) × (o ≡ Some x)
some-there None h = absurd (cc)
some-there (Some x) h = (x, refl)

pub none-there : (o : Option Offence) → is_some o ≡ false → o ≡ None
none-there None h = refl
none-there (Some x) h = absurd (cc)

pub code-more :
    (before after : List BodyCode) (x : BodyCode) (t : BodyTables) → after ≡ before ++ x ∷ [] → body_tables x ≡ t →
    map body_tables after ≡ map body_tables before ++ t ∷ []
code-more before after x t pushed is = rw (pushed, map-append, is) refl
