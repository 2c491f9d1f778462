-- From what clap's getters say to the rows of its matches.
use Rattle.std.proofs.Common.{◌≡◌, ◌∙◌, ◌<◌, ◌≤◌, ◌^◌, ℕ, [], arith, length, true, List, Option, Some, None, Result}
use Rattle.std.proofs.Common.{Ok, Err, IfErr, IfSome, IsErrAnd, ap, ap₂, refl, sym, subst, true≢false, option_map}
use Rattle.std.specs.Option.{IsSomeAnd, is_some, unwrap_or}
use Rattle.std.specs.Str.Parse.{ParsesUnsigned}
use Rattle.clap.specs.Values.{IsUnsignedIn}
use Rattle.clap.specs.Matches.{ReadsOne}
use Rattle.clap.specs.declared.error.Error.{Error}
use Rattle.clap.specs.Words.{App, HasKind, HasMatchesOf, Row, Text, fault_of, is_simple, is_simple_and_free, kind_of}
use Rattle.clap.specs.Words.{one_of}
use Rattle.clap.specs.Words.{subcommand_of, subcommand_rows_of}
use Rattle.clap.specs.declared.parser.matches.ArgMatches.{ArgMatches}
use Rattle.fmp.specs.Asked.{AsksFor, HasNumberIfGiven, IsAsked, IsNumberIfGiven, IsRefused}
use Rattle.fmp.specs.Form.{fmp}
use Rattle.fmp.specs.declared.asking.Cmd.{Cmd}
use Rattle.fmp.specs.declared.asking.Cmd.TheVariants.{Build, Check, Host, Sim, Stored}

pub some-same : {X : Type 0} {x y : X} → Some x ≡ Some y → x ≡ y
some-same {x} e = ap (λ o. unwrap_or o x) e

pub some≢none : {X : Type 0} (x : X) → Some x ≡ None → ⊥
some≢none x e = true≢false (ap is_some e)

-- two views of what stands on both sides of an option, and so both at once
pub both_views : {A B N R : Type 0} (f : A → N) (g : A → R) (h : B → N × R) (a : Option A) (b : Option B)
    → option_map f a ≡ option_map (λ x. (h x).0) b → option_map g a ≡ option_map (λ p. p.1) (option_map h b)
    → option_map (λ x. (f x, g x)) a ≡ option_map h b
both_views f g h None None e d = refl
both_views f g h None (Some b) e d = absurd (some≢none _ (sym e))
both_views f g h (Some a) None e d = absurd (some≢none _ e)
both_views f g h (Some a) (Some b) e d = ap₂ (λ x y. Some (x, y)) (some-same e) (some-same d)

-- a number that was read has a text
pub number_read : {E : Type 0} (gives : List ℕ → Result ℕ E → Type 0) (text : Option (List ℕ)) (read : Option ℕ) (n : ℕ)
    → (text ≡ None → read ≡ None) → ((t : List ℕ) → text ≡ Some t → ReadsOne {T = ℕ} {E = E} gives t read) → read
    ≡ Some n
    → (t : List ℕ) × (text ≡ Some t) × gives t (Ok n)
number_read gives None read n none some is = absurd (some≢none n (sym is ∙ none refl))
number_read gives (Some t) None n none some is = absurd (some≢none n (sym is))
number_read gives (Some t) (Some m) n none some is = (
  t,
  refl,
  subst (λ (k : ℕ). gives t (Ok k)) (some-same is)
      (some t refl),
)

-- a text that spells a number of a range is read as one of n bits, if the range fits into these
pub number_given : {E : Type 0} (bits least most : ℕ) (gives : List ℕ → Result ℕ E → Type 0) (text : Option (List ℕ))
    (read : Option ℕ)
    → most < 2 ^ bits → IsSomeAnd text (IsUnsignedIn least most)
    → ((t : List ℕ) → text ≡ Some t → ReadsOne {T = ℕ} {E = E} gives t read)
    → ((t : List ℕ) (r : Result ℕ E) → gives t r → ParsesUnsigned bits 10 t r) → is_some read ≡ true
number_given bits least most gives None read fits is reads parses = absurd is
number_given bits least most gives (Some t) (Some n) fits is reads parses = refl
number_given bits least most gives (Some t) None fits is reads parses =
    let (e, given) = reads t refl in absurd (parses t (Err e) given (is.0, omega (arith, is.3, fits)))

-- a number that may be there is read, if it is
pub number_if_given : {E : Type 0} (bits most : ℕ) (gives : List ℕ → Result ℕ E → Type 0) (rows : List Row)
    (id : Text) (text : Option (List ℕ)) (read : Option ℕ) → text ≡ one_of id rows → most < 2 ^ bits
    → IsNumberIfGiven most rows id → (text ≡ None → read ≡ None)
    → ((t : List ℕ) → text ≡ Some t → ReadsOne {T = ℕ} {E = E} gives t read)
    → ((t : List ℕ) (r : Result ℕ E) → gives t r → ParsesUnsigned bits 10 t r)
    → HasNumberIfGiven rows id read × IfSome read (λ n. (1 ≤ n) × (n ≤ most))
number_if_given bits most gives rows id None None same fits is none reads parses = (sym same, tt)
number_if_given bits most gives rows id None (Some n) same fits is none reads parses =
    absurd (some≢none n (none refl))
number_if_given bits most gives rows id (Some t) None same fits is none reads parses =
    let bounds : IsUnsignedIn 1 most t = subst (λ o. IfSome o (IsUnsignedIn 1 most)) (sym same) is in
    absurd (true≢false (sym (number_given bits 1 most gives (Some t) None fits bounds reads parses)))
number_if_given bits most gives rows id (Some t) (Some n) same fits is none reads parses =
    let bounds : IsUnsignedIn 1 most t = subst (λ o. IfSome o (IsUnsignedIn 1 most)) (sym same) is in
    let number = (parses t (Ok n) (reads t refl)).1 in (
      (t, sym same, number),
      (
        subst (λ (k : ℕ). 1 ≤ k) (sym number) bounds.2,
        subst (λ (k : ℕ). k ≤ most) (sym number) bounds.3,
      ),
    )

-- the form is one of which clap says exactly what its matches and its errors are
pub form_is_simple : is_simple fmp ≡ true
form_is_simple = refl

pub form_is_free : is_simple_and_free fmp ≡ true
form_is_free = refl

pub asks_for : (words : List Text) (name : Text) (rows : List Row) (cmd : Cmd) → 1 < length words → fault_of fmp words
    ≡ []
    → subcommand_of fmp words ≡ Some (name, rows) → IsAsked name rows cmd → AsksFor words cmd
asks_for words name rows (Check config tasks) long fits entered asked = (long, fits, (name, rows, entered, asked))
asks_for words name rows (Build config tasks image) long fits entered asked = (long, fits, (name, rows, entered, asked))
asks_for words name rows (Sim image steps bound) long fits entered asked = (long, fits, (name, rows, entered, asked))
asks_for words name rows (Host image journal turns ticks bound tick_us interrupt) long fits entered asked =
    (long, fits, (name, rows, entered, asked))
asks_for words name rows Stored long fits entered asked = absurd asked

-- what stands on the other side of an option is there
pub some_beside : {A R : Type 0} (view : A → R) (o : Option A) (rows : Option R) (P : R → Type 0) → option_map view o
    ≡ rows → IsSomeAnd rows P → is_some o ≡ true
some_beside view None rows P e has = absurd (subst (λ r. IsSomeAnd r P) (sym e) has)
some_beside view (Some x) rows P e has = refl

-- a parse of this form that succeeds has no fault, and has entered the subcommand that the words name
pub fits_form : (app : App) (words : List Text) → app ≡ fmp → (is_simple_and_free app ≡ true → fault_of app words
    ≡ []) → fault_of fmp words ≡ []
fits_form app words form none = sym (ap (λ (a : App). fault_of a words) form)
    ∙ none (ap is_simple_and_free form ∙ form_is_free)

pub enters_form : (app : App) (words : List Text) (m : ArgMatches) (seen : Option (Text × List Row)) → app ≡ fmp
    → HasMatchesOf app words m
    → seen ≡ subcommand_rows_of m → seen ≡ subcommand_of fmp words
enters_form app words m seen form has is = is ∙ (has (ap is_simple form ∙ form_is_simple)).1
    ∙ ap (λ (a : App). subcommand_of a words) form

-- an error of such a parse is why the words are refused
pub refused_form : {T : Type 0} (app : App) (words : List Text) (e : Error) (r : Result T Error) → app ≡ fmp
    → IsErrAnd r (λ x. x ≡ e)
    → (is_simple_and_free app ≡ true → HasKind (fault_of app words) e) → IfErr r (λ x. IsRefused words (kind_of x))
refused_form app words e (Ok x) form is fails = tt
refused_form app words e (Err x) form is fails =
    subst (λ (y : Error). IsRefused words (kind_of y)) (sym is)
    (subst (λ (a : App). HasKind (fault_of a words) e) form (fails (ap is_simple_and_free form ∙ form_is_free)))
