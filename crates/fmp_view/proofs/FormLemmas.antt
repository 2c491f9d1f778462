-- The form of the command line is plain, so that what a parse enters is what the words name.
use Rattle.std.proofs.Common.{ℕ, ◌≡◌, ◌∙◌, ◌+◌, ◌<◌, ◌&&◌, ◌++◌, [], ◌∷◌, Bool, true, false, List, Option, Some, None}
use Rattle.std.proofs.Common.{◌≢◌, IfErr, IsErrAnd, IfOk, IfSome, Result, Ok, Err, codes, inl, ap, ap₂, arith, fold}
use Rattle.std.proofs.Common.{inr, length, map, not, refl, slice_index_or, subst, suc}
use Rattle.std.proofs.Common.{sym, take}
use Rattle.std.proofs.Math.Seq.{take-suc}
use Rattle.std.proofs.lemmas.List.{map-append}
use Rattle.std.proofs.lemmas.List.Sums.{fold-append}
use Rattle.clap.specs.Simple.{HasMatchesOf}
use Rattle.clap.specs.Words.{App, Row, Text, app_of, is_simple, subcommand_of, subcommand_rows_of, takes}
use Rattle.clap.specs.Words.{kind_of, with_subcommand}
use Rattle.clap.specs.declared.builder.command.Command.{Command}
use Rattle.clap.specs.declared.builder.command.Command.TheViews.{out-Command}
use Rattle.clap.specs.declared.error.Error.{Error}
use Rattle.clap.specs.declared.error.kind.ErrorKind.{ErrorKind}
use Rattle.clap.specs.declared.error.kind.ErrorKind.TheVariants.{OutOfMemory}
use Rattle.clap.specs.declared.parser.matches.ArgMatches.{ArgMatches}
use Rattle.fmp_view.specs.Form.{Choices, IsEntered, IsForm, IsRefused, fmp_view, with_command}

third : (a b x rest : Bool) → (a && (b && (not x && rest))) ≡ true → x ≡ false
third true true true rest all = cc
third true true false rest all = refl
third true false x rest all = cc
third false b x rest all = cc

-- a command with this form has no argument that commands below it share
pub no_globals : (made : Command) (app : App) → app_of made ≡ app → app.top.is_plain ≡ true
    → (out-Command made).has_globals ≡ false
no_globals made app is plain = third _ _ _ _ (ap (λ (a : App). a.top.is_plain) is ∙ plain)

-- one more command
pub command_more : {X : Type 0} (form : X → App) (program grown : App) (made : App) (forms : List X) (i : ℕ) (d : X)
    (before : App) → i < length forms → before ≡ fold with_command program (map form (take i forms))
    → made ≡ form (slice_index_or forms i d) → grown ≡ with_subcommand before made.top
    → grown ≡ fold with_command program (map form (take (i + 1) forms))
command_more form program grown made forms i d before within is same grows =
    let next : i + 1 ≡ suc i = omega arith in
    let taken : map form (take (i + 1) forms) ≡ map form (take i forms) ++ form (slice_index_or forms i d) ∷ [] =
    ap (λ (n : ℕ). map form (take n forms)) next ∙ ap (map form) (take-suc forms i d within)
    ∙ map-append form (take i forms) (slice_index_or forms i d ∷ []) in
    grows ∙ ap₂ (λ (a b : App). with_command a b) is same
    ∙ sym (ap (fold with_command program) taken
    ∙ fold-append with_command program (map form (take i forms)) (form (slice_index_or forms i d) ∷ []))

form_is_simple : (ticks formats : Choices) → is_simple (fmp_view ticks formats) ≡ true
form_is_simple ticks formats = refl

-- a parse of this form has entered the command that the words name
pub parse_names : (app : App) (words : List Text) (m : ArgMatches) → IsForm app → HasMatchesOf app words m
    → IfSome (subcommand_rows_of m) (IsEntered words)
parse_names app words m form has =
    let simple : is_simple app ≡ true = ap is_simple form.2 ∙ form_is_simple form.0 form.1 in
    go (subcommand_rows_of m) (has simple).1
  where
    go : (o : Option (Text × List Row)) → o ≡ subcommand_of app words → IfSome o (IsEntered words)
    go None is = tt
    go (Some p) is = inr (record { app = app; form = form; enters = sym is })

-- a parse that has entered `code`
pub code_enters : {E : Type 0} (words : List Text) (r : Result ArgMatches E)
    → IfOk r (λ m. IfSome (subcommand_rows_of m) (λ entered. entered.0 ≡ codes "code"))
    → IfOk r (λ m. IfSome (subcommand_rows_of m) (IsEntered words))
code_enters words (Err e) is = tt
code_enters words (Ok m) is = go (subcommand_rows_of m) is
  where
    go : (o : Option (Text × List Row)) → IfSome o (λ entered. entered.0 ≡ codes "code") → IfSome o (IsEntered words)
    go None is = tt
    go (Some p) is = inl is

-- an error that is no lack of memory comes of words that the form does not take: whatever else is said of them then
pub otherwise_refused : {T : Type 0} (app : App) (words : List Text) (kind : ErrorKind) (r : Result T Error)
    → IsForm app → (takes app words ≡ true → kind ≡ OutOfMemory) → kind ≢ OutOfMemory
    → IfErr r (λ e. IsRefused words (kind_of e))
otherwise_refused app words kind (Ok x) form why not = tt
otherwise_refused app words kind (Err e) form why not =
    record { app = app; form = form; why = λ taken. absurd (not (why taken)) }

nowhere : Choices
nowhere = record { ref_ptr = (0, 0); now = [] }

-- memory ran out
pub by_memory : (words : List Text) (kind : ErrorKind) → kind ≡ OutOfMemory → IsRefused words kind
by_memory words kind is = record { app = fmp_view nowhere nowhere; form = (nowhere, nowhere, refl); why = λ _. is }

pub memory_refused : {T : Type 0} (words : List Text) (r : Result T Error) → IsErrAnd r (λ e. kind_of e ≡ OutOfMemory)
    → IfErr r (λ e. IsRefused words (kind_of e))
memory_refused words (Ok x) is = tt
memory_refused words (Err e) is = by_memory words (kind_of e) is
