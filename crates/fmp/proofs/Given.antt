-- What the form has of the words of each subcommand.
use Rattle.std.proofs.Common.{◌≡◌, ◌∙◌, ◌<◌, ◌⊎◌, inl, inr, ◌++◌, ◌||◌, ◌&&◌, ℕ, List, [], ◌∷◌, length, Bool, true}
use Rattle.std.proofs.Common.{false, cond, Option, Some, None, IfSome, IsSome, IsSomeAnd, ap, refl, sym, subst, arith}
use Rattle.std.proofs.Common.{find, fold, codes, bytes_eq, is_some, slice_get, not, get_or, lit<, option_and_then}
use Rattle.std.proofs.Common.{option_map}
use Rattle.std.proofs.lemmas.Slice.Eq.{bytes_eq-Decides}
use Rattle.std.specs.List.{list_any}
use Rattle.std.specs.Option.{option_map_or}
use Rattle.clap.specs.Facts.{explicit_source, parser_of_value}
use Rattle.clap.specs.Faults.{check_fault, entered_fault, fault_of, level_fault, values_fault}
use Rattle.clap.specs.Kinds.{value_kinds}
use Rattle.clap.specs.Simple.{Shape, argument_words, built, built_leaf, entered, help_rule, help_shape, names_of}
use Rattle.clap.specs.Simple.{subcommand_of, inherited, label_of, marked_built, with_leaf_noted, rows_at}
use Rattle.clap.specs.Takes.{is_given}
use Rattle.clap.specs.ValueTests.{accepts}
use Rattle.clap.specs.Values.{IsUnsignedIn, read_as, reading_of, refused_kind}
use Rattle.clap.specs.Walk.{Row, Rule, Text, answers_to, arg_by_id, walk, default_rows, has_row, more_values}
use Rattle.clap.specs.Walk.{nothing_held, reading_by, row_text, rows_after, settled, with_default}
use Rattle.clap.specs.declared.builder.value_parser.Reading.TheVariants.{AsWritten}
use Rattle.clap.specs.declared.builder.value_parser.ValueParser.TheVariants.{Unsigned}
use Rattle.clap.specs.declared.error.kind.ErrorKind.TheVariants.{MissingRequiredArgument}
use Rattle.clap.specs.declared.parser.matches.ValueSource.TheVariants.{DefaultValue}
use Rattle.clap.proofs.ValueTestLemmas.{accepts-Accepts}
use Rattle.fmp.specs.Asked.{HasWords, IsGiven, IsGivenNumber, IsNumberIfGiven}
use Rattle.fmp.specs.Form.{build, check, fmp, host, sim}
use Rattle.fmp.proofs.Rows.{Each, HasValues, IsSound, IsUsualLevel, StopsAtNoHelp, at_none, found_one, level_stands}
use Rattle.fmp.proofs.Rows.{or_both}

-- ---- the words for an argument

first_some : (values : List Text) → 0 < length values → is_some (slice_get values 0) ≡ true
first_some [] some = absurd (omega arith)
first_some (v ∷ vs) some = refl

row_values : (c : List Rule) (rows : List Row) (id : Text) (a : Rule) (r : Row) → arg_by_id c id ≡ Some a
    → Each (IsSound c) rows
    → find (λ x. bytes_eq x.id id) rows ≡ Some r → HasValues a r
row_values c rows id a r first sound found =
    let (has, same) = found_one (IsSound c) _ rows r found sound in
    let here : r.id ≡ id = (bytes_eq-Decides r.id id).0 same in
    let of_id = subst (λ i. IfSome (arg_by_id c i) (λ x. HasValues x r)) here has in
    subst (λ o. IfSome o (λ x. HasValues x r)) first of_id

pub given_word : (c : List Rule) (rows : List Row) (id : Text) (a : Rule) → arg_by_id c id ≡ Some a
    → Each (IsSound c) rows → is_given id rows ≡ true → IsGiven rows id
given_word c rows id a first sound given = go (find (λ x. bytes_eq x.id id) rows)
    (λ r found. (row_values c rows id a r first sound found).some) given
  where
    go : (o : Option Row) → ((r : Row) → o ≡ Some r → 0 < length r.values)
        → option_map_or (λ r. explicit_source r.source) o false ≡ true
        → IsSome (option_and_then (λ r. slice_get r.values 0) o)
    go None some g = cc
    go (Some r) some g = first_some r.values (some r refl)

required_given : (rows : List Row) (rules : List Rule) → list_any (λ a. a.required && not (is_given a.id rows)) rules
    ≡ false
    → Each (λ a. a.required ≡ true → is_given a.id rows ≡ true) rules
required_given rows [] e = tt
required_given rows (a ∷ rest) e = go a.required (is_given a.id rows) e (required_given rows rest)
  where
    go : (b g : Bool) → ((b && not g) || list_any (λ x. x.required && not (is_given x.id rows)) rest) ≡ false
        → (list_any (λ x. x.required && not (is_given x.id rows)) rest ≡ false
        → Each (λ x. x.required ≡ true → is_given x.id rows ≡ true) rest)
        → (b ≡ true → g ≡ true) × Each (λ x. x.required ≡ true → is_given x.id rows ≡ true) rest
    go true true f later = (λ t. refl, later f)
    go true false f later = cc
    go false g f later = (λ t. absurd (Rattle.std.proofs.Common.true≢false (sym t)), later f)

not_missing : (b : Bool) → cond b (MissingRequiredArgument ∷ []) [] ≡ [] → b ≡ false
not_missing true e = cc
not_missing false e = refl

-- ---- the numbers

row_at_end : (id : Text) (rows : List Row) (row : Row) → bytes_eq row.id id ≡ true → has_row id (rows ++ row ∷ [])
    ≡ true
row_at_end id [] row same = rw same refl
row_at_end id (r ∷ rs) row same = go (bytes_eq r.id id) (row_at_end id rs row same)
  where
    go : (b : Bool) → has_row id (rs ++ row ∷ []) ≡ true → (b || has_row id (rs ++ row ∷ [])) ≡ true
    go true h = refl
    go false h = h

row_found : (id : Text) (rows : List Row) → has_row id rows ≡ true → is_some (find (λ r. bytes_eq r.id id) rows) ≡ true
row_found id [] has = cc
row_found id (r ∷ rs) has = go (bytes_eq r.id id) has (row_found id rs)
  where
    go : (b : Bool) → (b || has_row id rs) ≡ true → (has_row id rs ≡ true → is_some (find (λ x. bytes_eq x.id id) rs)
        ≡ true)
        → is_some (cond b (Some r) (find (λ x. bytes_eq x.id id) rs)) ≡ true
    go true h later = refl
    go false h later = later h

-- an argument that the words use has a row
row_given : (id : Text) (rows : List Row) → is_given id rows ≡ true → is_some (find (λ r. bytes_eq r.id id) rows) ≡ true
row_given id rows given = go (find (λ r. bytes_eq r.id id) rows) given
  where
    go : (o : Option Row) → option_map_or (λ r. explicit_source r.source) o false ≡ true → is_some o ≡ true
    go None g = cc
    go (Some r) g = refl

one_value : (least most : ℕ) (a : Rule) (values : List Text) → a.parser ≡ Some (Unsigned least most) → a.ignore_case
    ≡ false
    → 0 < length values → values_fault a values ≡ [] → IsSomeAnd (option_map (λ text. text) (slice_get values 0))
    (IsUnsignedIn least most)
one_value least most a [] parser case some e = absurd (omega arith)
one_value least most a (v ∷ vs) parser case some e =
    let first : value_kinds a.ignore_case (parser_of_value a.parser) v
    ≡ [] = (or_both (value_kinds a.ignore_case (parser_of_value a.parser) v) _ e).0 in
    let same : value_kinds false (Unsigned least most) v ≡ [] =
    subst (λ p. value_kinds false (parser_of_value p) v ≡ []) parser (subst
    (λ b. value_kinds b (parser_of_value a.parser) v ≡ []) case first) in
    accepts-Accepts false (Unsigned least most) v (go (accepts false (Unsigned least most) v) same)
  where
    go : (b : Bool) → cond b [] (refused_kind (Unsigned least most) ∷ []) ≡ [] → b ≡ true
    go true f = refl
    go false f = cc

-- an argument that was not used and has a default has a row
default_row : (a : Rule) (v : Text) (vs : List Text) (rows : List Row) → a.defaults ≡ v ∷ vs
    → has_row a.id (with_default rows a) ≡ true
default_row a v vs rows is = go (has_row a.id rows) refl
  where
    go : (b : Bool) → has_row a.id rows ≡ b → has_row a.id (cond b rows
        (default_rows a.id (reading_by a) a.defaults rows)) ≡ true
    go true has = has
    go false none =
        let row : Row = record {
          id = a.id;
          values = v ∷ vs;
          count = None;
          source = Some DefaultValue;
          reading = reading_by a;
        } in
        subst (λ ds. has_row a.id (default_rows a.id (reading_by a) ds rows) ≡ true) (sym is)
        (subst (λ rs. has_row a.id rs ≡ true) (sym (at_none a.id (more_values DefaultValue (v ∷ vs))
        (row ∷ []) rows none))
        (row_at_end a.id rows row ((bytes_eq-Decides a.id a.id).1 refl)))

no_default : (a : Rule) (rows : List Row) → a.defaults ≡ [] → with_default rows a ≡ rows
no_default a rows is = go (has_row a.id rows)
  where
    go : (b : Bool) → cond b rows (default_rows a.id (reading_by a) a.defaults rows) ≡ rows
    go true = refl
    go false = ap (λ ds. default_rows a.id (reading_by a) ds rows) is

-- the last argument but one has a default, and the last has none
late_row : (before : List Rule) (late last : Rule) (v : Text) (vs : List Text) (rows : List Row) → late.defaults ≡ v
    ∷ vs → last.defaults ≡ []
    → has_row late.id (fold with_default rows (before ++ late ∷ last ∷ [])) ≡ true
late_row [] late last v vs rows is none =
    subst (λ rs. has_row late.id rs ≡ true) (sym (no_default last (with_default rows late) none))
    (default_row late v vs rows is)
late_row (a ∷ before) late last v vs rows is none = late_row before late last v vs (with_default rows a) is none

given_number : (least most : ℕ) (c : List Rule) (rows : List Row) (id : Text) (a : Rule) → arg_by_id c id ≡ Some a
    → a.parser ≡ Some (Unsigned least most)
    → a.ignore_case ≡ false → Each (IsSound c) rows → is_some (find (λ r. bytes_eq r.id id) rows) ≡ true
    → IsGivenNumber least most rows id
given_number least most c rows id a first parser case sound there =
    go (find (λ x. bytes_eq x.id id) rows) (λ r found. row_values c rows id a r first sound found) there
  where
    go : (o : Option Row) → ((r : Row) → o ≡ Some r → HasValues a r) → is_some o ≡ true
        → IsSomeAnd (option_and_then row_text o) (IsUnsignedIn least most)
    go None values some = cc
    go (Some r) values some =
        let has_values = values r refl in
        let as_written : r.reading ≡ AsWritten = has_values.reading ∙ ap (λ p. reading_of (parser_of_value p)) parser in
        subst (λ how. IsSomeAnd (option_map (read_as how) (slice_get r.values 0)) (IsUnsignedIn least most))
        (sym as_written)
        (one_value least most a r.values parser case has_values.some has_values.accepted)

and_if : {X : Type 0} (P : X → Type 0) (o : Option X) → IsSomeAnd o P → IfSome o P
and_if P None h = absurd h
and_if P (Some x) h = h

-- a number that may be there
number_in_range : (most : ℕ) (c : List Rule) (rows : List Row) (id : Text) (a : Rule) → arg_by_id c id ≡ Some a
    → a.parser ≡ Some (Unsigned 1 most) → a.ignore_case ≡ false → Each (IsSound c) rows
    → IsNumberIfGiven most rows id
number_in_range most c rows id a first parser case sound =
    go (find (λ x. bytes_eq x.id id) rows) (λ r found. row_values c rows id a r first sound found)
  where
    go : (o : Option Row) → ((r : Row) → o ≡ Some r → HasValues a r)
        → IfSome (option_and_then row_text o) (IsUnsignedIn 1 most)
    go None values = tt
    go (Some r) values =
        let has_values = values r refl in
        let as_written : r.reading ≡ AsWritten = has_values.reading ∙ ap (λ p. reading_of (parser_of_value p)) parser in
        and_if (IsUnsignedIn 1 most) (row_text r)
        (subst (λ how. IsSomeAnd (option_map (read_as how) (slice_get r.values 0)) (IsUnsignedIn 1 most))
        (sym as_written) (one_value 1 most a r.values parser case has_values.some has_values.accepted))

-- ---- each subcommand

-- what building makes of a subcommand
abbrev built_sub : Shape → Shape
built_sub s = built_leaf (inherited (with_leaf_noted (marked_built fmp.top)) s)

abbrev Fulfils : Shape → Type 0
Fulfils s = (words : List Text) → level_fault s [] nothing_held words false [] ≡ [] → bytes_eq s.name (codes "help")
    ≡ false
    → HasWords s.name (rows_after s.rules [] words)

check_fulfils : Fulfils (built_sub check.top)
check_fulfils words e no_help =
    let s = built_sub check.top in
    let usual : IsUsualLevel s = record {
      rules = ((refl, inl (refl, lit< tt)), ((refl, inl (refl, lit< tt)), ((refl, inr (lit< tt)), tt)));
      again = refl;
    } in
    let rows = rows_after s.rules [] words in
    let stands = level_stands s usual [] words false [] e in
    let given = required_given rows s.rules (not_missing _ stands.3) in
    record {
      known = inl refl;
      check = λ is. (
        given_word s.rules rows (codes "CFG") _ refl stands.0 (given.0 refl),
        given_word s.rules rows
            (codes "SRC") _ refl stands.0 (given.1.0 refl),
      );
      build = λ is. let bad : 99 ≡ 98 = ap (λ l. get_or l 0 0) is in absurd (omega arith);
      sim = λ is. let bad : 99 ≡ 115 = ap (λ l. get_or l 0 0) is in absurd (omega arith);
      host = λ is. let bad : 99 ≡ 104 = ap (λ l. get_or l 0 0) is in absurd (omega arith);
    }

build_fulfils : Fulfils (built_sub build.top)
build_fulfils words e no_help =
    let s = built_sub build.top in
    let usual : IsUsualLevel s = record {
      rules = (
        (refl, inl (refl, lit< tt)),
        (
          (refl, inl (refl, lit< tt)),
          ((refl, inl (refl, lit< tt)), ((refl, inr (lit< tt)), tt)),
        ),
      );
      again = refl;
    } in
    let rows = rows_after s.rules [] words in
    let stands = level_stands s usual [] words false [] e in
    let given = required_given rows s.rules (not_missing _ stands.3) in
    record {
      known = inr (inl refl);
      check = λ is. let bad : 98 ≡ 99 = ap (λ l. get_or l 0 0) is in absurd (omega arith);
      build = λ is. (
        given_word s.rules rows (codes "CFG") _ refl stands.0 (given.0 refl),
        given_word s.rules rows (codes "SRC") _ refl stands.0 (given.1.0 refl),
        given_word s.rules rows (codes "OUT") _ refl stands.0 (given.1.1.0 refl),
      );
      sim = λ is. let bad : 98 ≡ 115 = ap (λ l. get_or l 0 0) is in absurd (omega arith);
      host = λ is. let bad : 98 ≡ 104 = ap (λ l. get_or l 0 0) is in absurd (omega arith);
    }

sim_fulfils : Fulfils (built_sub sim.top)
sim_fulfils words e no_help =
    let s = built_sub sim.top in
    let usual : IsUsualLevel s = record {
      rules = (
        (refl, inl (refl, lit< tt)),
        (
          (refl, inl (refl, lit< tt)),
          ((refl, inl (refl, lit< tt)), ((refl, inr (lit< tt)), tt)),
        ),
      );
      again = refl;
    } in
    let rows = rows_after s.rules [] words in
    let stands = level_stands s usual [] words false [] e in
    let given = required_given rows s.rules (not_missing _ stands.3) in
    let rule : ℕ → Rule = λ k. get_or s.rules k help_rule in
    let has_bound : has_row (codes "bound") rows ≡ true =
    late_row (rule 0 ∷ rule 1 ∷ []) (rule 2) (rule 3) (codes "100000") []
    (settled s.rules (walk s.rules [] nothing_held words).held).rows refl refl in
    record {
      known = inr (inr (inl refl));
      check = λ is. let bad : 115 ≡ 99 = ap (λ l. get_or l 0 0) is in absurd (omega arith);
      build = λ is. let bad : 115 ≡ 98 = ap (λ l. get_or l 0 0) is in absurd (omega arith);
      sim = λ is. (
        given_word s.rules rows (codes "IMAGE") _ refl stands.0 (given.0 refl),
        given_word s.rules rows (codes "STEPS") _ refl stands.0 (given.1.0 refl),
        given_number 1 281474976710656 s.rules rows (codes "bound") _ refl refl refl stands.0
            (row_found (codes "bound") rows has_bound),
      );
      host = λ is. let bad : 115 ≡ 104 = ap (λ l. get_or l 0 0) is in absurd (omega arith);
    }

host_fulfils : Fulfils (built_sub host.top)
host_fulfils words e no_help =
    let s = built_sub host.top in
    let usual : IsUsualLevel s = record {
      rules = (
        (refl, inl (refl, lit< tt)),
        (
          (refl, inl (refl, lit< tt)),
          (
            (refl, inl (refl, lit< tt)),
            (
              (refl, inl (refl, lit< tt)),
              (
                (refl, inl (refl, lit< tt)),
                (
                  (refl, inl (refl, lit< tt)),
                  (
                    (refl, inl (refl, lit< tt)),
                    ((refl, inr (lit< tt)), tt),
                  ),
                ),
              ),
            ),
          ),
        ),
      );
      again = refl;
    } in
    let rows = rows_after s.rules [] words in
    let stands = level_stands s usual [] words false [] e in
    let given = required_given rows s.rules (not_missing _ stands.3) in
    let rule : ℕ → Rule = λ k. get_or s.rules k help_rule in
    let has_bound : has_row (codes "bound") rows ≡ true =
    late_row (rule 0 ∷ rule 1 ∷ rule 2 ∷ rule 3 ∷ rule 4 ∷ rule 5 ∷ []) (rule 6) (rule 7) (codes "100000") []
    (settled s.rules (walk s.rules [] nothing_held words).held).rows refl refl in
    record {
      known = inr (inr (inr refl));
      check = λ is. let bad : 104 ≡ 99 = ap (λ l. get_or l 0 0) is in absurd (omega arith);
      build = λ is. let bad : 104 ≡ 98 = ap (λ l. get_or l 0 0) is in absurd (omega arith);
      sim = λ is. let bad : 104 ≡ 115 = ap (λ l. get_or l 0 0) is in absurd (omega arith);
      host = λ is. (
        given_word s.rules rows (codes "IMAGE") _ refl stands.0 (given.0 refl),
        given_word s.rules rows (codes "JOURNAL") _ refl stands.0 (given.1.0 refl),
        given_number 0 1048576 s.rules rows (codes "turns") _ refl refl refl stands.0
            (row_given (codes "turns") rows (given.1.1.0 refl)),
        given_number 0 1048576 s.rules rows (codes "ticks") _ refl refl refl stands.0
            (row_given (codes "ticks") rows (given.1.1.1.0 refl)),
        given_number 1 281474976710656 s.rules rows (codes "bound") _ refl refl refl stands.0
            (row_found (codes "bound") rows has_bound),
        number_in_range 1000000 s.rules rows (codes "tick-us") _ refl refl refl stands.0,
        number_in_range 32 s.rules rows (codes "int") _ refl refl refl stands.0,
      );
    }

help_fulfils : Fulfils (built_leaf help_shape)
help_fulfils words e no_help = absurd (Rattle.std.proofs.Common.true≢false no_help)

-- a subcommand with no second name, whose words are there where it passes
abbrev Passes : Shape → Type 0
Passes s = (s.aliases ≡ []) × Fulfils s

subs_pass : Each Passes (built fmp).subs
subs_pass = (
  (refl, check_fulfils),
  (
    (refl, build_fulfils),
    (
      (refl, sim_fulfils),
      ((refl, host_fulfils), ((refl, help_fulfils), tt)),
    ),
  ),
)

by_name : (s : Shape) (name : Text) → s.aliases ≡ [] → answers_to name (label_of s) ≡ true → s.name ≡ name
by_name s name no_alias answers = (bytes_eq-Decides s.name name).0 (go (bytes_eq s.name name) s.aliases no_alias
    answers)
  where
    go : (b : Bool) (aliases : List Text) → aliases ≡ [] → (b || list_any (λ alias. bytes_eq alias name) aliases)
        ≡ true → b ≡ true
    go true aliases none a = refl
    go false [] none a = a
    go false (x ∷ xs) none a = cc

-- where no kind of error comes, the words enter a subcommand, and what it needs is there
pub form_has : (words : List Text) → fault_of fmp words ≡ [] → IsSomeAnd (subcommand_of fmp words)
    (λ entered. HasWords entered.0 entered.1)
form_has words e =
    let top = (built fmp).top in
    let names = names_of (built fmp) in
    let rest = argument_words fmp words in
    let usual : IsUsualLevel top = record {
      rules = ((refl, inr (lit< tt)), ((refl, inr (lit< tt)), tt));
      again = refl;
    } in
    let stop = (walk top.rules names nothing_held rest).stopped in
    let stands = level_stands top usual names rest (is_some (entered (built fmp) stop))
    (entered_fault (built fmp) stop) e in
    go stop (rows_after top.rules names rest) stands.1 stands.2 stands.3
  where
    found : (p : Text × List Text) (rows : List Row) (o : Option Shape)
        → find (λ s. answers_to p.0 (label_of s)) (built fmp).subs ≡ o
        → bytes_eq p.0 (codes "help") ≡ false → option_map_or (λ s. level_fault s [] nothing_held p.1 false []) o []
        ≡ []
        → check_fault (built fmp).top rows (is_some (option_map (λ s. rows_at s p.1) o)) ≡ []
        → IsSomeAnd (option_map (λ s. rows_at s p.1) o) (λ entered. HasWords entered.0 entered.1)
    found p rows None is no_help below checks = cc
    found p rows (Some s) is no_help below checks =
        let (passes, answers) = found_one Passes (λ x. answers_to p.0 (label_of x)) (built fmp).subs s is subs_pass in
        let named = by_name s p.0 passes.0 answers in
        passes.1 p.1 below (subst (λ name. bytes_eq name (codes "help") ≡ false) (sym named) no_help)

    go : (stop : Option (Text × List Text)) (rows : List Row)
        → StopsAtNoHelp (built fmp).top.disable_help_subcommand stop → entered_fault (built fmp) stop ≡ []
        → check_fault (built fmp).top rows (is_some (entered (built fmp) stop)) ≡ []
        → IsSomeAnd (entered (built fmp) stop) (λ entered. HasWords entered.0 entered.1)
    go None rows no_help below checks = cc
    go (Some p) rows no_help below checks = found p rows (find (λ s. answers_to p.0 (label_of s)) (built fmp).subs)
        refl (no_help refl) below checks
