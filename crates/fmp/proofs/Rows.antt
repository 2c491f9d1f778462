-- The rows of a parse with no fault: each has values, which its argument accepts.
use Rattle.std.proofs.Common.{◌≡◌, ◌∙◌, ◌<◌, ◌⊎◌, inl, inr, ◌++◌, ◌||◌, ◌&&◌, ℕ, zero, suc, List, [], ◌∷◌, length, Bool}
use Rattle.std.proofs.Common.{true, false, cond, Option, Some, None, IfSome, ap, refl, sym, subst, arith, append-nil}
use Rattle.std.proofs.Common.{find, fold, codes, bytes_eq, is_some, slice_get, chars, drop, encode_utf8}
use Rattle.std.proofs.lemmas.Bool.{lt-ltb, ne_eqb}
use Rattle.std.specs.Option.{option_map_or}
use Rattle.clap.specs.Facts.{unwrap_or_range}
use Rattle.clap.specs.Faults.{action_fault, bundle_fault, bundle_step_fault, default_fault, defaults_fault}
use Rattle.clap.specs.Faults.{flag_word_fault, flags_fault, level_fault, long_fault, option_fault, react_fault}
use Rattle.clap.specs.Faults.{settle_fault, short_fault, step_fault, turn_fault, use_fault, values_fault, walk_fault}
use Rattle.clap.specs.Faults.{word_fault, other_fault, check_fault}
use Rattle.clap.specs.Kinds.{Kinds, or_else, request_kinds}
use Rattle.clap.specs.Simple.{Shape}
use Rattle.clap.specs.Walk.{Held, Names, Outcome, Row, Rule, Step, Text, Waiting, Walk, action_of, after_flag}
use Rattle.clap.specs.Walk.{after_step, arg_by_id, arg_by_index, arg_by_long, arg_by_short, at_row, attached_value}
use Rattle.clap.specs.Walk.{bundle_met, bundle_step, default_rows, finished, has_row, is_empty, is_pending, long_met}
use Rattle.clap.specs.Walk.{long_or_other, more_values, nothing_held, option_met, plain_word, reacted, reading_by}
use Rattle.clap.specs.Walk.{rows_after, settled, settled_rows, short_met, short_or_plain, subcommand_met}
use Rattle.clap.specs.Walk.{subcommand_or_other, takes_several, takes_values, to_positional, used, used_as, used_by_id}
use Rattle.clap.specs.Walk.{values_or_missing, walk, walk_from, walked, walked_from, with_default, with_values, without}
use Rattle.clap.specs.Walk.{word_met}
use Rattle.clap.specs.Walk.{done, waits, plain, refused, idle, option, positional, next, trailing, subcommand, value}
use Rattle.clap.specs.Lexer.{long_of, short_of}
use Rattle.clap.specs.declared.builder.action.ArgAction.{ArgAction}
use Rattle.clap.specs.declared.builder.action.ArgAction.TheVariants.{Set, Append, SetTrue, SetFalse, Count, Help}
use Rattle.clap.specs.declared.builder.action.ArgAction.TheVariants.{HelpShort, HelpLong, Version}
use Rattle.clap.specs.declared.parser.matches.ValueSource.TheVariants.{CommandLine, DefaultValue}
use Rattle.clap.specs.declared.parser.matches.ValueSource.{ValueSource}

-- ---- lists, options and faults

abbrev pub Each : {X : Type 0} → (X → Type 0) → List X → Type 0
Each P [] = Unit {0}
Each P (x ∷ xs) = P x × Each P xs

pub each_append : {X : Type 0} (P : X → Type 0) (xs ys : List X) → Each P xs → Each P ys → Each P (xs ++ ys)
each_append P [] ys h k = k
each_append P (x ∷ xs) ys h k = (h.0, each_append P xs ys h.1 k)

some-is : {X : Type 0} (P : X → Type 0) (x y : X) → Some x ≡ Some y → P x → P y
some-is P x y e h = subst (λ o. IfSome o P) e h

pub found_one : {X : Type 0} (P : X → Type 0) (p : X → Bool) (xs : List X) (x : X) → find p xs ≡ Some x → Each P xs
    → P x × (p x ≡ true)
found_one P p [] x e h = cc
found_one P p (y ∷ ys) x e h = go (p y) refl e (λ same. found_one P p ys x same h.1)
  where
    go : (b : Bool) → p y ≡ b → cond b (Some y) (find p ys) ≡ Some x → (find p ys ≡ Some x → P x × (p x ≡ true)) → P x
        × (p x ≡ true)
    go true t same later = some-is (λ z. P z × (p z ≡ true)) y x same (h.0, t)
    go false t same later = later same

pub or_both : (a b : Kinds) → or_else a b ≡ [] → (a ≡ []) × (b ≡ [])
or_both [] b e = (refl, e)
or_both (k ∷ ks) b e = cc

-- ---- one use of an argument

-- a row has values, which its argument accepts and says how to read
pub record HasValues (a : Rule) (r : Row) : Type 0 where
  pub some : 0 < length r.values
  pub accepted : values_fault a r.values ≡ []
  pub reading : r.reading ≡ reading_by a

abbrev pub IsSound : List Rule → Row → Type 0
IsSound c r = IfSome (arg_by_id c r.id) (λ a. HasValues a r)

-- an argument with a name of its own, which takes a value or asks for help
abbrev pub IsUsual : List Rule → Rule → Type 0
IsUsual c a = (arg_by_id c a.id ≡ Some a)
    × (((action_of a ≡ Set) × (0 < (unwrap_or_range a.range).start_inclusive))
    ⊎ (0 < length (request_kinds (action_of a))))

pub at_none : (id : Text) (change : Row → List Row) (missing rows : List Row) → has_row id rows ≡ false
    → at_row id change missing rows ≡ rows ++ missing
at_none id change missing [] none = refl
at_none id change missing (r ∷ rs) none = go (bytes_eq r.id id) none (at_none id change missing rs)
  where
    go : (b : Bool) → (b || has_row id rs) ≡ false → (has_row id rs ≡ false → at_row id change missing rs ≡ rs
        ++ missing)
        → cond b (change r ++ rs) (r ∷ at_row id change missing rs) ≡ r ∷ (rs ++ missing)
    go true e later = cc
    go false e later = ap (λ xs. r ∷ xs) (later e)

new_row : (c : List Rule) (a : Rule) (s : ValueSource) (v : Text) (vs : List Text) (rows : List Row)
    → arg_by_id c a.id ≡ Some a → has_row a.id rows ≡ false
    → values_fault a (v ∷ vs) ≡ [] → Each (IsSound c) rows → Each (IsSound c)
    (with_values a.id (reading_by a) s (v ∷ vs) rows)
new_row c a s v vs rows first none accepted h =
    let row : Row = record { id = a.id; values = v ∷ vs; count = None; source = Some s; reading = reading_by a } in
    let has : HasValues a row = record { some = omega arith; accepted = accepted; reading = refl } in
    let sound : IsSound c row = subst (λ o. IfSome o (λ x. HasValues x row)) (sym first) has in
    subst (Each (IsSound c)) (sym (at_none a.id (more_values s (v ∷ vs)) (row ∷ []) rows none))
    (each_append (IsSound c) rows (row ∷ []) h (sound, tt))

-- one value at least is asked for
none_asked : (least most : ℕ) → 0 < least → Rattle.clap.specs.Kinds.range_kinds least most 0 ≡ [] → ⊥
none_asked least most some e =
    let b = lt-ltb 0 least some in
    let bad = rw b at e in cc

set_sound : (c : List Rule) (a : Rule) (values : List Text) (rows : List Row) → arg_by_id c a.id ≡ Some a
    → 0 < (unwrap_or_range a.range).start_inclusive
    → use_fault false a values rows ≡ [] → action_of a ≡ Set → Each (IsSound c) rows
    → Each (IsSound c) (used_as Set a.id (reading_by a) (values_or_missing a values) rows)
set_sound c a [] rows first least e set h = absurd (none_asked _ _ least (or_both _ _ e).0)
set_sound c a (v ∷ vs) rows first least e set h =
    let acted = subst (λ x. action_fault x false a (v ∷ vs) rows ≡ []) set (or_both _ _ e).1 in
    let (fresh, accepted) = or_both _ _ acted in
    let none : has_row a.id rows ≡ false = go (has_row a.id rows) fresh in
    let kept : without a.id rows ≡ rows = at_none a.id (λ _. []) [] rows none ∙ append-nil rows in
    subst (λ rs. Each (IsSound c) (with_values a.id (reading_by a) CommandLine (v ∷ vs) rs)) (sym kept)
    (new_row c a CommandLine v vs rows first none accepted h)
  where
    go : (b : Bool) → cond (b && true) (Rattle.clap.specs.declared.error.kind.ErrorKind.TheVariants.ArgumentConflict
        ∷ []) [] ≡ [] → b ≡ false
    go true e = cc
    go false e = refl

asks_fault : (x : ArgAction) (again : Bool) (a : Rule) (values : List Text) (rows : List Row)
    → 0 < length (request_kinds x) → action_fault x again a values rows ≡ [] → ⊥
asks_fault Set again a values rows asks e = omega arith
asks_fault Append again a values rows asks e = omega arith
asks_fault SetTrue again a values rows asks e = omega arith
asks_fault SetFalse again a values rows asks e = omega arith
asks_fault Count again a values rows asks e = omega arith
asks_fault Help again a values rows asks e = cc
asks_fault HelpShort again a values rows asks e = cc
asks_fault HelpLong again a values rows asks e = cc
asks_fault Version again a values rows asks e = cc

use_sound : (c : List Rule) (a : Rule) (values : List Text) (rows : List Row) → IsUsual c a
    → use_fault false a values rows ≡ []
    → Each (IsSound c) rows → Each (IsSound c) (used a values rows)
use_sound c a values rows usual e h = elim usual.1 [
  | inl takes ↦ subst (λ x. Each (IsSound c) (used_as x a.id (reading_by a) (values_or_missing a values) rows))
      (sym takes.0)
      (set_sound c a values rows usual.0 takes.1 e takes.0 h)
  | inr asks ↦ absurd (asks_fault (action_of a) false a (values_or_missing a values) rows asks (or_both _ _ e).1)
]

module _ (c : List Rule) (all : Each (IsUsual c) c) where
  by_id_sound : (id : Text) (values : List Text) (rows : List Row) (o : Option Rule) → arg_by_id c id ≡ o
      → option_map_or (λ a. use_fault false a values rows) o [] ≡ [] → Each (IsSound c) rows
      → Each (IsSound c) (used_by_id o values rows)
  by_id_sound id values rows None is e h = h
  by_id_sound id values rows (Some a) is e h = use_sound c a values rows (found_one (IsUsual c) _ c a is all).0 e h

  pending_sound : (rows : List Row) (p : Option (Text × List Text))
      → option_map_or (λ q. option_map_or (λ a. use_fault false a q.1 rows) (arg_by_id c q.0) []) p [] ≡ []
      → Each (IsSound c) rows → Each (IsSound c) (settled_rows c p rows)
  pending_sound rows None e h = h
  pending_sound rows (Some q) e h = by_id_sound q.0 q.1 rows (arg_by_id c q.0) refl e h

  pub settled_sound : (h : Held) → settle_fault c false h ≡ [] → Each (IsSound c) h.rows
      → Each (IsSound c) (settled c h).rows
  settled_sound h e sound = pending_sound h.rows h.pending e sound

  reacted_sound : (a : Rule) (values : List Text) (h : Held) → IsUsual c a → react_fault c false a values h ≡ []
      → Each (IsSound c) h.rows → Each (IsSound c) (reacted c a values h).rows
  reacted_sound a values h usual e sound =
      let (before, used) = or_both _ _ e in
      use_sound c a values (settled c h).rows usual used (settled_sound h before sound)

  option_sound : (a : Rule) (v : Option Text) (h : Held) → IsUsual c a → option_fault c false a v h ≡ []
      → Each (IsSound c) h.rows → Each (IsSound c) (option_met c a v h).0.rows
  option_sound a None h usual e sound = settled_sound h e sound
  option_sound a (Some v) h usual e sound = reacted_sound a (v ∷ []) h usual e sound

  flag_sound : (a : Rule) (v : Option Text) (h : Held) → IsUsual c a
      → cond (is_some v) (Rattle.clap.specs.declared.error.kind.ErrorKind.TheVariants.TooManyValues ∷ [])
      (react_fault c false a [] h) ≡ []
      → Each (IsSound c) h.rows → Each (IsSound c) (Rattle.clap.specs.Walk.flag_met c a v h).0.rows
  flag_sound a None h usual e sound = reacted_sound a [] h usual e sound
  flag_sound a (Some v) h usual e sound = sound

  long_sound : (o : Option Rule) (v : Option Text) (h : Held) → IfSome o (IsUsual c) → long_fault c false o v h ≡ []
      → Each (IsSound c) h.rows → Each (IsSound c) (long_met c o v h).0.rows
  long_sound None v h usual e sound = sound
  long_sound (Some a) v h usual e sound = go (takes_values a) e
    where
      go : (b : Bool)
          → cond b (option_fault c false a v h)
          (cond (is_some v) (Rattle.clap.specs.declared.error.kind.ErrorKind.TheVariants.TooManyValues ∷ [])
          (react_fault c false a [] h)) ≡ []
          → Each (IsSound c) (cond b (option_met c a v h) (Rattle.clap.specs.Walk.flag_met c a v h)).0.rows
      go true f = option_sound a v h usual f sound
      go false f = flag_sound a v h usual f sound

  usual_found : (p : Rule → Bool) (o : Option Rule) → find p c ≡ o → IfSome o (IsUsual c)
  usual_found p None is = tt
  usual_found p (Some a) is = (found_one (IsUsual c) p c a is all).0

  -- the flags of a bundle, where those after the first are sound
  abbrev BundleIsSound : ℕ → Type 0
  BundleIsSound k = (flags : Text) (skip : ℕ) (so_far : Outcome) (h : Held) → flags_fault c false k flags skip h ≡ []
      → Each (IsSound c) h.rows → Each (IsSound c) (bundle_met c k flags skip so_far h).0.rows

  short_sound : (k : ℕ) → BundleIsSound k → (o : Option Rule) (rest : Text) (h : Held) → IfSome o (IsUsual c)
      → short_fault c false o rest h (flags_fault c false k rest 0) ≡ [] → Each (IsSound c) h.rows
      → Each (IsSound c) (short_met c o rest h (bundle_met c k rest 0 done)).0.rows
  short_sound k more None rest h usual e sound = sound
  short_sound k more (Some a) rest h usual e sound = go (takes_values a) e
    where
      go : (b : Bool)
          → cond b (option_fault c false a (attached_value rest) h)
          (or_else (react_fault c false a [] h) (flags_fault c false k rest 0 (reacted c a [] h))) ≡ []
          → Each (IsSound c) (cond b (option_met c a (attached_value rest) h)
          (bundle_met c k rest 0 done (reacted c a [] h))).0.rows
      go true f = option_sound a (attached_value rest) h usual f sound
      go false f = let (here, after) = or_both _ _ f in more rest 0 done (reacted c a [] h) after
          (reacted_sound a [] h usual here sound)

  step_of_bundle : (k : ℕ) → BundleIsSound k → (o : Option ℕ) (flags : Text) (skip : ℕ) (so_far : Outcome) (h : Held)
      → bundle_step_fault c false o flags skip h (flags_fault c false k) ≡ [] → Each (IsSound c) h.rows
      → Each (IsSound c) (bundle_step c o flags skip so_far h (bundle_met c k)).0.rows
  step_of_bundle k more None flags skip so_far h e sound = sound
  step_of_bundle k more (Some x) flags zero so_far h e sound =
      short_sound k more (arg_by_short c x) (drop (length (encode_utf8 x)) flags) h
      (usual_found _ (arg_by_short c x) refl) e sound
  step_of_bundle k more (Some x) flags (suc skip) so_far h e sound = more
      (drop (length (encode_utf8 x)) flags) skip so_far h e sound

  bundle_sound : (k : ℕ) → BundleIsSound k
  unfolding flags_fault bundle_met
  bundle_sound zero flags skip so_far h e sound = sound
  bundle_sound (suc k) flags skip so_far h e sound = step_of_bundle k (bundle_sound k)
      (slice_get (chars flags) 0) flags skip so_far h e sound

  -- ---- one word

  plain_rows : (waiting : Waiting) (word : Text) (h : Held) → (plain_word c waiting word h).0.rows ≡ h.rows
  plain_rows idle word h = refl
  plain_rows positional word h = refl
  plain_rows (option id) word h = go (arg_by_id c id)
    where
      go : (o : Option Rule) → (Rattle.clap.specs.Walk.option_word o id word h).0.rows ≡ h.rows
      go None = refl
      go (Some a) = refl

  flag_rows : (waiting : Waiting) (word : Text) (h : Held) (o : Outcome) → (after_flag c waiting word h o).0.rows
      ≡ h.rows
  flag_rows waiting word h done = refl
  flag_rows waiting word h (waits id) = refl
  flag_rows waiting word h plain = plain_rows waiting word h
  flag_rows waiting word h refused = plain_rows waiting word h

  after_flag_sound : (waiting : Waiting) (word : Text) (h : Held) (o : Outcome) → Each (IsSound c) h.rows
      → Each (IsSound c) (after_flag c waiting word h o).0.rows
  after_flag_sound waiting word h o sound = subst (Each (IsSound c)) (sym (flag_rows waiting word h o)) sound

  short_word_sound : (waiting : Waiting) (word : Text) (o : Option Text) (h : Held)
      → option_map_or (λ flags. bundle_fault c false flags h) o [] ≡ []
      → Each (IsSound c) h.rows → Each (IsSound c) (short_or_plain c waiting word o h).0.rows
  short_word_sound waiting word None h e sound = subst (Each (IsSound c)) (sym (plain_rows waiting word h)) sound
  short_word_sound waiting word (Some flags) h e sound =
      after_flag_sound waiting word _ _ (bundle_sound (length flags) flags h.skip plain (record h { skip = 0 }) e sound)

  flag_word_sound : (waiting : Waiting) (word : Text) (o : Option (Text × Option Text)) (h : Held)
      → flag_word_fault c false o word h ≡ []
      → Each (IsSound c) h.rows → Each (IsSound c) (long_or_other c waiting word o h).0.rows
  flag_word_sound waiting word None h e sound = short_word_sound waiting word (short_of word) h e sound
  flag_word_sound waiting word (Some p) h e sound =
      after_flag_sound waiting word _ _ (long_sound (arg_by_long c p.0) p.1 h
      (usual_found _ (arg_by_long c p.0) refl) e sound)

  positional_sound : (o : Option Rule) (word : Text) (w : Walk) (h : Held)
      → option_map_or (λ a. Rattle.clap.specs.Faults.positional_fault c false a h) o [] ≡ [] → Each (IsSound c) h.rows
      → Each (IsSound c) (to_positional c o word w h).held.rows
  positional_sound None word w h e sound = sound
  positional_sound (Some a) word w h e sound = go (is_pending a h.pending && takes_several a) e
    where
      go : (b : Bool) → cond b [] (settle_fault c false h) ≡ [] → Each (IsSound c) (cond b h (settled c h)).rows
      go true f = sound
      go false f = settled_sound h f sound

-- ---- a walk

-- the step enters no help, where that is a subcommand
abbrev pub IsNoHelp : Bool → Step → Type 0
IsNoHelp disabled (next waiting) = Unit {0}
IsNoHelp disabled (trailing position) = Unit {0}
IsNoHelp disabled (subcommand name) = disabled ≡ false → bytes_eq name (codes "help") ≡ false
IsNoHelp disabled value = Unit {0}

-- the walk has stopped at no help
abbrev pub StopsAtNoHelp : Bool → Option (Text × List Text) → Type 0
StopsAtNoHelp disabled stop = IfSome stop (λ p. disabled ≡ false → bytes_eq p.0 (codes "help") ≡ false)

plain_no_help : (disabled : Bool) (c : List Rule) (waiting : Waiting) (word : Text) (h : Held)
    → IsNoHelp disabled (plain_word c waiting word h).1
plain_no_help disabled c idle word h = tt
plain_no_help disabled c (option id) word h = tt
plain_no_help disabled c positional word h = tt

flag_no_help : (disabled : Bool) (c : List Rule) (waiting : Waiting) (word : Text) (h : Held) (o : Outcome)
    → IsNoHelp disabled (after_flag c waiting word h o).1
flag_no_help disabled c waiting word h done = tt
flag_no_help disabled c waiting word h (waits id) = tt
flag_no_help disabled c waiting word h plain = plain_no_help disabled c waiting word h
flag_no_help disabled c waiting word h refused = plain_no_help disabled c waiting word h

short_no_help : (disabled : Bool) (c : List Rule) (waiting : Waiting) (word : Text) (o : Option Text) (h : Held)
    → IsNoHelp disabled (short_or_plain c waiting word o h).1
short_no_help disabled c waiting word None h = plain_no_help disabled c waiting word h
short_no_help disabled c waiting word (Some flags) h = flag_no_help disabled c waiting word _ _

word_no_help : (disabled : Bool) (c : List Rule) (waiting : Waiting) (word : Text) (o : Option (Text × Option Text))
    (h : Held) → IsNoHelp disabled (long_or_other c waiting word o h).1
word_no_help disabled c waiting word None h = short_no_help disabled c waiting word (short_of word) h
word_no_help disabled c waiting word (Some p) h = flag_no_help disabled c waiting word _ _

-- a level of the parse whose arguments are usual, and whose settings are left as they are
pub record IsUsualLevel (s : Shape) : Type 0 where
  pub rules : Each (IsUsual s.rules) s.rules
  pub again : s.args_override_self ≡ false

abbrev pub Stands : Shape → Walk → Type 0
Stands s w = Each (IsSound s.rules) w.held.rows × StopsAtNoHelp s.disable_help_subcommand w.stopped

module _ (s : Shape) (usual : IsUsualLevel s) where
  other_stands : (o : Option Text) (waiting : Waiting) (position : ℕ) (word : Text) (h : Held)
      → other_fault s o word h ≡ [] → Each (IsSound s.rules) h.rows
      → Each (IsSound s.rules) (subcommand_or_other s.rules o waiting position word h).0.rows
      × IsNoHelp s.disable_help_subcommand (subcommand_or_other s.rules o waiting position word h).1
  other_stands (Some name) waiting position word h e sound = (
    sound,
    λ enabled. go (bytes_eq name (codes "help"))
        (rw enabled at e),
  )
    where
      go : (b : Bool)
          → cond (b && true) (Rattle.clap.specs.declared.error.kind.ErrorKind.TheVariants.DisplayHelp
          ∷ Rattle.clap.specs.declared.error.kind.ErrorKind.TheVariants.InvalidSubcommand ∷ []) [] ≡ [] → b ≡ false
      go true f = cc
      go false f = refl
  other_stands None waiting position word h e sound =
      go (bytes_eq word (45 ∷ 45 ∷ [])) (subst (λ again. cond (bytes_eq word (45 ∷ 45 ∷ [])) []
      (flag_word_fault s.rules again (long_of word) word h) ≡ []) usual.again e)
    where
      go : (b : Bool) → cond b [] (flag_word_fault s.rules false (long_of word) word h) ≡ []
          → Each (IsSound s.rules) (cond b (h, trailing position) (long_or_other s.rules waiting word
          (long_of word) h)).0.rows
          × IsNoHelp s.disable_help_subcommand (cond b (h, trailing position)
          (long_or_other s.rules waiting word (long_of word) h)).1
      go true f = (sound, tt)
      go false f = (
        flag_word_sound s.rules usual.rules waiting word (long_of word) h f sound,
        word_no_help
            s.disable_help_subcommand s.rules waiting word (long_of word) h,
      )

  met_stands : (names : Names) (is_trailing : Bool) (waiting : Waiting) (position : ℕ) (word : Text) (h : Held)
      → word_fault s names is_trailing waiting word h ≡ [] → Each (IsSound s.rules) h.rows
      → Each (IsSound s.rules) (word_met s.rules names is_trailing waiting position word h).0.rows
      × IsNoHelp s.disable_help_subcommand (word_met s.rules names is_trailing waiting position word h).1
  met_stands names true waiting position word h e sound = (sound, tt)
  met_stands names false waiting position word h e sound = other_stands
      (subcommand_met names waiting word) waiting position word h e sound

  positional_stop : (o : Option Rule) (word : Text) (w : Walk) (h : Held)
      → StopsAtNoHelp s.disable_help_subcommand w.stopped
      → StopsAtNoHelp s.disable_help_subcommand (to_positional s.rules o word w h).stopped
  positional_stop None word w h stop = stop
  positional_stop (Some a) word w h stop = tt

  after_stands : (word : Text) (w : Walk) (h : Held) (step : Step) → step_fault s w.position h step ≡ []
      → Each (IsSound s.rules) h.rows → IsNoHelp s.disable_help_subcommand step
      → StopsAtNoHelp s.disable_help_subcommand w.stopped → Stands s (after_step s.rules word w h step)
  after_stands word w h (next waiting) e sound calm stop = (sound, stop)
  after_stands word w h (trailing position) e sound calm stop = (sound, stop)
  after_stands word w h (subcommand name) e sound calm stop = (sound, calm)
  after_stands word w h value e sound calm stop = (
    positional_sound s.rules usual.rules (arg_by_index s.rules w.position) word w h
        (taken (arg_by_index s.rules w.position) e) sound,
    positional_stop (arg_by_index s.rules w.position) word w h stop,
  )
    where
      taken : (o : Option Rule)
          → option_map_or (λ a. Rattle.clap.specs.Faults.positional_fault s.rules s.args_override_self a h) o
          (Rattle.clap.specs.Faults.stray_fault s) ≡ []
          → option_map_or (λ a. Rattle.clap.specs.Faults.positional_fault s.rules false a h) o [] ≡ []
      taken None f = refl
      taken (Some a) f = subst (λ again. Rattle.clap.specs.Faults.positional_fault s.rules again a h ≡ []) usual.again f

  turn_stands : (names : Names) (w : Walk) (word : Text) → turn_fault s names w word ≡ [] → Stands s w
      → Stands s (walked s.rules names w word)
  unfolding walked
  turn_stands names w word e stands = go w.stopped e stands.1
    where
      go : (o : Option (Text × List Text))
          → cond (is_some o) [] (or_else (word_fault s names w.is_trailing w.waiting word w.held)
          (step_fault s w.position (word_met s.rules names w.is_trailing w.waiting w.position word w.held).0
          (word_met s.rules names w.is_trailing w.waiting w.position word w.held).1)) ≡ []
          → StopsAtNoHelp s.disable_help_subcommand o → Stands s (walked_from s.rules names o w word)
      go (Some p) f stop = (stands.0, stop)
      go None f stop =
          let (fits, goes) = or_both _ _ f in
          let (sound, calm) = met_stands names w.is_trailing w.waiting w.position word w.held fits stands.0 in
          after_stands word w _ _ goes sound calm stands.1

  walk_stands : (names : Names) (words : List Text) (w : Walk) → walk_fault s names w words ≡ [] → Stands s w
      → Stands s (fold (walked s.rules names) w words)
  unfolding walk_fault
  walk_stands names [] w e stands = stands
  walk_stands names (word ∷ words) w e stands =
      let (here, after) = or_both _ _ e in
      walk_stands names words (walked s.rules names w word) after (turn_stands names w word here stands)

  -- ---- defaults

  default_sound : (a : Rule) (rows : List Row) → IsUsual s.rules a → default_fault rows a ≡ []
      → Each (IsSound s.rules) rows → Each (IsSound s.rules) (with_default rows a)
  default_sound a rows own e sound = go (has_row a.id rows) refl a.defaults e
    where
      go : (b : Bool) → has_row a.id rows ≡ b → (values : List Text)
          → cond (b || is_empty values) [] (or_else (request_kinds (action_of a)) (values_fault a values)) ≡ []
          → Each (IsSound s.rules) (cond b rows (default_rows a.id (reading_by a) values rows))
      go true has values f = sound
      go false has [] f = sound
      go false has (v ∷ vs) f =
          let some : is_empty (v ∷ vs) ≡ false = ne_eqb _ _ (λ none. omega arith) in
          let given : or_else (request_kinds (action_of a)) (values_fault a (v ∷ vs)) ≡ [] =
          subst (λ b. cond b [] (or_else (request_kinds (action_of a)) (values_fault a (v ∷ vs))) ≡ []) some f in
          new_row s.rules a DefaultValue v vs rows own.0 has (or_both _ _ given).1 sound

  defaults_sound : (rest : List Rule) (rows : List Row) → Each (IsUsual s.rules) rest → defaults_fault rows rest ≡ []
      → Each (IsSound s.rules) rows
      → Each (IsSound s.rules) (fold with_default rows rest)
  unfolding defaults_fault
  defaults_sound [] rows own e sound = sound
  defaults_sound (a ∷ rest) rows own e sound =
      let (here, after) = or_both _ _ e in
      defaults_sound rest (with_default rows a) own.1 after (default_sound a rows own.0 here sound)

  -- what stands after one level of a parse with no fault
  pub level_stands : (names : Names) (words : List Text) (has : Bool) (below : Kinds)
      → level_fault s names nothing_held words has below ≡ []
      → Each (IsSound s.rules) (rows_after s.rules names words)
      × StopsAtNoHelp s.disable_help_subcommand (walk s.rules names nothing_held words).stopped
      × (below ≡ []) × (check_fault s (rows_after s.rules names words) has ≡ [])
  level_stands names words has below e =
      let (walks, rest) = or_both _ _ e in
      let (under, rest2) = or_both _ _ rest in
      let (settles, rest3) = or_both _ _ rest2 in
      let (defaults, checks) = or_both _ _ rest3 in
      let stands = walk_stands names words (walk_from nothing_held) walks (tt, tt) in
      let end = (walk s.rules names nothing_held words).held in
      let settled_here = subst (λ again. settle_fault s.rules again end ≡ []) usual.again settles in (
        defaults_sound s.rules (settled s.rules end).rows usual.rules defaults
            (settled_sound s.rules usual.rules end settled_here stands.0),
        stands.1,
        under,
        checks,
      )
