-- Where no entry of a configuration has a fault, each row that the configuration makes names a body that fits.
use Rattle.std.proofs.Common.{◌≡◌, ℕ, List, [], ◌∷◌, ◌++◌, Bool, true, false, Option, Some, None, Result, Ok, Err, refl}
use Rattle.std.proofs.Common.{sym, ap, ◌∙◌, subst}
use Rattle.std.specs.Prelude.{if◌then◌else◌}
use Rattle.std.specs.List.{AllByRecursion, flat_map}
use Rattle.fmp_base.specs.declared.names.Name.{Name}
use Rattle.fmp_base.specs.Names.{name_text}
use Rattle.fmp_base.specs.Systems.{SystemTables}
use Rattle.fmp_lex.specs.declared.fault.FaultKind.{FaultKind}
use Rattle.fmp_base.specs.declared.words.Api.{Api}
use Rattle.fmp_base.specs.declared.words.Api.TheVariants as api
use Rattle.fmp_cfgparse.specs.declared.places.ClassProcessors.{ClassProcessors}
use Rattle.fmp_cfgparse.specs.Apis.{Making, class_of, api_fault, with_object, made}
use Rattle.fmp_cfgparse.specs.Configuring as walk
use Rattle.fmp_cfgparse.specs.Configuring.{unless, walk_apis, walk_class, and_then, walk_classes, nothing_made}
use Rattle.fmp_cfgparse.specs.Configuring.{configured}
use Rattle.fmp_cfgparse.specs.Trees.{FieldTree, ApiTree, ClassTree, ConfigurationTree}
use Rattle.fmp_cfgparse.specs.Values.{between, held, number_at, name_at}
use Rattle.fmp_tasklang.specs.declared.trees.BodyKind.{BodyKind}
use Rattle.fmp_tasklang.specs.declared.trees.BodyKind.TheVariants.{Task, Handler}
use Rattle.fmp_tasklang.specs.Trees.{BodyTree}
use Rattle.fmp_scopes.specs.declared.entries.EntryUse.{EntryUse}
use Rattle.fmp_scopes.specs.declared.offences.Offence.{Offence}
use Rattle.fmp_scopes.specs.Entries.{body_place, entry_fault, entries_offence}
use Rattle.fmp_scopes.specs.Naming.{at_token, first_offence}
use Rattle.fmp_image.proofs.Entering.{wanted, EachEnters}
use Rattle.fmp_image.specs.Entries.{entry_of, alone, api_uses, class_uses, entry_uses}

-- ---- answers that are Ok

unless_ok : {A : Type 0} (at : ℕ) (o : Option FaultKind) (r : Result A walk.Offence) (x : A) → unless at o r ≡ Ok x
    → r ≡ Ok x
unless_ok at None r x h = h
unless_ok at (Some why) r x h = absurd (cc h)

and_then_ok :
    {A B : Type 0} (r : Result A walk.Offence) (f : A → Result B walk.Offence) (y : B) → and_then r f ≡ Ok y →
    (x : A) × (r ≡ Ok x) × (f x ≡ Ok y)
and_then_ok (Ok x) f y h = (x, refl, h)
and_then_ok (Err e) f y h = absurd (cc h)

if_ok : {A : Type 0} (t : Bool) (r : Result A walk.Offence) (e : walk.Offence) (x : A) → (if t then r else Err e)
    ≡ Ok x → r ≡ Ok x
if_ok true r e x h = h
if_ok false r e x h = absurd (cc h)

-- ---- entries without a fault

none-first : (a b : Option Offence) → first_offence a b ≡ None → a ≡ None
none-first None b h = refl
none-first (Some o) b h = absurd (cc h)

none-second : (a b : Option Offence) → first_offence a b ≡ None → b ≡ None
none-second None b h = h
none-second (Some o) b h = absurd (cc h)

first-assoc : (a b c : Option Offence) → first_offence (first_offence a b) c ≡ first_offence a (first_offence b c)
first-assoc None b c = refl
first-assoc (Some o) b c = refl

module _ (bodies : List BodyTree) where
  both_parts :
      (us vs : List EntryUse) →
      entries_offence bodies (us ++ vs) ≡ first_offence (entries_offence bodies us) (entries_offence bodies vs)
  both_parts [] vs = refl
  both_parts (u ∷ us) vs =
      let here = at_token u.at (entry_fault bodies u (body_place bodies u.name)) in
      ap (first_offence here) (both_parts us vs)
      ∙ sym (first-assoc here (entries_offence bodies us) (entries_offence bodies vs))

  front : (us vs : List EntryUse) → entries_offence bodies (us ++ vs) ≡ None → entries_offence bodies us ≡ None
  front us vs h = none-first (entries_offence bodies us) (entries_offence bodies vs) (sym (both_parts us vs) ∙ h)

  back : (us vs : List EntryUse) → entries_offence bodies (us ++ vs) ≡ None → entries_offence bodies vs ≡ None
  back us vs h = none-second (entries_offence bodies us) (entries_offence bodies vs) (sym (both_parts us vs) ∙ h)

  no_fault : (at : ℕ) (o : Option FaultKind) → first_offence (at_token at o) None ≡ None → o ≡ None
  no_fault at None h = refl
  no_fault at (Some why) h = absurd (cc h)

  -- the token of an entry does not matter
  at_any_token :
      (at : ℕ) (n : Name) (kind : BodyKind) (stack : Option ℕ) (place : Option ℕ) →
      entry_fault bodies (record { at = at; name = n; kind = kind; stack = stack }) place
      ≡ entry_fault bodies (wanted n kind stack) place
  at_any_token at n kind stack None = refl
  at_any_token at n kind stack (Some k) = refl

  enters :
      (at : ℕ) (n : Name) (kind : BodyKind) (stack : Option ℕ) →
      entries_offence bodies (record { at = at; name = n; kind = kind; stack = stack } ∷ []) ≡ None →
      entry_fault bodies (wanted n kind stack) (body_place bodies n) ≡ None
  enters at n kind stack h =
      let place = body_place bodies n in
      sym (at_any_token at n kind stack place)
      ∙ no_fault at (entry_fault bodies (record { at = at; name = n; kind = kind; stack = stack }) place) h

-- ---- the walk

one_more : {A : Type 0} (P : A → Type 0) (xs : List A) (x : A) → AllByRecursion P xs → P x
    → AllByRecursion P (xs ++ x ∷ [])
one_more P [] x all here = (here, tt)
one_more P (y ∷ ys) x all here = (all.0, one_more P ys x all.1 here)

module _ (bodies : List BodyTree) (c : ClassProcessors) where
  object_enters :
      (kind : Api) (at : ℕ) (f : List FieldTree) (t : SystemTables)
      → entries_offence bodies (alone (entry_of kind at f)) ≡ None →
      EachEnters bodies t → EachEnters bodies (with_object c kind f t)
  object_enters api.CreTsk at f t none h =
      record {
        tasks = one_more _ t.tasks _ h.tasks (enters bodies at (name_at f 3) Task
            (Some (held 4294967295 (number_at f 5))) none);
        cyclics = h.cyclics;
        interrupts = h.interrupts;
      }
  object_enters api.CreSem at f t none h = record { tasks = h.tasks; cyclics = h.cyclics; interrupts = h.interrupts }
  object_enters api.CreFlg at f t none h = record { tasks = h.tasks; cyclics = h.cyclics; interrupts = h.interrupts }
  object_enters api.CreDtq at f t none h = record { tasks = h.tasks; cyclics = h.cyclics; interrupts = h.interrupts }
  object_enters api.CreMbx at f t none h = record { tasks = h.tasks; cyclics = h.cyclics; interrupts = h.interrupts }
  object_enters api.CreMsg at f t none h = record { tasks = h.tasks; cyclics = h.cyclics; interrupts = h.interrupts }
  object_enters api.CreShr at f t none h = record { tasks = h.tasks; cyclics = h.cyclics; interrupts = h.interrupts }
  object_enters api.CreSpn at f t none h = record { tasks = h.tasks; cyclics = h.cyclics; interrupts = h.interrupts }
  object_enters api.CreCyc at f t none h =
      record {
        tasks = h.tasks;
        cyclics = one_more _ t.cyclics _ h.cyclics (enters bodies at
            (name_at f 3) Handler None none);
        interrupts = h.interrupts;
      }
  object_enters api.DefInh at f t none h =
      record {
        tasks = h.tasks;
        cyclics = h.cyclics;
        interrupts = one_more _ t.interrupts _ h.interrupts (enters
            bodies at (name_at f 2) Handler None none);
      }

module _ (bodies : List BodyTree) where
  apis_enter :
      (c : ClassProcessors) (apis : List ApiTree) (g m : Making) → walk_apis c apis g ≡ Ok m →
      entries_offence bodies (flat_map api_uses apis) ≡ None → EachEnters bodies g.tables → EachEnters bodies m.tables
  apis_enter c [] g m walked none h = let same : g ≡ m = cc walked in subst
      (λ (x : Making). EachEnters bodies x.tables) same h
  apis_enter c (a ∷ more) g m walked none h =
      let uses = api_uses a in
      let rest = flat_map api_uses more in
      apis_enter c more (made c a g) m (unless_ok a.at (api_fault a g) (walk_apis c more (made c a g)) m walked)
      (back bodies uses rest none)
      (object_enters bodies c a.kind a.at a.fields g.tables (front bodies uses rest none) h)

  class_enters :
      (at : ℕ) (o : Option ClassProcessors) (apis : List ApiTree) (g m : Making) → walk_class at o apis g ≡ Ok m →
      entries_offence bodies (flat_map api_uses apis) ≡ None → EachEnters bodies g.tables → EachEnters bodies m.tables
  class_enters at None apis g m walked none h = absurd (cc walked)
  class_enters at (Some c) apis g m walked none h = apis_enter c apis g m walked none h

  classes_enter :
      (processors : ℕ) (classes : List ClassTree) (g m : Making) → walk_classes processors classes g ≡ Ok m →
      entries_offence bodies (flat_map class_uses classes) ≡ None → EachEnters bodies g.tables
      → EachEnters bodies m.tables
  classes_enter processors [] g m walked none h = let same : g
      ≡ m = cc walked in subst (λ (x : Making). EachEnters bodies x.tables) same h
  classes_enter processors (c ∷ more) g m walked none h =
      let place = class_of processors (name_text c.name) in
      let parts = and_then_ok (walk_class c.at place c.apis g) (walk_classes processors more) m walked in
      let uses = class_uses c in
      let rest = flat_map class_uses more in
      classes_enter processors more parts.0 m parts.2 (back bodies uses rest none)
      (class_enters c.at place c.apis g parts.0 parts.1 (front bodies uses rest none) h)

  pub each_enters :
      (tree : ConfigurationTree) (m : Making) → configured tree ≡ Ok m →
      entries_offence bodies (entry_uses tree) ≡ None → EachEnters bodies m.tables
  each_enters tree m walked none =
      let processors = held 255 tree.processors in
      let begun = nothing_made processors in
      let all = if_ok (between 1 8 tree.processors) (walk_classes processors tree.classes begun) _ m walked in
      classes_enter processors tree.classes begun m all none (record { tasks = tt; cyclics = tt; interrupts = tt })
