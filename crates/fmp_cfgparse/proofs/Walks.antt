-- What a configuration makes keeps the rules of a configuration.
use Rattle.std.proofs.Common.{◌≡◌, ℕ, ◌-◌, ◌+◌, ◌<◌, ◌≤◌, nat_le, nat_eq, Bool, true, false, not, ◌&&◌, if◌then◌else◌}
use Rattle.std.proofs.Common.{List, [], ◌∷◌, map, slice_index, Option, Some, None, Result, Ok, Err, refl, ap, ◌∙◌}
use Rattle.std.proofs.Common.{subst, arith}
use Rattle.std.proofs.lemmas.Bool.{leb-true}
use Rattle.std.proofs.lemmas.List.Sorted.{IsPermutation-refl}
use Rattle.std.specs.List.{AllByRecursion, IsDistinct}
use Rattle.std.specs.List.Sorted.{IsPermutation}
use Rattle.std.specs.Str.{bytes_eq}
use Rattle.fmp_base.specs.Names.{name_text}
use Rattle.fmp_base.specs.Ranges.{Lies, IsTable, IsInRange, TaskInRange, SemaphoreInRange, FlagInRange}
use Rattle.fmp_base.specs.Ranges.{DataQueueInRange, MailboxInRange, MessageInRange, CyclicInRange, InterruptInRange}
use Rattle.fmp_base.specs.declared.codes.Er.TheVariants as er
use Rattle.fmp_base.specs.declared.names.Name.{Name}
use Rattle.fmp_base.specs.declared.systems.TheConstants.{QUEUE_LIMIT}
use Rattle.fmp_lex.specs.declared.fault.FaultKind.{FaultKind}
use Rattle.fmp_lex.specs.declared.fault.FaultKind.TheVariants as fault
use Rattle.fmp_base.specs.declared.words.Api.{Api}
use Rattle.fmp_cfgparse.specs.declared.places.ClassProcessors.{ClassProcessors}
use Rattle.fmp_cfgparse.specs.Apis.{Making, class_of, class_name, only_name, is_used, count_of, gives_name}
use Rattle.fmp_cfgparse.specs.Apis.{attribute_fits, parameters_fit, is_taken, refusal, api_fault, with_object}
use Rattle.fmp_cfgparse.specs.Apis.{with_name, made}
use Rattle.fmp_cfgparse.specs.Configuring.{Offence, unless, walk_apis, walk_class, and_then, walk_classes, nothing_made}
use Rattle.fmp_cfgparse.specs.Configuring.{configured}
use Rattle.fmp_cfgparse.specs.Tables.{IsConfiguration, IsObjectName, TaskConfigured, SharedWordConfigured}
use Rattle.fmp_cfgparse.specs.Tables.{CyclicConfigured, InterruptConfigured, same_name, object_names, interrupt_number}
use Rattle.fmp_cfgparse.specs.Trees.{FieldTree, ApiTree, ClassTree, ConfigurationTree}
use Rattle.fmp_cfgparse.specs.Values.{all_known, number_at, name_at, between, held}
use Rattle.fmp_cfgparse.proofs.KnownTrees.{IsKnownField, IsKnownApi, IsKnownClass}
use Rattle.fmp_cfgparse.proofs.MadeObjects.{ranges_more, processors_stay, queue_limit_stays, tasks_more}
use Rattle.fmp_cfgparse.proofs.MadeObjects.{shared_words_more, cyclics_more, interrupts_more, numbers_more, names_more}
use Rattle.fmp_cfgparse.proofs.OneMore.{held_lies, all_more, name_more, listed_named, listed_distinct}

-- what has been made keeps the rules of a configuration, given the number of processors; the names are those of the
-- tables
record IsMaking (processors : ℕ) (g : Making) : Type 0 where
  count : g.tables.processors ≡ processors
  ranges : IsInRange g.tables
  queue_limit : g.tables.queue_limit ≡ QUEUE_LIMIT
  tasks : AllByRecursion TaskConfigured g.tables.tasks
  shared_words : AllByRecursion SharedWordConfigured g.tables.shared_words
  cyclics : AllByRecursion CyclicConfigured g.tables.cyclics
  interrupts : AllByRecursion InterruptConfigured g.tables.interrupts
  numbers : IsDistinct nat_eq (map interrupt_number g.tables.interrupts)
  names : AllByRecursion IsObjectName g.names
  distinct : IsDistinct same_name g.names
  listed : IsPermutation g.names (object_names g.tables)

-- an API has no fault
record IsAllowed (k : Api) (f : List FieldTree) (g : Making) : Type 0 where
  room : nat_le 255 (count_of k g.tables) ≡ false
  unused : (gives_name k && is_used g.names (name_at f 0)) ≡ false
  fit : parameters_fit k f ≡ true
  untaken : is_taken k f g.tables ≡ false

named_more : (gives : Bool) (n : Name) (names : List Name) → (gives ≡ true → IsObjectName n)
    → AllByRecursion IsObjectName names → AllByRecursion IsObjectName (with_name gives n names)
named_more true n names name h = all_more IsObjectName names n h (name refl)
named_more false n names name h = h

distinct_more : (gives : Bool) (n : Name) (names : List Name) → (gives && is_used names n) ≡ false
    → IsDistinct same_name names → IsDistinct same_name (with_name gives n names)
distinct_more true n names unused h = name_more names n h unused
distinct_more false n names unused h = h

object_made : (processors : ℕ) (c : ClassProcessors) (k : Api) (f : List FieldTree) (g : Making)
    → c.processor < processors → (gives_name k ≡ true → IsObjectName (name_at f 0)) →
    AllByRecursion IsKnownField f → IsAllowed k f g → IsMaking processors g →
    IsMaking processors (record {
      tables = with_object c k f g.tables;
      names = with_name (gives_name k) (name_at f
          0) g.names;
    })
object_made processors c k f g here name known a h =
    let t = g.tables in
    let inside : c.processor < t.processors = rw h.count here in
    record {
      count = processors_stay c f t k ∙ h.count;
      ranges = ranges_more c f t k inside a.room a.fit h.ranges;
      queue_limit = queue_limit_stays c f t k ∙ h.queue_limit;
      tasks = tasks_more c f t k known h.tasks;
      shared_words = shared_words_more c f t k known h.shared_words;
      cyclics = cyclics_more c f t k known h.cyclics;
      interrupts = interrupts_more c f t k h.interrupts;
      numbers = numbers_more c f t k a.untaken h.numbers;
      names = named_more (gives_name k) (name_at f 0) g.names name h.names;
      distinct = distinct_more (gives_name k) (name_at f 0) g.names a.unused h.distinct;
      listed = names_more c f t g.names h.listed k;
    }

-- ---- an API that is made has no fault

refusal_none : (a b c : Bool) → (if not a then Some (fault.Api er.Rsatr) else
    (if not b then Some (fault.Api er.Par) else (if c then Some (fault.Api er.Obj) else None))) ≡ None →
    (b ≡ true) × (c ≡ false)
refusal_none true true false e = (refl, refl)
refusal_none true true true e = cc
refusal_none true false c e = cc
refusal_none false b c e = cc

fault_none : (a b c : Bool) (o : Option FaultKind) → (if a then Some fault.Limit else
    (if b then Some fault.TwiceNamed else (if not c then Some fault.UnknownName else o))) ≡ None →
    (a ≡ false) × ((b ≡ false) × (o ≡ None))
fault_none true b c o e = cc
fault_none false true c o e = cc
fault_none false false true o e = (refl, (refl, e))
fault_none false false false o e = cc

allowed : (a : ApiTree) (g : Making) → api_fault a g ≡ None → IsAllowed a.kind a.fields g
allowed a g e =
    let x = fault_none (nat_le 255 (count_of a.kind g.tables)) (gives_name a.kind
    && is_used g.names (name_at a.fields 0)) (all_known a.fields) (refusal a.kind a.fields g.tables) e in
    let y = refusal_none (attribute_fits a.kind (number_at a.fields 1)) (parameters_fit a.kind a.fields)
    (is_taken a.kind a.fields g.tables) x.1.1 in
    record { room = x.0; unused = x.1.0; fit = y.0; untaken = y.1 }

-- ---- the walk

module _ (processors : ℕ) where
  api_made : (c : ClassProcessors) (a : ApiTree) (g : Making) → c.processor < processors → IsKnownApi a
      → api_fault a g ≡ None → IsMaking processors g → IsMaking processors (made c a g)
  api_made c a g here known e h = object_made processors c a.kind a.fields g here known.names known.fields
      (allowed a g e) h

  went_on : {A : Type 0} (at : ℕ) (o : Option FaultKind) (then_ : Result A Offence) (r : A) → unless at o then_ ≡ Ok r
      → (o ≡ None) × (then_ ≡ Ok r)
  went_on at None then_ r e = (refl, e)
  went_on at (Some why) then_ r e = cc

  apis_made : (c : ClassProcessors) (apis : List ApiTree) (g made_ : Making) → c.processor < processors
      → AllByRecursion IsKnownApi apis → IsMaking processors g →
      walk_apis c apis g ≡ Ok made_ → IsMaking processors made_
  apis_made c [] g made_ here known h e = let same : g ≡ made_ = cc in subst (λ x. IsMaking processors x) same h
  apis_made c (a ∷ more) g made_ here known h e =
      let on = went_on a.at (api_fault a g) (walk_apis c more (made c a g)) made_ e in
      apis_made c more (made c a g) made_ here known.1 (api_made c a g here known.0 on.0 h) on.1

  -- a class has a processor of the system
  place_inside : (digit : ℕ) (only : Bool) (c : ClassProcessors) → nat_le 49 digit ≡ true
      → nat_le digit (48 + processors) ≡ true →
      ◌≡◌ {A = Option ClassProcessors} (Some (record { processor = digit - 49; only = only })) (Some c)
      → c.processor < processors
  place_inside digit only c low high is =
      let least : 49 ≤ digit = leb-true 49 digit low in
      let most : digit ≤ 48 + processors = leb-true digit (48 + processors) high in
      let same : ◌≡◌ {A = ClassProcessors} (record { processor = digit - 49; only = only }) c = cc in
      let at : digit - 49 ≡ c.processor = ap (λ (x : ClassProcessors). x.processor) same in
      omega arith

  digit_inside : (digit : ℕ) (c : ClassProcessors) (a b x y : Bool) → nat_le 49 digit ≡ a
      → nat_le digit (48 + processors) ≡ b →
      (if a && b then (if x then Some (record { processor = digit - 49; only = false }) else
      (if y then Some (record { processor = digit - 49; only = true }) else None)) else None)
      ≡ Some c → c.processor < processors
  digit_inside digit c true true true y low high is = place_inside digit false c low high is
  digit_inside digit c true true false true low high is = place_inside digit true c low high is
  digit_inside digit c true true false false low high is = cc
  digit_inside digit c true false x y low high is = cc
  digit_inside digit c false b x y low high is = cc

  class_inside : (text : List ℕ) (c : ClassProcessors) → class_of processors text ≡ Some c → c.processor < processors
  class_inside text c e =
      let digit = slice_index text 4 in
      digit_inside digit c (nat_le 49 digit) (nat_le digit (48 + processors)) (bytes_eq text (class_name digit))
      (bytes_eq text (only_name digit)) refl refl e

  class_made : (at : ℕ) (o : Option ClassProcessors) (apis : List ApiTree) (g made_ : Making)
      → ((c : ClassProcessors) → o ≡ Some c → c.processor < processors) →
      AllByRecursion IsKnownApi apis → IsMaking processors g → walk_class at o apis g ≡ Ok made_
      → IsMaking processors made_
  class_made at None apis g made_ inside known h e = cc
  class_made at (Some c) apis g made_ inside known h e = apis_made c apis g made_ (inside c refl) known h e

  both_ok : (r : Result Making Offence) (next : Making → Result Making Offence) (made_ : Making) → and_then r next
      ≡ Ok made_ → (g : Making) × (r ≡ Ok g) × (next g ≡ Ok made_)
  both_ok (Ok g) next made_ e = (g, refl, e)
  both_ok (Err o) next made_ e = cc

  classes_made : (classes : List ClassTree) (g made_ : Making) → AllByRecursion IsKnownClass classes
      → IsMaking processors g → walk_classes processors classes g ≡ Ok made_ → IsMaking processors made_
  classes_made [] g made_ known h e = let same : g ≡ made_ = cc in subst (λ x. IsMaking processors x) same h
  classes_made (c ∷ more) g made_ known h e =
      let place = class_of processors (name_text c.name) in
      let on = both_ok (walk_class c.at place c.apis g) (walk_classes processors more) made_ e in
      classes_made more on.0 made_ known.1 (class_made c.at place c.apis g on.0
      (class_inside (name_text c.name)) known.0 h on.1) on.2

no_rows : {A : Type 0} (P : A → Type 0) → IsTable P []
no_rows P = record { count = omega arith; each = tt }

pub nothing_in_range : (processors : ℕ) → Lies 1 8 processors → IsInRange (nothing_made processors).tables
nothing_in_range processors lies =
    record {
      processors = lies;
      queue_limit = record { least = omega arith; most = omega arith };
      tasks = no_rows (TaskInRange processors);
      semaphores = no_rows SemaphoreInRange;
      flags = no_rows FlagInRange;
      data_queues = no_rows DataQueueInRange;
      mailboxes = no_rows MailboxInRange;
      messages = no_rows MessageInRange;
      shared_words = omega arith;
      spin_locks = omega arith;
      cyclics = no_rows (CyclicInRange processors);
      interrupts = no_rows (InterruptInRange processors);
    }

started : (processors : ℕ) → Lies 1 8 processors → IsMaking processors (nothing_made processors)
unfolding IsDistinct
started processors lies =
    record {
      count = refl;
      ranges = nothing_in_range processors lies;
      queue_limit = refl;
      tasks = tt;
      shared_words = tt;
      cyclics = tt;
      interrupts = tt;
      numbers = tt;
      names = tt;
      distinct = tt;
      listed = IsPermutation-refl [];
    }

within : (a : Bool) (r : Result Making Offence) (o : Offence) (g : Making) → (if a then r else Err o) ≡ Ok g
    → (a ≡ true) × (r ≡ Ok g)
within true r o g e = (refl, e)
within false r o g e = cc

keeps : (processors : ℕ) (g : Making) → IsMaking processors g → IsConfiguration g.tables
keeps processors g h =
    record {
      ranges = h.ranges;
      queue_limit = h.queue_limit;
      names = listed_named g.names (object_names g.tables) h.listed h.names;
      distinct = listed_distinct g.names (object_names g.tables) h.listed h.distinct;
      tasks = h.tasks;
      shared_words = h.shared_words;
      cyclics = h.cyclics;
      interrupts = h.interrupts;
      numbers = h.numbers;
    }

-- a tree of known fields makes tables that keep the rules
pub configured_keeps : (tree : ConfigurationTree) (g : Making) → AllByRecursion IsKnownClass tree.classes
    → configured tree ≡ Ok g → IsConfiguration g.tables
configured_keeps tree g known e =
    let processors = held 255 tree.processors in
    let on = within (between 1 8 tree.processors) (walk_classes processors tree.classes (nothing_made processors))
    (record { at = tree.at; why = fault.Limit }) g e in
    let lies = held_lies 255 1 8 tree.processors (omega arith) on.0 in
    keeps processors g (classes_made processors tree.classes (nothing_made processors) g known
    (started processors lies) on.1)
