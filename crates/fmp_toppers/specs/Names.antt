-- Names of objects that TOPPERS' headers have.
use Rattle.std.specs.Prelude.{ℕ, List, [], ◌∷◌, ◌++◌, map, Option, Some, None, Bool, true, false, ◌||◌, nat_eq}
use Rattle.std.specs.List.{filter, list_any, starts_with}
use Rattle.std.specs.Str.{bytes_eq}
use Rattle.fmp_base.specs.declared.names.Name.{Name}
use Rattle.fmp_base.specs.Names.{name_text}
use Rattle.fmp_base.specs.Systems.{SystemTables}
use Rattle.fmp_toppers.specs.declared.names.TheConstants.{FAMILIES, KNOWN}

-- the headers have this name, or names that begin like it
abbrev pub is_known : List ℕ → Bool
is_known name =
    list_any (λ word. bytes_eq word.now name) KNOWN || list_any (λ word. starts_with nat_eq name word.now) FAMILIES

abbrev pub first_if : (known : Bool) → Name → Option Name → Option Name
first_if true name rest = Some name
first_if false name rest = rest

abbrev pub first_known : List Name → Option Name
first_known [] = None
first_known (n ∷ ns) = first_if (is_known (name_text n)) n (first_known ns)

abbrev pub first_of : Option Name → Option Name → Option Name
first_of (Some name) second = Some name
first_of None second = second

unfoldable pub known_configured : SystemTables → Option Name
known_configured s =
    first_of (first_known (map (λ t. t.name) s.tasks))
    (first_of (first_known (map (λ t. t.name) s.semaphores))
    (first_of (first_known (map (λ t. t.name) s.flags))
    (first_of (first_known (map (λ t. t.name) s.data_queues)) (first_known (map (λ t. t.name) s.mailboxes)))))

unfoldable pub known_other : SystemTables → Option Name
known_other s =
    first_of (first_known (map (λ t. t.name) s.messages))
    (first_of (first_known (map (λ t. t.name) s.shared_words))
    (first_of (first_known (map (λ t. t.name) s.spin_locks)) (first_known (map (λ t. t.name) s.cyclics))))

-- the first object of which the headers have the name, kind by kind
abbrev pub known_object : SystemTables → Option Name
known_object s = first_of (known_configured s) (known_other s)

-- those of some names that the headers have
abbrev pub known : List Name → List Name
known names = filter (λ name. is_known (name_text name)) names

unfoldable pub known_names_configured : SystemTables → List Name
known_names_configured s =
    known (map (λ t. t.name) s.tasks)
    ++ (known (map (λ t. t.name) s.semaphores)
    ++ (known (map (λ t. t.name) s.flags)
    ++ (known (map (λ t. t.name) s.data_queues) ++ known (map (λ t. t.name) s.mailboxes))))

unfoldable pub known_names_other : SystemTables → List Name
known_names_other s =
    known (map (λ t. t.name) s.messages)
    ++ (known (map (λ t. t.name) s.shared_words)
    ++ (known (map (λ t. t.name) s.spin_locks) ++ known (map (λ t. t.name) s.cyclics)))

-- the names of objects that the headers have, kind by kind
abbrev pub known_names : SystemTables → List Name
known_names s = known_names_configured s ++ known_names_other s
