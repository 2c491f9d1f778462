-- Where no name of a tree is unknown, none of its parts has one.
use Rattle.std.proofs.Common.{◌≡◌, ℕ, zero, suc, List, [], ◌∷◌, ◌++◌, Option, Some, None, refl, ap, ◌∙◌, sym}
use Rattle.std.specs.Prelude.{take, drop}
use Rattle.fmp_base.specs.Services.{out_place}
use Rattle.fmp_base.specs.Systems.{found}
use Rattle.fmp_tasklang.specs.declared.trees.Word.{Word}
use Rattle.fmp_tasklang.specs.Trees.{ExpressionTree, CallTree}
use Rattle.fmp_tasklang.specs.Scopes.{Scope, NameMeaning, Variable, Array, Object, Unknown, meaning_of}
use Rattle.fmp_tasklang.specs.Stretches.{variable_number, word_number}
use Rattle.fmp_tasklang.specs.Values.{array_number}
use Rattle.fmp_scopes.specs.declared.offences.Offence.{Offence}
use Rattle.fmp_scopes.specs.Naming.{expression_uses, word_uses, arguments_uses, call_uses, first_offence, NameUse}
use Rattle.fmp_scopes.specs.Naming.{Writes, ReadsElement, WritesElement, write_fault, read_element_fault}
use Rattle.fmp_scopes.specs.Naming.{write_element_fault, at_token, use_offence, uses_offence}

pub none-first : (a b : Option Offence) → first_offence a b ≡ None → a ≡ None
none-first None b h = refl
none-first (Some o) b h = absurd (cc h)

pub none-second : (a b : Option Offence) → first_offence a b ≡ None → b ≡ None
none-second None b h = h
none-second (Some o) b h = absurd (cc h)

module _ (scope : Scope) where
  pub uses_front :
      (a b : List NameUse) → uses_offence scope (a ++ b) ≡ None → uses_offence scope a ≡ None
  uses_front [] b h = refl
  uses_front (u ∷ a) b h =
      let here = none-first (use_offence scope u) (uses_offence scope (a ++ b)) h in
      let rest = uses_front a b (none-second (use_offence scope u) (uses_offence scope (a ++ b)) h) in
      ap (λ o. first_offence o (uses_offence scope a)) here ∙ rest

  pub uses_back :
      (a b : List NameUse) → uses_offence scope (a ++ b) ≡ None → uses_offence scope b ≡ None
  uses_back [] b h = h
  uses_back (u ∷ a) b h = uses_back a b (none-second (use_offence scope u) (uses_offence scope (a ++ b)) h)

written_number :
    (m : NameMeaning) (at : ℕ) → at_token at (write_fault m) ≡ None →
    variable_number m ≡ Some (found 0 (variable_number m))
written_number (Variable v) at h = refl
written_number (Array v) at h = absurd (cc h)
written_number (Object k) at h = absurd (cc h)
written_number Unknown at h = absurd (cc h)

-- a variable that is written has a number
pub target_is :
    (scope : Scope) (w : Word) → use_offence scope (Writes w) ≡ None →
    word_number scope (Some w) ≡ Some (found 0 (variable_number (meaning_of scope w.name)))
target_is scope w h = written_number (meaning_of scope w.name) w.at h

written_variable :
    (m : NameMeaning) (at : ℕ) → at_token at (write_fault m) ≡ None → m ≡ Variable (found 0 (variable_number m))
written_variable (Variable v) at h = refl
written_variable (Array v) at h = absurd (cc h)
written_variable (Object k) at h = absurd (cc h)
written_variable Unknown at h = absurd (cc h)

-- a name that is written is a variable
pub target_means :
    (scope : Scope) (w : Word) → use_offence scope (Writes w) ≡ None →
    meaning_of scope w.name ≡ Variable (found 0 (variable_number (meaning_of scope w.name)))
target_means scope w h = written_variable (meaning_of scope w.name) w.at h

element_read : (m : NameMeaning) (at : ℕ) → at_token at (read_element_fault m) ≡ None → m ≡ Array (array_number m)
element_read (Variable v) at h = absurd (cc h)
element_read (Array v) at h = refl
element_read (Object k) at h = absurd (cc h)
element_read Unknown at h = absurd (cc h)

-- a name with an index is an array
pub read_array :
    (scope : Scope) (w : Word) → use_offence scope (ReadsElement w) ≡ None →
    meaning_of scope w.name ≡ Array (array_number (meaning_of scope w.name))
read_array scope w h = element_read (meaning_of scope w.name) w.at h

element_written : (m : NameMeaning) (at : ℕ) → at_token at (write_element_fault m) ≡ None → m ≡ Array (array_number m)
element_written (Variable v) at h = absurd (cc h)
element_written (Array v) at h = refl
element_written (Object k) at h = absurd (cc h)
element_written Unknown at h = absurd (cc h)

pub written_array :
    (scope : Scope) (w : Word) → use_offence scope (WritesElement w) ≡ None →
    meaning_of scope w.name ≡ Array (array_number (meaning_of scope w.name))
written_array scope w h = element_written (meaning_of scope w.name) w.at h

-- the variables that a call writes
pub call-named :
    (scope : Scope) (c : CallTree) → uses_offence scope (call_uses c) ≡ None →
    (uses_offence scope (word_uses c.result) ≡ None) × (uses_offence scope (word_uses c.out) ≡ None)
call-named scope c h =
    let before = found 0 (out_place c.service) in
    let first = arguments_uses (take before c.arguments) in
    let last = arguments_uses (drop before c.arguments) in
    let rest = uses_back scope (word_uses c.result) (first ++ (word_uses c.out ++ last)) h in (
      uses_front scope (word_uses c.result) (first ++ (word_uses c.out ++ last)) h,
      uses_front scope (word_uses c.out) last (uses_back scope first (word_uses c.out ++ last) rest),
    )

first-assoc :
    (a b c : Option Offence) → first_offence (first_offence a b) c ≡ first_offence a (first_offence b c)
first-assoc None b c = refl
first-assoc (Some o) b c = refl

-- the first of two lists of names has its faults first
pub uses-append :
    (scope : Scope) (a b : List NameUse) →
    uses_offence scope (a ++ b) ≡ first_offence (uses_offence scope a) (uses_offence scope b)
uses-append scope [] b = refl
uses-append scope (u ∷ a) b =
    ap (first_offence (use_offence scope u)) (uses-append scope a b)
    ∙ sym (first-assoc (use_offence scope u) (uses_offence scope a) (uses_offence scope b))

-- where the first part has a fault, it is that of both
pub uses-here :
    (scope : Scope) (a b : List NameUse) (o : Offence) → Some o ≡ uses_offence scope a → Some o
    ≡ uses_offence scope (a ++ b)
uses-here scope a b o h =
    ap (λ x. first_offence x (uses_offence scope b)) h ∙ sym (uses-append scope a b)

-- where it has none, that of both is the other's
pub uses-there :
    (scope : Scope) (a b : List NameUse) → None ≡ uses_offence scope a →
    uses_offence scope b ≡ uses_offence scope (a ++ b)
uses-there scope a b h = ap (λ x. first_offence x (uses_offence scope b)) h ∙ sym (uses-append scope a b)

-- the parts of a call
pub call-uses :
    (scope : Scope) (c : CallTree) →
    uses_offence scope (call_uses c) ≡
    first_offence (uses_offence scope (word_uses c.result))
    (first_offence (uses_offence scope (arguments_uses (take (found 0 (out_place c.service)) c.arguments)))
    (first_offence (uses_offence scope (word_uses c.out))
    (uses_offence scope (arguments_uses (drop (found 0 (out_place c.service)) c.arguments)))))
call-uses scope c =
    let before = found 0 (out_place c.service) in
    let first = arguments_uses (take before c.arguments) in
    let last = arguments_uses (drop before c.arguments) in
    uses-append scope (word_uses c.result) (first ++ (word_uses c.out ++ last))
    ∙ ap (first_offence (uses_offence scope (word_uses c.result)))
    (uses-append scope first (word_uses c.out ++ last)
    ∙ ap (first_offence (uses_offence scope first)) (uses-append scope (word_uses c.out) last))

-- the faults of two parts
pub two-parts :
    (scope : Scope) (a b : List NameUse) (x y z : Option Offence) → x ≡ uses_offence scope a → y
    ≡ uses_offence scope b →
    z ≡ first_offence x y → z ≡ uses_offence scope (a ++ b)
two-parts scope a b x y z first second both =
    both ∙ ap (λ o. first_offence o y) first ∙ ap (first_offence (uses_offence scope a)) second
    ∙ sym (uses-append scope a b)

none-both : (a b : Option Offence) → a ≡ None → b ≡ None → first_offence a b ≡ None
none-both a b p q = ap (λ o. first_offence o b) p ∙ q

uses-both :
    (scope : Scope) (a b : List NameUse) → uses_offence scope a ≡ None → uses_offence scope b ≡ None →
    uses_offence scope (a ++ b) ≡ None
uses-both scope a b p q = uses-append scope a b ∙ none-both (uses_offence scope a) (uses_offence scope b) p q

arguments-joined :
    (scope : Scope) (n : ℕ) (es : List ExpressionTree) → uses_offence scope (arguments_uses (take n es)) ≡ None →
    uses_offence scope (arguments_uses (drop n es)) ≡ None → uses_offence scope (arguments_uses es) ≡ None
arguments-joined scope zero [] p q = refl
arguments-joined scope zero (e ∷ es) p q = q
arguments-joined scope (suc n) [] p q = refl
arguments-joined scope (suc n) (e ∷ es) p q =
    let first = arguments_uses (take n es) in
    uses-both scope (expression_uses e) (arguments_uses es) (uses_front scope (expression_uses e) first p)
    (arguments-joined scope n es (uses_back scope (expression_uses e) first p) q)

-- the arguments of a call
pub arguments-named :
    (scope : Scope) (c : CallTree) → uses_offence scope (call_uses c) ≡ None →
    uses_offence scope (arguments_uses c.arguments) ≡ None
arguments-named scope c h =
    let before = found 0 (out_place c.service) in
    let first = arguments_uses (take before c.arguments) in
    let last = arguments_uses (drop before c.arguments) in
    let rest = uses_back scope (word_uses c.result) (first ++ (word_uses c.out ++ last)) h in
    let later = uses_back scope first (word_uses c.out ++ last) rest in
    arguments-joined scope before c.arguments (uses_front scope first (word_uses c.out ++ last) rest)
    (uses_back scope (word_uses c.out) last later)
