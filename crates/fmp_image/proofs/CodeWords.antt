-- Code pushes numbers of 32 bits: those of the text, and the numbers of objects.
use Rattle.std.proofs.Common.{◌≡◌, ℕ, pos, ◌+◌, ◌<◌, ◌≤◌, Bool, true, false, List, [], ◌∷◌, ◌++◌, length, map, Option}
use Rattle.std.proofs.Common.{Some, None, FitsSigned, refl, arith}
use Rattle.std.specs.Prelude.{slice_get, if◌then◌else◌}
use Rattle.std.proofs.lemmas.List.{length-map}
use Rattle.std.specs.Int.{w32}
use Rattle.std.specs.List.{AllByRecursion}
use Rattle.std.specs.Str.{bytes_eq}
use Rattle.std.proofs.lemmas.List.Quantifiers.{position-Some}
use Rattle.fmp_base.specs.declared.names.Name.{Name}
use Rattle.fmp_base.specs.Names.{name_text}
use Rattle.fmp_base.specs.Ranges.{IsInRange}
use Rattle.fmp_base.specs.Systems.{SystemTables, no_name}
use Rattle.fmp_tasklang.specs.Scopes.{Scope, NameMeaning, Variable, Array, Object, Unknown, place_of, number_or}
use Rattle.fmp_tasklang.specs.Scopes.{object_number, object_names, is_array_or_none, local_or, meaning_of, scope_of}
use Rattle.fmp_tasklang.specs.Layout.{Local}
use Rattle.fmp_tasklang.specs.Trees.{ExpressionTree, number, named, element, unary, binary, both, either, StatementTree}
use Rattle.fmp_tasklang.specs.Trees.{assign, assign_element, service_call, if_then, if_else, while, break, continue}
use Rattle.fmp_tasklang.specs.Trees.{return, Block, empty, next, BodyTree}
use Rattle.fmp_instructions.specs.declared.instructions.Instruction.{Instruction}
use Rattle.fmp_instructions.specs.Instructions.{BodyTables}
use Rattle.fmp_codegen.specs.Compiling.{compiled}
use Rattle.fmp_scopes.specs.Scheme.{name_code, expression_code, arguments_code, statement_code, block_code}
use Rattle.fmp_scopes.specs.Sizes.{expression_size, statement_size, block_size}
use Rattle.fmp_image_bytes.specs.Instructions.{HasWord}
use Rattle.fmp_image.proofs.TextNumbers.{ExpressionHasWords, StatementHasWords, BlockHasWords, BodyHasWords}

-- ---- the numbers of objects

abbrev IsSmall : NameMeaning → Type 0
IsSmall (Variable v) = Unit {0}
IsSmall (Array v) = Unit {0}
IsSmall (Object k) = k ≤ 255
IsSmall Unknown = Unit {0}

abbrev AreFew : List Name → Type 0
AreFew names = length names ≤ 255

or_small : (o : Option ℕ) (others : NameMeaning) → ((p : ℕ) → o ≡ Some p → p < 255) → IsSmall others
    → IsSmall (number_or o others)
or_small None others h small = small
or_small (Some p) others h small = let below = h p refl in omega (arith, below)

object_small : (text : List ℕ) (objects : List (List Name)) → AllByRecursion AreFew objects
    → IsSmall (object_number text objects)
object_small text [] few = tt
object_small text (names ∷ rest) few =
    or_small (place_of text names) (object_number text rest)
    (λ p h. let within = position-Some (λ (n : Name). bytes_eq text (name_text n)) names p no_name h in omega
    (arith, within.0, few.0))
    (object_small text rest few.1)

chosen_small : (is_array : Bool) (v : ℕ) → IsSmall (if is_array then Array v else Variable v)
chosen_small true v = tt
chosen_small false v = tt

local_small : (o : Option ℕ) (scope : Scope) (text : List ℕ) → AllByRecursion AreFew scope.objects
    → IsSmall (local_or o scope text)
local_small (Some v) scope text few = chosen_small (is_array_or_none (slice_get scope.locals v)) v
local_small None scope text few = object_small text scope.objects few

small_word : (locals : List Local) (m : NameMeaning) → IsSmall m → HasWord (name_code locals m)
small_word locals (Variable v) h = tt
small_word locals (Array v) h = record { sfits = omega arith }
small_word locals (Object k) h = record { sfits = omega (arith, h) }
small_word locals Unknown h = record { sfits = omega arith }

few_names : (t : SystemTables) → IsInRange t → AllByRecursion AreFew (object_names t)
few_names t h = (
  few (λ x. x.name) t.tasks h.tasks.count,
  (
    few (λ x. x.name) t.semaphores h.semaphores.count,
    (
      few (λ x. x.name) t.flags h.flags.count,
      (
        few (λ x. x.name) t.data_queues h.data_queues.count,
        (
          few (λ x. x.name) t.mailboxes h.mailboxes.count,
          (
            few (λ x. x.name) t.messages h.messages.count,
            (
              few (λ x. x.name) t.shared_words h.shared_words,
              (
                few (λ x. x.name) t.spin_locks h.spin_locks,
                (few (λ x. x.name) t.cyclics h.cyclics.count, tt),
              ),
            ),
          ),
        ),
      ),
    ),
  ),
)
  where
    few : {A : Type 0} (f : A → Name) (rows : List A) → length rows ≤ 255 → length (map f rows) ≤ 255
    few f rows h = omega (arith, h, length-map rows f)

-- ---- code

append_all : {A : Type 0} (P : A → Type 0) (xs ys : List A) → AllByRecursion P xs → AllByRecursion P ys
    → AllByRecursion P (xs ++ ys)
append_all P [] ys p q = q
append_all P (x ∷ xs) ys p q = (p.0, append_all P xs ys p.1 q)

module _ (scope : Scope) (few : AllByRecursion AreFew scope.objects) where
  abbrev Words : List Instruction → Type 0
  Words = AllByRecursion HasWord

  append : (xs ys : List Instruction) → Words xs → Words ys → Words (xs ++ ys)
  append = append_all HasWord

  expression_words : (e : ExpressionTree) (at : ℕ) → ExpressionHasWords e → Words (expression_code scope e at)
  expression_words (number k) at h = (h, tt)
  expression_words (named w) at h =
      let text = name_text w.name in
      let names = map (λ (l : Local). l.name) scope.locals in
      (small_word scope.locals (meaning_of scope w.name) (local_small (place_of text names) scope text few), tt)
  expression_words (element w e) at h = append (expression_code scope e at) _ (expression_words e at h) (tt, tt)
  expression_words (unary op e) at h = append (expression_code scope e at) _ (expression_words e at h) (tt, tt)
  expression_words (binary op a b) at h =
      let second = at + expression_size a in
      append (expression_code scope a at) _ (expression_words a at h.0)
      (append (expression_code scope b second) _ (expression_words b second h.1) (tt, tt))
  expression_words (both a b) at h =
      let second = at + expression_size a + 1 in
      let zero_fits : FitsSigned w32 (pos 0) = record { sfits = omega arith } in
      append (expression_code scope a at) _ (expression_words a at h.0)
      (tt, append (expression_code scope b second) _ (expression_words b second h.1) (tt, (tt, (zero_fits, tt))))
  expression_words (either a b) at h =
      let second = at + expression_size a + 3 in
      let one_fits : FitsSigned w32 (pos 1) = record { sfits = omega arith } in
      append (expression_code scope a at) _ (expression_words a at h.0)
      (tt, (one_fits, (tt, append (expression_code scope b second) _ (expression_words b second h.1) (tt, tt))))

  arguments_words : (es : List ExpressionTree) (at : ℕ) → AllByRecursion ExpressionHasWords es
      → Words (arguments_code scope es at)
  arguments_words [] at h = tt
  arguments_words (e ∷ es) at h =
      append (expression_code scope e at) _ (expression_words e at h.0)
      (arguments_words es (at + expression_size e) h.1)

  mutual
    statement_words : (s : StatementTree) (at again exit : ℕ) → StatementHasWords s
        → Words (statement_code scope s at again exit)
    statement_words (assign w e) at again exit h = append (expression_code scope e at) _ (expression_words e at h)
        (tt, tt)
    statement_words (assign_element w i e) at again exit h =
        let second = at + expression_size i in
        append (expression_code scope i at) _ (expression_words i at h.0)
        (append (expression_code scope e second) _ (expression_words e second h.1) (tt, tt))
    statement_words (service_call c) at again exit h = append (arguments_code scope c.arguments at) _
        (arguments_words c.arguments at h) (tt, tt)
    statement_words (if_then e s) at again exit h =
        append (expression_code scope e at) _ (expression_words e at h.0)
        (tt, block_words s (at + expression_size e + 1) again exit h.1)
    statement_words (if_else e s r) at again exit h =
        let then_ = at + expression_size e + 1 in
        let else_ = then_ + block_size s + 1 in
        append (expression_code scope e at) _ (expression_words e at h.0) (
          tt,
          append (block_code scope s then_ again exit) _ (block_words s then_ again exit h.1.0)
              (tt, block_words r else_ again exit h.1.1),
        )
    statement_words (while e s) at again exit h =
        let first = at + expression_size e + 1 in
        let after = first + block_size s + 1 in
        append (expression_code scope e at) _ (expression_words e at h.0)
        (tt, append (block_code scope s first at after) _ (block_words s first at after h.1) (tt, tt))
    statement_words break at again exit h = (tt, tt)
    statement_words continue at again exit h = (tt, tt)
    statement_words return at again exit h = (tt, tt)

    block_words : (b : Block) (at again exit : ℕ) → BlockHasWords b → Words (block_code scope b at again exit)
    block_words empty at again exit h = tt
    block_words (next s rest) at again exit h =
        append (statement_code scope s at again exit) _ (statement_words s at again exit h.0)
        (block_words rest (at + statement_size s) again exit h.1)

-- the code of bodies
pub compiled_words :
    (t : SystemTables) → IsInRange t → (bodies : List BodyTree) → AllByRecursion BodyHasWords bodies →
    AllByRecursion (λ (b : BodyTables). AllByRecursion HasWord b.instructions) (compiled t bodies)
compiled_words t few [] h = tt
compiled_words t few (b ∷ bs) h =
    let scope = scope_of t b in
    let n = block_size b.statements in (
      append_all HasWord (block_code scope b.statements 0 n n) _ (block_words scope
          (few_names t few) b.statements 0 n n h.0) (tt, tt),
      compiled_words t few bs h.1,
    )
