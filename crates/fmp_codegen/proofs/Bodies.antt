-- The code of an accepted text does what its bodies do.
use Rattle.std.proofs.Common.{◌≡◌, ℕ, zero, suc, ◌+◌, ◌*◌, ◌≤◌, Bool, true, false, ◌||◌, ◌&&◌, nat_lt, List, [], ◌∷◌}
use Rattle.std.proofs.Common.{◌++◌, length, map, Option, Some, None, refl, sym, subst, arith, ℤ}
use Rattle.std.specs.Prelude.{slice_get, nat_le, if◌then◌else◌}
use Rattle.std.proofs.Math.Nat.{le-max_left, le-max_right}
use Rattle.std.proofs.lemmas.Bool.{leb-true, ltb-false}
use Rattle.std.proofs.lemmas.Nat.{mul-le}
use Rattle.fmp_base.specs.declared.calls.Reply.{Reply}
use Rattle.fmp_base.specs.declared.names.Name.{Name}
use Rattle.fmp_base.specs.Systems.{SystemTables}
use Rattle.fmp_lex.specs.declared.fault.FaultKind.TheVariants as fault
use Rattle.fmp_tasklang.specs.declared.trees.Declaration.{Declaration}
use Rattle.fmp_tasklang.specs.declared.trees.Length.{Length}
use Rattle.fmp_tasklang.specs.Trees.{BodyTree}
use Rattle.fmp_tasklang.specs.Layout.{Local, local_of, magnitude, places_of, exinf_local, total_places}
use Rattle.fmp_tasklang.specs.Scopes.{Scope, scope_of}
use Rattle.fmp_tasklang.specs.Contexts.{TextContext, start, deliver}
use Rattle.fmp_tasklang.specs.Texts.{body_at}
use Rattle.fmp_tasklang.proofs.Overs.{hands_over_nothing}
use Rattle.fmp_tasklang.proofs.Turns.{more_turns}
use Rattle.fmp_instructions.specs.declared.instructions.Instruction.{Instruction}
use Rattle.fmp_instructions.specs.declared.instructions.Instruction.TheVariants.{End}
use Rattle.fmp_instructions.specs.declared.instructions.MachineContext.{MachineContext}
use Rattle.fmp_instructions.specs.Instructions.{BodyTables, found_instructions, instructions_at}
use Rattle.fmp_instructions.specs.Longer.{exec-longer}
use Rattle.fmp_instructions.specs.Machine.{code_start, code_stretch, code_deliver, stack_of}
use Rattle.fmp_instructions.specs.Resuming.{exec-resumes, exec-stuck}
use Rattle.fmp_codegen.specs.Compiling.{is_among, length_offence, body_offence, bodies_offence, compiled, IsAccepted}
use Rattle.fmp_codegen.specs.Compiling.{variables_offence, size_offence}
use Rattle.fmp_codegen.specs.Laws.{DoesText}
use Rattle.fmp_scopes.specs.declared.offences.Offence.{Offence}
use Rattle.fmp_scopes.specs.Naming.{first_offence, uses_offence, block_uses}
use Rattle.fmp_scopes.specs.Scheme.{block_code, body_code}
use Rattle.fmp_scopes.specs.Scopes.{is_object}
use Rattle.fmp_scopes.specs.Sizes.{block_size}
use Rattle.fmp_codegen.specs.Tie.{HasAt, StandsSomehow, Reaches, ContextTied, CodeTied, longest}
use Rattle.fmp_codegen.proofs.Behaves.{IsEnough, enough, one_is_enough, code_first, text_first}
use Rattle.fmp_codegen.proofs.Expressions.{at_place}
use Rattle.fmp_codegen.proofs.Standing.{has_front, has_back, has_all}
use Rattle.fmp_emission.proofs.Lengths.{length-block_code}
use Rattle.fmp_scopes.proofs.KnownNames.{none-first, none-second}
use Rattle.fmp_codegen.proofs.Places.{HasPlaces, locals-plain}
use Rattle.fmp_codegen.proofs.Matches.{Then, here, block_stands}
use Rattle.fmp_codegen.proofs.Tied.{first-tied}

-- ---- names

pub skips : (t : Bool) (o : Offence) (rest : Option Offence) → (if t then Some o else rest) ≡ None → rest ≡ None
skips true o rest h = absurd (cc h)
skips false o rest h = h

-- what an accepted body keeps to
pub record Accepted (tables : SystemTables) (body : BodyTree) : Type 0 where
  pub variables : variables_offence tables (exinf_local ∷ []) body.variables ≡ None
  pub names : uses_offence (scope_of tables body) (block_uses body.statements) ≡ None
  pub size : size_offence body ≡ None

pub body-accepted :
    (tables : SystemTables) (names : List Name) (body : BodyTree) → body_offence tables names body ≡ None →
    Accepted tables body
body-accepted tables names body h =
    let uses = uses_offence (scope_of tables body) (block_uses body.statements) in
    let variables = variables_offence tables (exinf_local ∷ []) body.variables in
    let after = first_offence uses (size_offence body) in
    let twice : Offence = record { at = body.name.at; why = fault.TwiceNamed } in
    let named = if is_among body.name.name names then Some twice else first_offence variables after in
    let many : Offence = record { at = body.at; why = fault.Limit } in
    let all = skips (is_among body.name.name names) twice (first_offence variables after)
    (skips (nat_le 255 (length names)) many named h) in
    let rest = none-second variables after all in
    record {
      variables = none-first variables after all;
      names = none-first uses (size_offence body) rest;
      size = none-second uses (size_offence body) rest;
    }

-- a declared variable without a fault
record Judged (tables : SystemTables) (ls : List Local) (d : Declaration) (ds : List Declaration) : Type 0 where
  few : total_places ls + places_of d.length ≤ 64
  length : length_offence d.length ≡ None
  rest : variables_offence tables (ls ++ local_of d ∷ []) ds ≡ None

pub not-taken : (t : Bool) (o : Offence) (rest : Option Offence) → (if t then Some o else rest) ≡ None → t ≡ false
not-taken true o rest h = absurd (cc h)
not-taken false o rest h = refl

taken_right : (t : Bool) (o : Offence) → (if t then None else Some o) ≡ None → t ≡ true
taken_right true o h = refl
taken_right false o h = absurd (cc h)

and_front : (a b : Bool) → (a && b) ≡ true → a ≡ true
and_front true b h = refl
and_front false b h = absurd (cc h)

variable-judged :
    (tables : SystemTables) (ls : List Local) (d : Declaration) (ds : List Declaration) →
    variables_offence tables ls (d ∷ ds) ≡ None → Judged tables ls d ds
variable-judged tables ls d ds h =
    let limit : Offence = record { at = d.name.at; why = fault.Limit } in
    let twice : Offence = record { at = d.name.at; why = fault.TwiceNamed } in
    let more = variables_offence tables (ls ++ local_of d ∷ []) ds in
    let test = is_among d.name.name (map (λ (l : Local). l.name) ls) || is_object tables d.name.name in
    let last = first_offence (length_offence d.length) more in
    let many = nat_lt 64 (total_places ls + places_of d.length) in
    let others = if test then Some twice else last in
    let then_ = skips test twice last (skips many limit others h) in
    record {
      few = ltb-false 64 (total_places ls + places_of d.length) (not-taken many limit others h);
      length = none-first (length_offence d.length) more then_;
      rest = none-second (length_offence d.length) more then_;
    }

pub names-known :
    (tables : SystemTables) (names : List Name) (bodies : List BodyTree) (k : ℕ) →
    bodies_offence tables names bodies ≡ None →
    uses_offence (scope_of tables (body_at bodies k)) (block_uses (body_at bodies k).statements) ≡ None
names-known tables names [] k h = refl
names-known tables names (b ∷ bs) zero h = (body-accepted tables names b
    (none-first (body_offence tables names b) (bodies_offence tables (names ++ b.name.name ∷ []) bs) h)).names
names-known tables names (b ∷ bs) (suc k) h = names-known tables (names ++ b.name.name ∷ []) bs k
    (none-second (body_offence tables names b) (bodies_offence tables (names ++ b.name.name ∷ []) bs) h)

-- ---- places

pub total-append : (ls : List Local) (l : Local) → total_places (ls ++ l ∷ []) ≡ total_places ls + l.places
total-append [] l = omega arith
total-append (k ∷ ls) l = omega (arith, total-append ls l)

few_places :
    (tables : SystemTables) (ls : List Local) (ds : List Declaration) → variables_offence tables ls ds ≡ None →
    total_places ls ≤ 64 → total_places ls + total_places (map local_of ds) ≤ 64
few_places tables ls [] h le = omega (arith, le)
few_places tables ls (d ∷ ds) h le =
    let j = variable-judged tables ls d ds h in
    let more = few_places tables (ls ++ local_of d ∷ []) ds j.rest (omega
    (arith, total-append ls (local_of d), j.few)) in
    omega (arith, more, total-append ls (local_of d))

-- the places of declared variables
pub few-places :
    (tables : SystemTables) (body : BodyTree) → variables_offence tables (exinf_local ∷ []) body.variables ≡ None →
    total_places (map local_of body.variables) ≤ 63
few-places tables body h = omega (arith, few_places tables (exinf_local ∷ []) body.variables h (omega arith))

pub length_some : (o : Option Length) → length_offence o ≡ None → 1 ≤ places_of o
length_some None h = omega arith
length_some (Some l) h =
    let n = magnitude l.places in
    let right = taken_right (nat_le 1 n && nat_le n 63) (record { at = l.at; why = fault.Limit }) h in
    leb-true 1 n (and_front (nat_le 1 n) (nat_le n 63) right)

pub has-places :
    (tables : SystemTables) (ls : List Local) (ds : List Declaration) → variables_offence tables ls ds ≡ None
    → HasPlaces ds
has-places tables ls [] h k lt = absurd (omega (arith, lt))
has-places tables ls (d ∷ ds) h zero lt = length_some d.length (variable-judged tables ls d ds h).length
has-places tables ls (d ∷ ds) h (suc k) lt =
    has-places tables (ls ++ local_of d ∷ []) ds (variable-judged tables ls d ds h).rest k (omega (arith, lt))

pub places-few :
    (tables : SystemTables) (names : List Name) (bodies : List BodyTree) (k : ℕ) →
    bodies_offence tables names bodies ≡ None → total_places (map local_of (body_at bodies k).variables) ≤ 63
places-few tables names [] k h = omega arith
places-few tables names (b ∷ bs) zero h =
    few-places tables b
    (body-accepted tables names b (none-first (body_offence tables names b)
    (bodies_offence tables (names ++ b.name.name ∷ []) bs) h)).variables
places-few tables names (b ∷ bs) (suc k) h = places-few tables (names ++ b.name.name ∷ []) bs k
    (none-second (body_offence tables names b) (bodies_offence tables (names ++ b.name.name ∷ []) bs) h)

-- ---- the code of each body

pub instructions-compiled :
    (tables : SystemTables) (bodies : List BodyTree) (k : ℕ) →
    instructions_at (compiled tables bodies) k ≡ body_code tables (body_at bodies k)
instructions-compiled tables [] k = refl
instructions-compiled tables (b ∷ bs) zero = refl
instructions-compiled tables (b ∷ bs) (suc k) = instructions-compiled tables bs k

-- the whole body is still to do
body_stands :
    (tables : SystemTables) (body : BodyTree) (exinf : ℤ) →
    uses_offence (scope_of tables body) (block_uses body.statements) ≡ None →
    Reaches (body_code tables body) 0 (StandsSomehow (scope_of tables body) (body_code tables body)
    (start body exinf).todo)
body_stands tables body exinf named =
    let scope = scope_of tables body in
    let code = body_code tables body in
    let n = block_size body.statements in
    let statements = block_code scope body.statements 0 n n in
    let has : HasAt code 0 code = has_all code [] in
    let front = has_front code 0 statements (End ∷ []) has in
    let back = has_back code 0 n statements (End ∷ []) (length-block_code scope body.statements 0 n n) has in
    let same : 0 + n ≡ n = omega arith in
    let end = at_place code (0 + n) n End same back.0 in
    let last = here scope code (0 + n) (Then scope code [] n n) (back.0, end, end, omega arith, omega arith) in
    let r = block_stands scope code body.statements [] 0 n n named front last in
    record { jumps = r.jumps; place = r.place; path = r.path; holds = (n, n, r.holds) }

started_tied :
    (tables : SystemTables) (body : BodyTree) (exinf : ℤ) →
    uses_offence (scope_of tables body) (block_uses body.statements) ≡ None →
    total_places (map local_of body.variables) ≤ 63 →
    ContextTied (scope_of tables body) (body_code tables body) (code_start exinf) (start body exinf)
started_tied tables body exinf named few =
    record {
      operands = refl;
      locals = first-tied tables body exinf 63 few;
      todo = body_stands tables body exinf named;
      reply = λ l vs r h. h;
    }

delivered_tied :
    (scope : Scope) (code : List Instruction) (d : MachineContext) (c : TextContext) (reply : Reply) →
    ContextTied scope code d c → ContextTied scope code (code_deliver code d reply) (deliver c reply)
delivered_tied scope code d c reply h =
    record {
      operands = h.operands;
      locals = h.reply d.locals c.locals reply h.locals;
      todo = h.todo;
      reply = h.reply;
    }

length-le-longest :
    (code : List BodyTables) (k : ℕ) (b : BodyTables) → slice_get code k ≡ Some b → length b.instructions ≤ longest code
length-le-longest [] k b h = absurd (cc h)
length-le-longest (c ∷ cs) zero b h =
    let same : Some c ≡ Some b = h in
    let e : c ≡ b = cc same in
    subst (λ (x : BodyTables). length x.instructions ≤ longest (c ∷ cs)) e
    (le-max_left (length c.instructions) (longest cs))
length-le-longest (c ∷ cs) (suc k) b h =
    omega (arith, length-le-longest cs k b h, le-max_right (length c.instructions) (longest cs))

enough_for :
    (code : List BodyTables) (t n : ℕ) → 1 ≤ n → (t + 1) * longest code ≤ n → (o : Option BodyTables) →
    ((b : BodyTables) → o ≡ Some b → length b.instructions ≤ longest code) → (p : ℕ) (l : List ℤ) →
    IsEnough (found_instructions o) t n p l
enough_for code t n one le None few p l = one_is_enough t n p l one
enough_for code t n one le (Some b) few p l =
    let fits : (t + 1) * length b.instructions ≤ (t + 1) * longest code =
    mul-le (t + 1) (length b.instructions) (t + 1) (longest code) (omega arith) (few b refl) in
    enough b.instructions t n p l (omega (arith, fits, le))

module _ (tables : SystemTables) (bodies : List BodyTree) (accepted : IsAccepted tables bodies) where
  abbrev code : List BodyTables
  code = compiled tables bodies

  starts_tied :
      (body : ℕ) (exinf : ℤ) →
      CodeTied tables bodies code body (code_start exinf) (start (body_at bodies body) exinf)
  starts_tied body exinf =
      let b = body_at bodies body in
      subst (λ (is : List Instruction). ContextTied (scope_of tables b) is (code_start exinf) (start b exinf))
      (sym (instructions-compiled tables bodies body))
      (started_tied tables b exinf (names-known tables [] bodies body accepted)
      (places-few tables [] bodies body accepted))

  delivers_tied :
      (body : ℕ) (d : MachineContext) (c : TextContext) (reply : Reply) → CodeTied tables bodies code body d c →
      CodeTied tables bodies code body (code_deliver (instructions_at code body) d reply) (deliver c reply)
  delivers_tied body d c reply h =
      delivered_tied (scope_of tables (body_at bodies body)) (instructions_at code body) d c reply h

  pub does_text : DoesText tables bodies (compiled tables bodies)
  does_text =
      record {
        starts = starts_tied;
        delivers = delivers_tied;
        first = λ body n d c h.
            code_first (scope_of tables (body_at bodies body)) (instructions_at code body)
            (locals-plain tables (body_at bodies body)) n d c h;
        back = λ body t n d c one le h.
            text_first (scope_of tables (body_at bodies body)) (instructions_at code body)
            (locals-plain tables (body_at bodies body)) t n d c h
            (enough_for code t n one le (slice_get code body) (length-le-longest code body) d.pc d.locals);
        resumes = λ body m n d cut e. exec-resumes (instructions_at code body) m n d.pc (stack_of d) d.locals cut e;
        stays = λ body low high d le ended.
            exec-longer (instructions_at code body) low high le d.pc (stack_of d) d.locals
            (code_stretch (instructions_at code body) low d) ended refl;
        stuck_stays = λ body m n d e. exec-stuck (instructions_at code body) m n d.pc (stack_of d) d.locals e;
        text_stays = λ body low high c le ended. more_turns (scope_of tables (body_at bodies body)) c low high le ended;
        text_over = λ body t c e. hands_over_nothing (scope_of tables (body_at bodies body)) t c e;
      }
