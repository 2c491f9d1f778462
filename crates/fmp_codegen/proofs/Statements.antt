-- The machine follows the text, one thing to do after another.
use Rattle.std.proofs.Common.{◌≡◌, ℕ, zero, suc, ◌+◌, ◌<◌, ◌≤◌, Bool, true, false, cond, List, [], ◌∷◌, ◌++◌, length}
use Rattle.std.proofs.Common.{Some, Result, Ok, Err, refl, sym, ap, ◌∙◌, subst, arith, ℤ}
use Rattle.std.specs.Prelude.{slice_get, slice_set, if◌then◌else◌}
use Rattle.std.proofs.lemmas.Option.{slice_get_within}
use Rattle.fmp_base.specs.declared.bodies.Fault.{Fault}
use Rattle.fmp_base.specs.Operators.{is_zero, place_in}
use Rattle.fmp_base.specs.Services.{request}
use Rattle.fmp_base.specs.Systems.{found}
use Rattle.fmp_base.specs.Stretches as ends
use Rattle.fmp_base.specs.Ties.{call, end_}
use Rattle.fmp_tasklang.specs.Trees.{ExpressionTree, StatementTree, assign, assign_element, service_call, if_then}
use Rattle.fmp_tasklang.specs.Trees.{if_else, while, break, continue, return, Block, empty, next}
use Rattle.fmp_tasklang.specs.Scopes.{Scope, NameMeaning, meaning_of}
use Rattle.fmp_tasklang.specs.Values.{Values, set_at, array_number, array_places, value, values}
use Rattle.fmp_tasklang.specs.Contexts.{Item, Do, Mark, going, calling, written, received, items_before}
use Rattle.fmp_tasklang.specs.Stretches.{Way, Next, Goes, Stops, variable_number, word_number, receivers_of, with_value}
use Rattle.fmp_tasklang.specs.Stretches.{after_mark, from_mark, after_statement, after_item, statement_weight}
use Rattle.fmp_tasklang.specs.Stretches.{block_weight, weight, follow, out_of_turns, walk, turns}
use Rattle.fmp_instructions.specs.declared.instructions.Instruction.{Instruction}
use Rattle.fmp_instructions.specs.declared.instructions.Instruction.TheVariants.{Store, Jump, JumpIfZero, End}
use Rattle.fmp_instructions.specs.Machine.{at, on_place, unstacked, exec, call_before, replied}
use Rattle.fmp_scopes.specs.Naming.{uses_offence, expression_uses, block_uses, use_offence, Writes}
use Rattle.fmp_scopes.specs.Scheme.{array_base, store_element, expression_code, arguments_code, target_place}
use Rattle.fmp_scopes.specs.Scheme.{call_instruction, block_code}
use Rattle.fmp_scopes.specs.Sizes.{expression_size, arguments_size, statement_size, block_size}
use Rattle.fmp_codegen.specs.Tie.{Stands, StandsSomehow, LocalsTied}
use Rattle.fmp_codegen.proofs.Expressions.{Leads, Runs, stacked, one_step, leads_on, faults_on, runs_on, goes, jumps_to}
use Rattle.fmp_codegen.proofs.Expressions.{expression_runs, arguments_run}
use Rattle.fmp_codegen.proofs.Standing.{has_front, has_back}
use Rattle.fmp_emission.proofs.Lengths.{length-expression_code, length-arguments_code, length-block_code}
use Rattle.fmp_codegen.proofs.Places.{IsPlain}
use Rattle.fmp_codegen.proofs.Tied.{tied-set, tied-store, place-within, array-within, reply-tied}
use Rattle.fmp_scopes.proofs.KnownNames.{none-first, uses_front, uses_back, target_is, target_means}
use Rattle.fmp_codegen.proofs.Matches.{Match, Stood, Then, below_exit, block_stands, fault_match, here, jump_first}
use Rattle.fmp_codegen.proofs.Matches.{match_on, match_turn, moved, path_leads, path_rises, room-least, stood, to_exit}
use Rattle.fmp_codegen.proofs.Matches.{to_mark}

-- ---- the weight falls

weight-items_before : (b : Block) (rest : List Item) → weight (items_before b rest) ≡ block_weight b + weight rest
weight-items_before empty rest = omega arith
weight-items_before (next s b) rest = omega (arith, weight-items_before b rest)

one-le-statement_weight : (s : StatementTree) → 1 ≤ statement_weight s
one-le-statement_weight (assign w e) = omega arith
one-le-statement_weight (assign_element w i e) = omega arith
one-le-statement_weight (service_call c) = omega arith
one-le-statement_weight (if_then e b) = omega arith
one-le-statement_weight (if_else e b d) = omega arith
one-le-statement_weight (while e b) = omega arith
one-le-statement_weight break = omega arith
one-le-statement_weight continue = omega arith
one-le-statement_weight return = omega arith

one-le-weight : (todo : List Item) → 1 ≤ weight todo
one-le-weight [] = omega arith
one-le-weight (Do s ∷ rest) = omega (arith, one-le-statement_weight s)
one-le-weight (Mark e b ∷ rest) = omega arith

weight-after_mark : (todo : List Item) → weight (after_mark todo) ≤ weight todo
weight-after_mark [] = omega arith
weight-after_mark (Do s ∷ rest) = omega (arith, weight-after_mark rest)
weight-after_mark (Mark e b ∷ rest) = omega arith

weight-from_mark : (todo : List Item) → weight (from_mark todo) ≤ weight todo
weight-from_mark [] = omega arith
weight-from_mark (Do s ∷ rest) = omega (arith, weight-from_mark rest)
weight-from_mark (Mark e b ∷ rest) = omega arith

-- ---- operands

unstacked-stacked : (xs s acc : List ℤ) → unstacked (stacked xs s) acc ≡ unstacked s (xs ++ acc)
unstacked-stacked [] s acc = refl
unstacked-stacked (x ∷ xs) s acc = unstacked-stacked xs (x ∷ s) acc

append-nil : (xs : List ℤ) → xs ++ [] ≡ xs
append-nil [] = refl
append-nil (x ∷ xs) = ap (λ ys. x ∷ ys) (append-nil xs)

-- ---- one thing to do

module _ (scope : Scope) (code : List Instruction) (plain : IsPlain scope) where
  module _ (t fuel : ℕ) (again : Way)
      (turned : (e : ExpressionTree) (b : Block) (rest : List Item) (p back exit : ℕ) (l : List ℤ) (vs : Values) →
      LocalsTied scope l vs → Stands scope code (Mark e b ∷ rest) p back exit →
      Match scope code t p l (again vs (Do (while e b) ∷ rest)))
      (rec : (l : List ℤ) (vs : Values) (todo : List Item) (p : ℕ) → LocalsTied scope l vs → weight todo ≤ fuel →
      Stood scope code p todo → Match scope code t p l (walk scope again fuel vs todo)) where
    abbrev Follows : ℕ → List ℤ → Next → Type 0
    Follows p l n = Match scope code t p l (follow again (walk scope again fuel) n)

    with_value_follows :
        {A : Type 0} → (p q : ℕ) (l : List ℤ) (vs : Values) (rest : List Item) (g : A → List ℤ) (v : Result A Fault)
        (go : A → Next) → LocalsTied scope l vs → q ≤ length code → Runs code p [] l q g v →
        ((x : A) → Leads code p [] l q (g x) l → Follows p l (go x)) → Follows p l (with_value v vs rest go)
    with_value_follows p q l vs rest g (Ok x) go tied le a f = f x a
    with_value_follows p q l vs rest g (Err e) go tied le a f = fault_match scope code t p q l vs rest e tied le a

    -- the last step of an assignment to an element: the index is tested, and the value is stored
    store_follows :
        (m : NameMeaning) (p pe q : ℕ) (l : List ℤ) (vs : Values) (rest : List Item) (i x : ℤ) (v : Result ℕ Fault) →
        LocalsTied scope l vs → place_in (array_places scope m) i ≡ v → q ≤ length code → pe + 1 ≡ q →
        Leads code p [] l pe (x ∷ i ∷ []) l →
        ((k : ℕ) → exec code (1 + k) pe (x ∷ i ∷ []) l ≡
        on_place v pe l (λ place. exec code k (pe + 1) [] (slice_set l (array_base scope m + place) x))) →
        weight rest ≤ fuel → Stood scope code q rest →
        Follows p l (with_value v vs rest (λ place. Goes (set_at vs (array_number m) place x) rest))
    store_follows m p pe q l vs rest i x (Ok place) tied is le e lead st w stands =
        let within = array-within scope m place (place-within (array_places scope m) i place is) in
        let l2 = slice_set l (array_base scope m + place) x in
        let vs2 = set_at vs (array_number m) place x in
        match_on scope code t p q l l2 (walk scope again fuel vs2 rest)
        (leads_on code p [] l pe (x ∷ i ∷ []) l q [] l2 lead
        (goes code pe q (x ∷ i ∷ []) [] l l2 (omega arith) (λ k. st k ∙ ap (λ n. exec code k n [] l2) e)))
        (rec l2 vs2 rest q (tied-set scope l vs tied (array_number m) place x within) w stands)
    store_follows m p pe q l vs rest i x (Err f) tied is le e lead st w stands =
        fault_match scope code t p q l vs rest f tied le
        (faults_on code p [] l pe (x ∷ i ∷ []) q f lead
        (record { steps = 1; rises = omega arith; place = pe; by = st 0 }))

    -- the test of a choice, and what it leads to
    test_follows :
        (p pa q : ℕ) (l : List ℤ) (vs : Values) (x : ℤ) (a b : List Item) (c : Bool) → LocalsTied scope l vs →
        Leads code p [] l pa (x ∷ []) l →
        ((k : ℕ) → exec code (1 + k) pa (x ∷ []) l ≡ cond c (exec code k q [] l) (exec code k (pa + 1) [] l)) → pa < q →
        weight a ≤ fuel → weight b ≤ fuel → Stood scope code q a → Stood scope code (pa + 1) b →
        Follows p l (Goes vs (cond c a b))
    test_follows p pa q l vs x a b true tied h st lt wa wb sa sb =
        match_on scope code t p q l l (walk scope again fuel vs a)
        (leads_on code p [] l pa (x ∷ []) l q [] l h (goes code pa q (x ∷ []) [] l l lt st)) (rec l vs a q tied wa sa)
    test_follows p pa q l vs x a b false tied h st lt wa wb sa sb =
        match_on scope code t p (pa + 1) l l (walk scope again fuel vs b)
        (leads_on code p [] l pa (x ∷ []) l (pa + 1) [] l h (goes code pa (pa + 1) (x ∷ []) [] l l (omega arith) st))
        (rec l vs b (pa + 1) tied wb sb)

    statement_follows :
        (s : StatementTree) (rest : List Item) (p back exit : ℕ) (l : List ℤ) (vs : Values) → LocalsTied scope l vs →
        weight (Do s ∷ rest) ≤ suc fuel → Stands scope code (Do s ∷ rest) p back exit →
        Follows p l (after_statement scope s vs rest)
    statement_follows (assign w e) rest p back exit l vs tied le h =
        let n = found 0 (variable_number (meaning_of scope w.name)) in
        let v = target_place scope w in
        let pe = p + expression_size e in
        let front = expression_code scope e p in
        let st = (has_back code p (expression_size e) front (Store v ∷ []) (length-expression_code scope e p) h.1).0 in
        let in_code = slice_get_within code pe (Store v) st in
        let writes = none-first (use_offence scope (Writes w)) (uses_offence scope (expression_uses e)) h.0 in
        let place = target_is scope w writes in
        let one = plain w.name n (target_means scope w writes) in
        with_value_follows p pe l vs rest (λ x. x ∷ []) (value scope vs e)
        (λ x. Goes (written vs (word_number scope (Some w)) x) rest) tied (omega arith)
        (expression_runs scope code plain l vs tied e p [] (has_front code p front (Store v ∷ []) h.1))
        (λ x a. subst (λ o. Match scope code t p l (walk scope again fuel (written vs o x) rest)) (sym place)
        (match_on scope code t p (pe + 1) l (slice_set l v x) (walk scope again fuel (set_at vs n 0 x) rest)
        (leads_on code p [] l pe (x ∷ []) l (pe + 1) [] (slice_set l v x) a
        (goes code pe (pe + 1) (x ∷ []) [] l (slice_set l v x) (omega arith)
        (one_step code pe (x ∷ []) l (Store v) st)))
        (rec (slice_set l v x) (set_at vs n 0 x) rest (pe + 1) (tied-store scope l vs tied n x one) (omega arith)
        (stood scope code rest (pe + 1) back exit
        (moved scope code (p + (expression_size e + 1)) (pe + 1) (Then scope code rest back exit) (omega arith) h.2)))))
    statement_follows (assign_element w index e) rest p back exit l vs tied le h =
        let m = meaning_of scope w.name in
        let pi = p + expression_size index in
        let pe = pi + expression_size e in
        let first = expression_code scope index p in
        let second = expression_code scope e pi in
        let i = store_element scope m in
        let hb = has_back code p (expression_size index) first (second ++ i ∷ [])
        (length-expression_code scope index p) h.1 in
        let st = (has_back code pi (expression_size e) second (i ∷ []) (length-expression_code scope e pi) hb).0 in
        let in_code = slice_get_within code pe i st in
        let stands = stood scope code rest (pe + 1) back exit
        (moved scope code (p + (expression_size index + expression_size e + 1)) (pe + 1)
        (Then scope code rest back exit) (omega arith) h.2) in
        with_value_follows p pi l vs rest (λ x. x ∷ []) (value scope vs index)
        (λ k. with_value (value scope vs e) vs rest
        (λ x. with_value (place_in (array_places scope m) k) vs rest (λ place. Goes
        (set_at vs (array_number m) place x) rest)))
        tied (omega arith)
        (expression_runs scope code plain l vs tied index p [] (has_front code p first (second ++ i ∷ []) h.1))
        (λ k a. with_value_follows p pe l vs rest (λ x. x ∷ k ∷ []) (value scope vs e)
        (λ x. with_value (place_in (array_places scope m) k) vs rest (λ place. Goes
        (set_at vs (array_number m) place x) rest))
        tied (omega arith)
        (runs_on code p [] l pi (k ∷ []) pe (λ x. x ∷ k ∷ []) (value scope vs e) a
        (expression_runs scope code plain l vs tied e pi (k ∷ []) (has_front code pi second (i ∷ []) hb)))
        (λ x b. store_follows m p pe (pe + 1) l vs rest k x (place_in (array_places scope m) k) tied refl
        (omega arith) refl b
        (one_step code pe (x ∷ k ∷ []) l i st) (omega arith) stands))
    statement_follows (service_call c) rest p back exit l vs tied le h =
        let pe = p + arguments_size c.arguments in
        let i = call_instruction scope c in
        let front = arguments_code scope c.arguments p in
        let st = (has_back code p (arguments_size c.arguments) front (i ∷ [])
        (length-arguments_code scope c.arguments p) h.1).0 in
        let in_code = slice_get_within code pe i st in
        let before : Some i ≡ slice_get code pe = sym st in
        let after : suc pe ≡ pe + 1 = omega arith in
        with_value_follows p pe l vs rest (λ xs. stacked xs []) (values scope vs c.arguments)
        (λ xs. Stops (ends.Call (calling vs rest (receivers_of scope c)) (request c.service xs))) tied (omega arith)
        (arguments_run scope code plain l vs tied c.arguments p [] (has_front code p front (i ∷ []) h.1))
        (λ xs a. record {
          steps = a.steps + 1;
          within = omega (arith, a.rises, room-least code t);
          outcome = ends.Call (at (pe + 1) l) (request c.service xs);
          by = a.by 1 ∙ one_step code pe (stacked xs []) l i st 0
              ∙ ap (λ ys. ends.Call (at (pe + 1) l) (request c.service ys))
              (unstacked-stacked xs [] [] ∙ append-nil xs);
          ended = refl;
          same = call (calling vs rest (receivers_of scope c)) (at (pe + 1) l) (request c.service xs)
              (record {
                operands = refl;
                locals = tied;
                todo = stood scope code rest (pe + 1) back exit
                    (moved scope code (p + (arguments_size c.arguments + 1)) (pe + 1) (Then scope code rest back exit)
                    (omega arith) h.2);
                reply = λ ls ws reply kept.
                    subst (λ n. LocalsTied scope (replied (call_before code n) ls reply)
                    (received ws (receivers_of scope c) reply)) after
                    (subst (λ o. LocalsTied scope (replied o ls reply) (received ws (receivers_of scope c) reply))
                    before
                    (reply-tied scope plain ls ws c.service c.out c.result reply kept));
              });
        })
    statement_follows (if_then e s) rest p back exit l vs tied le h =
        let pe = p + expression_size e in
        let q = pe + 1 + block_size s in
        let front = expression_code scope e p in
        let tail = block_code scope s (pe + 1) back exit in
        let hb = has_back code p (expression_size e) front (JumpIfZero q ∷ tail)
        (length-expression_code scope e p) h.1 in
        let in_code = slice_get_within code pe (JumpIfZero q) hb.0 in
        let named = uses_back scope (expression_uses e) (block_uses s) h.0 in
        let r = moved scope code (p + (expression_size e + 1 + block_size s)) q (Then scope code rest back exit)
        (omega arith) h.2 in
        with_value_follows p pe l vs rest (λ x. x ∷ []) (value scope vs e)
        (λ x. Goes vs (if is_zero x then rest else items_before s rest)) tied (omega arith)
        (expression_runs scope code plain l vs tied e p [] (has_front code p front (JumpIfZero q ∷ tail) h.1))
        (λ x a. test_follows p pe q l vs x rest (items_before s rest) (is_zero x) tied a
        (one_step code pe (x ∷ []) l (JumpIfZero q) hb.0) (omega arith) (omega arith)
        (omega (arith, weight-items_before s rest))
        (stood scope code rest q back exit r)
        (stood scope code (items_before s rest) (pe + 1) back exit (block_stands scope code s rest
        (pe + 1) back exit named hb.1 r)))
    statement_follows (if_else e s r) rest p back exit l vs tied le h =
        let pe = p + expression_size e in
        let q = pe + 1 + block_size s + 1 in
        let y = q + block_size r in
        let front = expression_code scope e p in
        let first = block_code scope s (pe + 1) back exit in
        let other = Jump y ∷ block_code scope r q back exit in
        let hb = has_back code p (expression_size e) front (JumpIfZero q ∷ (first ++ other))
        (length-expression_code scope e p) h.1 in
        let hs = has_front code (pe + 1) first other hb.1 in
        let hj = has_back code (pe + 1) (block_size s) first other (length-block_code scope s (pe + 1) back exit) hb.1
        in
        let in_code = slice_get_within code pe (JumpIfZero q) hb.0 in
        let named = uses_back scope (expression_uses e) (block_uses s ++ block_uses r) h.0 in
        let named_s = uses_front scope (block_uses s) (block_uses r) named in
        let named_r = uses_back scope (block_uses s) (block_uses r) named in
        let ry = moved scope code (p + (expression_size e + 1 + block_size s + 1 + block_size r)) y
        (Then scope code rest back exit) (omega arith) h.2 in
        with_value_follows p pe l vs rest (λ x. x ∷ []) (value scope vs e)
        (λ x. Goes vs (if is_zero x then items_before r rest else items_before s rest)) tied (omega arith)
        (expression_runs scope code plain l vs tied e p [] (has_front code p front
        (JumpIfZero q ∷ (first ++ other)) h.1))
        (λ x a. test_follows p pe q l vs x (items_before r rest) (items_before s rest) (is_zero x) tied a
        (one_step code pe (x ∷ []) l (JumpIfZero q) hb.0) (omega arith)
        (omega (arith, weight-items_before r rest)) (omega (arith, weight-items_before s rest))
        (stood scope code (items_before r rest) q back exit (block_stands scope code r rest q back exit named_r hj.1
        ry))
        (stood scope code (items_before s rest) (pe + 1) back exit (block_stands scope code s rest
        (pe + 1) back exit named_s hs
        (jump_first scope code (pe + 1 + block_size s) y y (Then scope code rest back exit) hj.0
        (omega arith) refl ry))))
    statement_follows (while e s) rest p back exit l vs tied le h =
        let pe = p + expression_size e in
        let q = pe + 1 + block_size s + 1 in
        let front = expression_code scope e p in
        let first = block_code scope s (pe + 1) p q in
        let tail = first ++ Jump p ∷ [] in
        let hb = has_back code p (expression_size e) front (JumpIfZero q ∷ tail)
        (length-expression_code scope e p) h.1 in
        let hs = has_front code (pe + 1) first (Jump p ∷ []) hb.1 in
        let hj = has_back code (pe + 1) (block_size s) first (Jump p ∷ [])
        (length-block_code scope s (pe + 1) p q) hb.1 in
        let in_code = slice_get_within code pe (JumpIfZero q) hb.0 in
        let named = uses_back scope (expression_uses e) (block_uses s) h.0 in
        let after : q ≡ p + (expression_size e + 1 + block_size s + 1) = omega arith in
        let r = moved scope code (p + (expression_size e + 1 + block_size s + 1)) q (Then scope code rest back exit)
        (omega arith) h.2 in
        with_value_follows p pe l vs rest (λ x. x ∷ []) (value scope vs e)
        (λ x. Goes vs (if is_zero x then rest else items_before s (Mark e s ∷ rest))) tied (omega arith)
        (expression_runs scope code plain l vs tied e p [] (has_front code p front (JumpIfZero q ∷ tail) h.1))
        (λ x a. test_follows p pe q l vs x rest (items_before s (Mark e s ∷ rest)) (is_zero x) tied a
        (one_step code pe (x ∷ []) l (JumpIfZero q) hb.0) (omega arith) (omega arith)
        (omega (arith, weight-items_before s (Mark e s ∷ rest)))
        (stood scope code rest q back exit r)
        (stood scope code (items_before s (Mark e s ∷ rest)) (pe + 1) p q
        (block_stands scope code s (Mark e s ∷ rest) (pe + 1) p q named hs
        (here scope code (pe + 1 + block_size s) (Then scope code (Mark e s ∷ rest) p q)
        (hj.0, omega arith, after, h.0, back, exit, h.1, r)))))
    statement_follows break rest p back exit l vs tied le h =
        let b = path_rises scope code h.2.jumps (p + 1) h.2.place h.2.path in
        let c = below_exit scope code rest h.2.place back exit h.2.holds in
        match_on scope code t p exit l l (walk scope again fuel vs (after_mark rest))
        (jumps_to code p exit exit [] l (omega arith) h.1.0 refl)
        (rec l vs (after_mark rest) exit tied (omega (arith, weight-after_mark rest))
        (to_exit scope code rest h.2.place back exit h.2.holds))
    statement_follows continue rest p back exit l vs tied le h =
        let b = path_rises scope code h.2.jumps (p + 1) h.2.place h.2.path in
        rec l vs (from_mark rest) p tied (omega (arith, weight-from_mark rest))
        (to_mark scope code rest p h.2.place back exit h.1.0 (omega arith) h.2.holds)
    statement_follows return rest p back exit l vs tied le h =
        rec l vs [] p tied (omega (arith, one-le-weight rest))
        (here scope code p (StandsSomehow scope code []) (p, p, (h.1.0, h.1.0, h.1.0, omega arith, omega arith)))

    item_follows :
        (todo : List Item) (p back exit : ℕ) (l : List ℤ) (vs : Values) → LocalsTied scope l vs
        → weight todo ≤ suc fuel →
        Stands scope code todo p back exit → Follows p l (after_item scope vs todo)
    item_follows [] p back exit l vs tied le h =
        let in_code = slice_get_within code p End h.0 in
        record {
          steps = 1;
          within = omega (arith, room-least code t);
          outcome = ends.End (at p l);
          by = one_step code p [] l End h.0 0;
          ended = refl;
          same = end_ (going vs []) (at p l) tied;
        }
    item_follows (Do s ∷ rest) p back exit l vs tied le h = statement_follows s rest p back exit l vs tied le h
    item_follows (Mark e b ∷ rest) p back exit l vs tied le h = turned e b rest p back exit l vs tied h

  -- ---- one thing after another, and one turn after another

  walk_follows :
      (t : ℕ) (again : Way) →
      ((e : ExpressionTree) (b : Block) (rest : List Item) (p back exit : ℕ) (l : List ℤ) (vs : Values) →
      LocalsTied scope l vs → Stands scope code (Mark e b ∷ rest) p back exit →
      Match scope code t p l (again vs (Do (while e b) ∷ rest))) →
      (fuel : ℕ) (l : List ℤ) (vs : Values) (todo : List Item) (p : ℕ) → LocalsTied scope l vs → weight todo ≤ fuel →
      Stood scope code p todo → Match scope code t p l (walk scope again fuel vs todo)
  walk_follows t again turned zero l vs todo p tied le h = absurd (omega (arith, one-le-weight todo))
  walk_follows t again turned (suc fuel) l vs todo p tied le h =
      match_on scope code t p h.place l l (walk scope again (suc fuel) vs todo)
      (path_leads scope code h.jumps p h.place h.path l)
      (item_follows t fuel again turned (walk_follows t again turned fuel) todo h.place h.holds.0 h.holds.1 l vs tied le
      h.holds.2)

  pub turns_follow :
      (t : ℕ) (l : List ℤ) (vs : Values) (todo : List Item) (p : ℕ) → LocalsTied scope l vs → Stood scope code p todo →
      Match scope code t p l (turns scope t vs todo)
  turns_follow zero l vs todo p tied h =
      walk_follows 0 out_of_turns (λ e b rest p back exit l vs tied st. (0, omega arith, refl))
      (weight todo) l vs todo p
      tied (omega arith) h
  turns_follow (suc t) l vs todo p tied h =
      walk_follows (suc t) (turns scope t)
      (λ e b rest p back exit l vs tied st.
      match_turn scope code t p back l (turns scope t vs (Do (while e b) ∷ rest)) st.0
      (turns_follow t l vs (Do (while e b) ∷ rest) back tied
      (here scope code back (StandsSomehow scope code (Do (while e b) ∷ rest)) (
        st.4,
        st.5,
        (
          st.3,
          st.6,
          moved scope code exit (back + statement_size (while e b)) (Then scope code rest st.4 st.5) st.2 st.7,
        ),
      ))))
      (weight todo) l vs todo p tied (omega arith) h
