-- Slices, and what is known where they are entered.
use Rattle.std.proofs.Common.{◌≡◌, ◌+◌, ◌-◌, ◌*◌, ◌<◌, ◌≤◌, ◌⊎◌, inl, inr, ℕ, List, [], Option, Some, Bool, true}
use Rattle.std.proofs.Common.{All, Err, None, Result, IfOk, get_or}
use Rattle.std.specs.declared.alloc.AllocError.{AllocError}
use Rattle.std.proofs.lemmas.List.Elements.{All-from_get_or, All-get_or, All-nil, All-pop, All-push, All-weaker}
use Rattle.std.proofs.lemmas.Result.{IfOk-weaker}
use Rattle.std.proofs.Common.{ap, sym, subst, ◌∙◌, ◌∷◌, ◌++◌, false, arith, is_some, length}
use Rattle.std.proofs.Common.{length-append, slice_get}
use Rattle.std.proofs.lemmas.Bool.{cases_lt}
use Rattle.std.proofs.lemmas.Option.{slice_get_within}
use Rattle.std.specs.Prelude.{IfSome, alloc_error, option_to_list, unwrap_or}
use Rattle.fmp_explore.specs.declared.searches.Search.{Search}
use Rattle.fmp_explore.specs.declared.slices.Slice.{Slice}
use Rattle.fmp_explore.specs.declared.slices.Span.{Span}
use Rattle.fmp_explore.specs.Searching.{Grows, HasExamined, HasLive, IsSearch, IsSearching, SameTable, rows_of}
use Rattle.fmp_explore.specs.Slices.{AreEntered, AreFirst, AreReady, AreSlices, AreTakenOver, HasEntered}
use Rattle.fmp_explore.specs.Slices.{HasExaminedFirst, HasKeptRow, IsAmong, IsInRound, IsSlice, IsSliceOf, IsTaken}
use Rattle.fmp_explore.specs.States.{IsExamined, KeptRows}
use Rattle.fmp_fields.specs.declared.field.What.{What}
use Rattle.fmp_fields.specs.Fields.{AreAllFields}
use Rattle.fmp_visited.specs.Seen.{SeenStates, with_state}
use Rattle.fmp_visited.specs.declared.link.StateLink.{StateLink}
use Rattle.fmp_explore.proofs.SearchLemmas.{element_before, more_examined}
use Rattle.fmp_explore.proofs.SearchStepLemmas.{grows_on, grows_rows, grows_search, stays_grows}
use Rattle.fmp_explore.proofs.StateLemmas.{element_last, element_stays, examined_grown, examined_with}
use Rattle.fmp_explore.proofs.StateLemmas.{with_rows}
use Rattle.fmp_witness.specs.Asked.{Asked}

module _ (asked : Asked) (whole : Search) (slice : Slice) (h : IsSlice asked whole slice) where
  -- the rows of a search that the whole one became, beside those of the slice
  rows_beside : (b : Search) → Grows whole b → with_rows (rows_of slice.search) b.seen.rows ≡ rows_of b
  rows_beside b g =
      let with : Bool → List What → List ℕ → KeptRows = λ (outs : Bool) (fields : List What) (first : List ℕ).
      record { outs = outs; fields = fields; first = first; rows = b.seen.rows } in
      let s = slice.search.rows in
      ap (λ (outs : Bool). with outs s.fields.items s.first.items) (h.same.outs ∙ sym g.same.outs)
      ∙ ap (λ (fields : List What). with b.rows.outs fields s.first.items) (h.same.fields ∙ sym g.same.fields)
      ∙ ap (λ (first : List ℕ). with b.rows.outs b.rows.fields.items first) (h.same.first ∙ sym g.same.first)

  -- where a slice is entered, its states are examined
  pub slice_examined : (a b : Search) → Grows whole a → slice.span.first ≤ length a.seen.rows
      → slice.span.end ≤ length whole.seen.rows → HasEntered slice.search a b
      → IsSearching asked slice.span.first a → IsSearching asked slice.span.end b
  slice_examined a b g le within entered x =
      let grows : Grows whole b = grows_on whole a b g entered.grows in
      more_examined asked slice.span.first slice.span.end a b x le entered.grows
      (λ sure k row past before there.
      subst (λ (kept : KeptRows). IsExamined asked kept row) (rows_beside b grows)
      (examined_with asked (rows_of slice.search) b.seen.rows
      (λ j r at. entered.each sure j r (slice_get_within slice.search.seen.rows j r at) at) row
      (h.each (entered.sure sure) k row past before
      (element_before whole.seen.rows grows.more k row (omega (arith, before, within))
      (ap (λ (rs : List (List ℕ)). slice_get rs k) (sym grows.rows) ∙ there)))))

grows_longer : (a b : Search) → Grows a b → length a.seen.rows ≤ length b.seen.rows
grows_longer a b g =
    let rows : length b.seen.rows ≡ length a.seen.rows + length g.more =
    ap (λ (rs : List (List ℕ)). length rs) g.rows ∙ length-append a.seen.rows g.more in
    omega (arith, rows)

-- ---- the search of a slice

-- a search that keeps rows as the whole one does, where it has the same tables
pub slice_of : (asked : Asked) (whole s : Search) → IsSearch asked whole
    → s.tries.items ≡ whole.tries.items → s.rows.fields.items ≡ whole.rows.fields.items
    → s.rows.first.items ≡ whole.rows.first.items → s.rows.outs ≡ whole.rows.outs
    → HasLive asked s.rows → IsSliceOf asked whole s
slice_of asked whole s h tries fields first outs live =
    record {
      search =
          record {
            table =
                record {
                  tries = tries ∙ h.table.tries;
                  fields = subst
                      (λ (fs : List What). AreAllFields asked.image.system asked.image.code
                      (is_some asked.question.interrupts) fs)
                      (sym fields) h.table.fields;
                  live = live;
                };
            first =
                ap (λ (xs : List ℕ). length xs) first ∙ h.first
                ∙ sym (ap (λ (fs : List What). length fs + 2 * length asked.question.monitors.items) fields);
          };
      outs = outs;
      fields = fields;
      first = first;
    }

pub slice_grows : (asked : Asked) (whole a b : Search) → Grows a b → IsSliceOf asked whole a
    → IsSliceOf asked whole b
slice_grows asked whole a b g h =
    record {
      search = grows_search asked a b g h.search;
      outs = g.same.outs ∙ h.outs;
      fields = g.same.fields ∙ h.fields;
      first = g.same.first ∙ h.first;
    }

-- where a row stands, it stays
stands_on : (a b : Search) → Grows a b → (k : ℕ) (row : List ℕ) → slice_get a.seen.rows k ≡ Some row
    → slice_get b.seen.rows k ≡ Some row
stands_on a b g k row there =
    ap (λ (rs : List (List ℕ)). slice_get rs k) g.rows ∙ element_stays a.seen.rows g.more k row there

-- one more row is taken
pub row_taken : (whole : Search) (first place : ℕ) (read : List ℕ) (a b : Search)
    → read ≡ unwrap_or (slice_get whole.seen.rows place) [] → Grows a b → AreFirst whole first place a
    → (b.sure ≡ true → slice_get b.seen.rows (place - first) ≡ Some read) → AreFirst whole first (place + 1) b
row_taken whole first place read a b is g h one sure k row past before there = by_order (cases_lt k place) where
  by_order : (k < place) ⊎ (place ≤ k) → slice_get b.seen.rows (k - first) ≡ Some row
  by_order (inl low) = stands_on a b g (k - first) row (h (g.sure sure) k row past low there)
  by_order (inr far) =
      let last : k ≡ place = omega (arith, before, far) in
      let at : unwrap_or (slice_get whole.seen.rows place) [] ≡ row =
      ap (λ (r : Option (List ℕ)). unwrap_or r [])
      (ap (λ (m : ℕ). slice_get whole.seen.rows m) (sym last) ∙ there) in
      ap (λ (m : ℕ). slice_get b.seen.rows (m - first)) last ∙ one sure ∙ ap Some (is ∙ at)

-- one more of the first states is examined
pub first_examined : (asked : Asked) (k : ℕ) (a b c : Search) → HasExaminedFirst asked k a b → HasExamined asked b c k
    → HasExaminedFirst asked (k + 1) a c
first_examined asked k a b c h x =
    record {
      search = x.search;
      grows = grows_on a b c h.grows x.grows;
      each = λ sure j row before there. by_order sure j row before there (cases_lt j k);
    } where
      by_order : c.sure ≡ true → (j : ℕ) (row : List ℕ) → j < k + 1 → slice_get a.seen.rows j ≡ Some row
          → (j < k) ⊎ (k ≤ j) → IsExamined asked (rows_of c) row
      by_order sure j row before there (inl low) =
          subst (λ (kept : KeptRows). IsExamined asked kept row) (sym (grows_rows b c x.grows))
          (examined_grown asked (rows_of b) x.grows.more row (h.each (x.grows.sure sure) j row low there))
      by_order sure j row before there (inr far) =
          let last : j ≡ k = omega (arith, before, far) in
          x.examined sure row
          (stands_on a b h.grows k row (ap (λ (m : ℕ). slice_get a.seen.rows m) (sym last) ∙ there))

-- where the states that were handed over are examined, it is a slice
pub taken_examined : (asked : Asked) (whole : Search) (taken slice : Slice) (b : Search)
    → IsTaken asked whole taken → slice.span ≡ taken.span → Grows taken.search b
    → HasExaminedFirst asked (taken.span.end - taken.span.first) b slice.search → IsSlice asked whole slice
taken_examined asked whole taken slice b h span g x =
    subst (λ (s : Span). IsSlice asked whole (record { span = s; search = slice.search })) (sym span)
    (record {
      same = slice_grows asked whole taken.search slice.search (grows_on taken.search b slice.search g x.grows) h.same;
      within = h.within;
      each = λ sure k row past before there.
          x.each sure (k - taken.span.first) row (omega (arith, past, before))
          (stands_on taken.search b g (k - taken.span.first) row
          (h.each (g.sure (x.grows.sure sure)) k row past before there));
    })

-- states that are handed over can be examined
pub taken_ready : (asked : Asked) (whole : Search) (slices : List (Result Slice AllocError))
    → AreTakenOver asked whole slices → AreReady asked slices
taken_ready asked whole slices h =
    All-weaker (λ s. IfOk s (IsTaken asked whole)) (λ s. IfOk s (λ slice. IsSearch asked slice.search))
    (λ s t. IfOk-weaker s _ _ (λ _ taken. taken.same.search) t) slices h

pub slice_ready : (asked : Asked) (whole : Search) (slice : Result Slice AllocError)
    → IfOk slice (IsTaken asked whole) → IfOk slice (λ s. IsSearch asked s.search)
slice_ready asked whole slice h = IfOk-weaker slice _ _ (λ _ taken. taken.same.search) h

-- the last of states that are handed over, and the others
pub last_taken : (asked : Asked) (whole : Search) (all others : List (Result Slice AllocError))
    (last : Option (Result Slice AllocError)) → all ≡ others ++ option_to_list last → AreTakenOver asked whole all
    → AreTakenOver asked whole others × IfOk (unwrap_or last (Err alloc_error)) (IsTaken asked whole)
last_taken asked whole all others last is h = (both.0, of_last last both.1) where
  both : AreTakenOver asked whole others × IfSome last (λ s. IfOk s (IsTaken asked whole))
  both = All-pop (λ s. IfOk s (IsTaken asked whole)) all others last is h

  of_last : (o : Option (Result Slice AllocError)) → IfSome o (λ s. IfOk s (IsTaken asked whole))
      → IfOk (unwrap_or o (Err alloc_error)) (IsTaken asked whole)
  of_last (Some s) one = one
  of_last None one = tt

-- slices, and one more
pub slice_added : (asked : Asked) (whole : Search) (slices : List (Result Slice AllocError))
    (last : Result Slice AllocError) → AreSlices asked whole slices → IfOk last (IsSlice asked whole)
    → AreSlices asked whole (slices ++ last ∷ [])
slice_added asked whole slices last h one = All-push (λ s. IfOk s (IsSlice asked whole)) slices last h one

-- a slice of a search is one of what the search becomes
slice_stays : (asked : Asked) (a b : Search) → Grows a b → (slice : Slice) → IsSlice asked a slice
    → IsSlice asked b slice
slice_stays asked a b g slice h =
    let long : length a.seen.rows ≤ length b.seen.rows = grows_longer a b g in
    record {
      same =
          record {
            search = h.same.search;
            outs = h.same.outs ∙ sym g.same.outs;
            fields = h.same.fields ∙ sym g.same.fields;
            first = h.same.first ∙ sym g.same.first;
          };
      within = omega (arith, h.within, long);
      each = λ sure k row past before there.
          h.each sure k row past before
          (element_before a.seen.rows g.more k row (omega (arith, before, h.within))
          (ap (λ (rs : List (List ℕ)). slice_get rs k) (sym g.rows) ∙ there));
    }

pub slices_stay : (asked : Asked) (a b : Search) → Grows a b → (slices : List (Result Slice AllocError))
    → AreSlices asked a slices → AreSlices asked b slices
slices_stay asked a b g slices h =
    All-weaker (λ s. IfOk s (IsSlice asked a)) (λ s. IfOk s (IsSlice asked b))
    (λ s t. IfOk-weaker s _ _ (λ slice one. slice_stays asked a b g slice one) t) slices h

-- what holds of each element that was made of one of a list
all_made : {X Y : Type 0} (P : X → Type 0) (Q : Y → Type 0) (xs : List X) (ys : List Y) → length ys ≡ length xs
    → ((i : ℕ) (d : X) (e : Y) → i < length xs → P (get_or xs i d) → Q (get_or ys i e)) → All P xs → All Q ys
all_made P Q xs [] long each h = All-nil Q
all_made P Q [] (y ∷ ys) long each h = absurd cc
all_made P Q (x ∷ xs) (y ∷ ys) long each h =
    All-from_get_or Q (y ∷ ys) y
    (λ i lt.
    let within : i < length (x ∷ xs) = omega (arith, lt, long) in
    each i x y within (All-get_or P (x ∷ xs) i x within h))

-- slices that were made of states that were handed over
pub slices_made : (asked : Asked) (whole : Search) (taken made : List (Result Slice AllocError))
    → length made ≡ length taken
    → ((i : ℕ) (d e : Result Slice AllocError) → i < length taken → IfOk (get_or taken i d) (IsTaken asked whole)
    → IfOk (get_or made i e) (IsSlice asked whole))
    → AreTakenOver asked whole taken → AreSlices asked whole made
slices_made asked whole taken made long each h =
    all_made (λ s. IfOk s (IsTaken asked whole)) (λ s. IfOk s (IsSlice asked whole)) taken made long each h

-- ---- entering

-- a row that is kept stays so
pub among_grown : (a b : Search) → Grows a b → (row : List ℕ) → IsAmong a.seen.rows row → IsAmong b.seen.rows row
among_grown a b g row h =
    record {
      place = h.place;
      there =
          ap (λ (rs : List (List ℕ)). slice_get rs h.place) g.rows
          ∙ element_stays a.seen.rows g.more h.place row h.there;
    }

-- what is read of a slice is the row that stands there
pub read_at : (slice : Search) (k : ℕ) (read row : List ℕ) → read ≡ unwrap_or (slice_get slice.seen.rows k) []
    → slice_get slice.seen.rows k ≡ Some row → read ≡ row
read_at slice k read row is there = is ∙ ap (λ (r : Option (List ℕ)). unwrap_or r []) there

-- one more row is entered
pub row_entered : (slice : Search) (k : ℕ) (a b : Search) → Grows a b → AreEntered slice k a
    → (b.sure ≡ true → (row : List ℕ) → slice_get slice.seen.rows k ≡ Some row → IsAmong b.seen.rows row)
    → AreEntered slice (k + 1) b
row_entered slice k a b g h one sure j row before there = by_order (cases_lt j k) where
  by_order : (j < k) ⊎ (k ≤ j) → IsAmong b.seen.rows row
  by_order (inl low) = among_grown a b g row (h (g.sure sure) j row low there)
  by_order (inr far) =
      let last : j ≡ k = omega (arith, before, far) in
      one sure row (ap (λ (m : ℕ). slice_get slice.seen.rows m) (sym last) ∙ there)

pub entered_grown : (slice : Search) (k : ℕ) (a b : Search) → Grows a b → AreEntered slice k a → AreEntered slice k b
entered_grown slice k a b g h sure j row before there = among_grown a b g row (h (g.sure sure) j row before there)

-- ---- one row

module _ (a b : Search) (same : SameTable a b) (sure : b.sure ≡ true → a.sure ≡ true) (row : List ℕ)
    (link : StateLink) where
  pub new_row : b.seen ≡ with_state a.seen row link → HasKeptRow a b row
  new_row e =
      let rows : b.seen.rows ≡ a.seen.rows ++ row ∷ [] = ap (λ (s : SeenStates). s.rows) e in
      record {
        grows = record { same = same; more = row ∷ []; rows = rows; sure = sure };
        kept = λ _.
            record {
              place = length a.seen.rows;
              there =
                  ap (λ (rs : List (List ℕ)). slice_get rs (length a.seen.rows)) rows ∙ element_last a.seen.rows row;
            };
      }

  pub known_row : (place : ℕ) → b.seen ≡ a.seen → slice_get a.seen.rows place ≡ Some row → HasKeptRow a b row
  known_row place e found =
      record {
        grows = stays_grows a b (record { same = same; seen = e; sure = sure });
        kept = λ _. record { place = place; there = ap (λ (s : SeenStates). slice_get s.rows place) e ∙ found };
      }

  pub no_row : b.seen ≡ a.seen → b.sure ≡ false → HasKeptRow a b row
  no_row e lost =
      record {
        grows = stays_grows a b (record { same = same; seen = e; sure = sure });
        kept = λ s. absurd (cc (s, lost));
      }

-- one more of a slice's own states is looked at
pub own_entered : (slice : Search) (first place : ℕ) (a b : Search) → Grows a b
    → (a.sure ≡ true → (k : ℕ) (row : List ℕ) → first + k < place → slice_get slice.seen.rows k ≡ Some row
    → IsAmong a.seen.rows row)
    → (b.sure ≡ true → (row : List ℕ) → slice_get slice.seen.rows (place - first) ≡ Some row → IsAmong b.seen.rows row)
    → b.sure ≡ true → (k : ℕ) (row : List ℕ) → first + k < place + 1 → slice_get slice.seen.rows k ≡ Some row
    → IsAmong b.seen.rows row
own_entered slice first place a b g h one sure k row before there = by_order (cases_lt (first + k) place) where
  by_order : (first + k < place) ⊎ (place ≤ first + k) → IsAmong b.seen.rows row
  by_order (inl low) = among_grown a b g row (h (g.sure sure) k row low there)
  by_order (inr far) =
      let last : k ≡ place - first = omega (arith, before, far) in
      one sure row (ap (λ (m : ℕ). slice_get slice.seen.rows m) (sym last) ∙ there)

-- a row that is read of a slice stands at a place
pub among_at : (a slice : Search) (place k : ℕ) (read row : List ℕ)
    → read ≡ unwrap_or (slice_get slice.seen.rows k) [] → slice_get a.seen.rows place ≡ Some read
    → slice_get slice.seen.rows k ≡ Some row → IsAmong a.seen.rows row
among_at a slice place k read row is at there =
    record { place = place; there = at ∙ ap Some (read_at slice k read row is there) }

-- a row that is read of a slice is kept
pub among_read : (b slice : Search) (k : ℕ) (read row : List ℕ) → read ≡ unwrap_or (slice_get slice.seen.rows k) []
    → IsAmong b.seen.rows read → slice_get slice.seen.rows k ≡ Some row → IsAmong b.seen.rows row
among_read b slice k read row is h there =
    record { place = h.place; there = h.there ∙ ap Some (read_at slice k read row is there) }

-- a slice is entered in a round
pub slice_entered : (asked : Asked) (whole : Search) (slice : Slice)
    → IsSlice asked whole slice → (a b : Search) (next : ℕ) → slice.span.first ≡ next → HasEntered slice.search a b
    → IsInRound asked whole next a → IsInRound asked whole slice.span.end b
slice_entered asked whole slice h a b next at entered round =
    let grows : Grows whole b = grows_on whole a b round.grows entered.grows in
    let long : length whole.seen.rows ≤ length a.seen.rows = grows_longer whole a round.grows in
    let low : slice.span.first ≤ length a.seen.rows = omega (arith, at, round.within, long) in
    record {
      grows = grows;
      within = h.within;
      searching =
          slice_examined asked whole slice h a b round.grows low h.within entered
          (subst (λ (k : ℕ). IsSearching asked k a) (sym at) round.searching);
    }
