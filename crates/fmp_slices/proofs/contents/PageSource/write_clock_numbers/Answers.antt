use Rattle.std.proofs.Common.{◌≡◌, ◌∙◌, ℕ, ◌+◌, [], ◌∷◌, ◌++◌, None, Some, ap, arith, decimal, rules, sym, take}
use Rattle.std.proofs.lemmas.List.{length-take}
use Rattle.std.specs.Prelude.{slice_get}
use Rattle.fmp_slices.proofs.Drops.{drop_all, drop_taken_found, drop_taken_missing}
use Rattle.fmp_slices.proofs.Joined.{items_end, items_next}
use Rattle.fmp_slices.proofs.contents.PageSource.write_clock_numbers.Goals as goal
use Rattle.fmp_timeline.specs.declared.run.Note.{Note}
use Rattle.json.specs.Token.{number}

pub loop-event-preserved : goal.loop-event-preserved
loop-event-preserved c =
    let notes = c.args.self.run.now.notes.items in
    let event = c.loop-event.event in
    let last = c.args.self.page.last in
    let note = c.in-Some.note in
    let found : slice_get notes event ≡ Some note = sym c.in-Some.ensures in
    let wrote : c.u64.new.self.tokens ≡ c.loop-event.writer.tokens ++ number (decimal note.clock) ∷ [] =
    c.in_ok-u64.ensures.ok
    ∙ ap (λ (n : ℕ). c.loop-event.writer.tokens ++ number (decimal n) ∷ []) c.from.ensures in
    record {
      before = search rules;
      tokens =
          items_next (λ (n : Note). number (decimal n.clock)) _ c.loop-event.writer.tokens _ (take (last + 1) notes)
          event
          note (drop_taken_found notes (last + 1) event note (omega arith) found) wrote
          c.loop-event.invariant.tokens;
    }

pub returns-in_default-clause-tokens : goal.returns-in_default-clause-tokens
returns-in_default-clause-tokens c =
    let notes = c.args.self.run.now.notes.items in
    let event = c.loop-event.event in
    let last = c.args.self.page.last in
    let missing : slice_get notes event ≡ None = sym c.note_at.ensures ∙ c.in_default.is in
    items_end (λ (n : Note). number (decimal n.clock)) _ c.loop-event.writer.tokens _
    (drop_taken_missing notes (last + 1) event missing) c.loop-event.invariant.tokens

pub returns-clause-tokens : goal.returns-clause-tokens
returns-clause-tokens c =
    let notes = c.args.self.run.now.notes.items in
    let event = c.loop-event.event in
    let last = c.args.self.page.last in
    items_end (λ (n : Note). number (decimal n.clock)) _ c.loop-event.writer.tokens _
    (drop_all (take (last + 1) notes) event (omega (arith, length-take (last + 1) notes)))
    c.loop-event.invariant.tokens
