use Rattle.std.proofs.Common.{◌≡◌, ◌-◌, ◌++◌, ◌^◌, drop, min}
use Rattle.fmp_slices.specs.Traces.{note_text, source_of, texts_from}
use Rattle.fmp_slices.proofs.tracing.SliceSource.append_notes.Given as goal

abbrev pub invariant-loop-note : goal.invariant-loop-note
invariant-loop-note l =
    record {
      event : l.event ≡ min l.note-index (2 ^ 32 - 1);
      out :
          l.out.items
          ++ texts_from (λ n note. note_text (source_of l.self) (min n (2 ^ 32 - 1)) note) l.note-index
          (drop l.note-index l.self.run.now.notes.items)
          ≡ l.initial.out.items
          ++ texts_from (λ n note. note_text (source_of l.self) (min n (2 ^ 32 - 1)) note) 0 l.self.run.now.notes.items;
    }
