use Rattle.std.proofs.Common.{◌≡◌, drop}
use Rattle.toml.specs.View.{items_view}
use Rattle.fmp_arguments.specs.Settings.{list_words, prepend, texts_of}
use Rattle.fmp_arguments.proofs.values.list_words.Given as goal

abbrev pub invariant-loop-value : goal.invariant-loop-value
invariant-loop-value l =
    prepend (texts_of l.words) (list_words l.name (items_view (drop l.value-index l.value-items)))
    ≡ list_words l.name (items_view l.value-items)
