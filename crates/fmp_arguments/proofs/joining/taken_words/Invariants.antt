use Rattle.std.proofs.Common.{◌≡◌, ◌++◌, drop, map}
use Rattle.fmp_arguments.specs.Joined.{words_taken}
use Rattle.fmp_arguments.specs.Settings.{setting_view, texts_of}
use Rattle.fmp_arguments.proofs.joining.taken_words.Given as goal

abbrev pub invariant-loop-setting : goal.invariant-loop-setting
invariant-loop-setting l =
    texts_of l.words
    ++ words_taken (map (λ name. name.now) l.names) (map setting_view (drop l.setting-index l.settings))
    ≡ words_taken (map (λ name. name.now) l.names) (map setting_view l.settings)
