use Rattle.std.proofs.Common.{subst, sym}
use Rattle.std.specs.Prelude.{MatchOption}
use Rattle.fmp_server.specs.Navigation.{HasNoName, IsNamed}
use Rattle.fmp_server.proofs.NamedAt.{named_or_not, no_word, tokens_in_order}
use Rattle.fmp_server.proofs.navigation.named_in.Goals as goal

pub word_at-requires : goal.word_at-requires
word_at-requires c = tokens_in_order c.args.cut.now _ c.requires c.tokens-tokens.ensures

pub returns-in_err-at : goal.returns-in_err-at
returns-in_err-at c =
    let none =
    no_word c.args.cut.now c.args.position _ _ _ c.bytes_of.ensures c.tokens-tokens.ensures c.offset_at.ensures
    c.in_err-at.ensures in
    subst (λ r. MatchOption r (HasNoName c.args.cut.now c.args.position) (IsNamed c.args.cut.now c.args.position))
    (sym c.from_residual.ensures) none

pub returns : goal.returns
returns c =
    named_or_not c.args.cut.now c.args.position _ _ _ _ _ c.bytes_of.ensures c.tokens-tokens.ensures c.offset_at.ensures
    c.in_ok-at.ensures c.named_at.ensures
