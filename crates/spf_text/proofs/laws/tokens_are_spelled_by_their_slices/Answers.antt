use Rattle.spf_text.proofs.Verdicts.{IsSpelledIn-tokens}
use Rattle.spf_text.proofs.laws.tokens_are_spelled_by_their_slices.Goals as goal

pub returns : goal.returns
returns c = IsSpelledIn-tokens
