use Rattle.spf_text.proofs.Verdicts.{tokens_unique}
use Rattle.spf_text.proofs.laws.texts_determine_their_tokens.Goals as goal

pub returns : goal.returns
returns c = tokens_unique
