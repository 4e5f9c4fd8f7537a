use Rattle.spf_text.proofs.Pieces.{name_first}
use Rattle.spf_text.proofs.front.word_front.Goals as goal

pub returns-in-None : goal.returns-in-None
returns-in-None c = name_first c.args.bytes.now c.word_length-length.result c.requires.some c.requires.letter c.word_length-length.ensures c.in-None.ensures
