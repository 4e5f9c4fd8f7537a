use Rattle.spf_print_laws.proofs.ReadBack.{read_back}
use Rattle.spf_print_laws.proofs.laws.canonical_texts_read_back.Goals as goal

pub returns : goal.returns
returns c = read_back
