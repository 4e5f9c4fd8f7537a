use Rattle.spf_print_laws.proofs.Determined.{Laws, by_reading, by_text, by_reader}
use Rattle.spf_print_laws.proofs.laws.texts_determine_their_programs.Goals as goal

pub returns : goal.returns
returns c =
    let laws : Laws = record { tokens = c.texts_determine_their_tokens.ensures; spellings = c.spellings_resolve_to_their_programs.ensures } in
    record { readings = by_reading laws; texts = by_text laws; reader = by_reader laws }
