use Rattle.spf_apps_formats.proofs.Decodings.{is_decoded, decoded_once}
use Rattle.spf_apps_formats.proofs.laws.huf1_files_are_decoded_once.Goals as goal

pub returns : goal.returns
returns c = record { some = is_decoded; one = decoded_once }
