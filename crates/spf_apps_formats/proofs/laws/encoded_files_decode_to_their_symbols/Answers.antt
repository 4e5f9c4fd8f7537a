use Rattle.spf_apps_formats.proofs.RoundTrip.{prefix_free, decode_back}
use Rattle.spf_apps_formats.proofs.laws.encoded_files_decode_to_their_symbols.Goals as goal

pub returns-clause-prefix_free : goal.returns-clause-prefix_free
returns-clause-prefix_free c = prefix_free

pub returns-clause-decode : goal.returns-clause-decode
returns-clause-decode c = decode_back
