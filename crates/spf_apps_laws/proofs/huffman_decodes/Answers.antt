use Rattle.spf_apps_laws.proofs.HufWhole.{huffman}
use Rattle.spf_apps_laws.proofs.huffman_decodes.Goals as goal

pub returns : goal.returns
returns c = huffman
