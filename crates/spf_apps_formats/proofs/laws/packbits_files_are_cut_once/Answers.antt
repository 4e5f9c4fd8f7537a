use Rattle.spf_apps_formats.proofs.Packets.{is_cut, one_cut, one_output}
use Rattle.spf_apps_formats.proofs.laws.packbits_files_are_cut_once.Goals as goal

pub returns : goal.returns
returns c = record { some = is_cut; one = one_cut; output = one_output }
