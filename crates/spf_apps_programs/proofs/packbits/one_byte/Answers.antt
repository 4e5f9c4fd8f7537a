use Rattle.spf_apps_programs.proofs.packbits.one_byte.Goals as goal

pub returns : goal.returns
returns c = c.on_line.ensures _ _ (c.declare-read.ensures _ (c.input.ensures _ c.local.ensures)) (c.only.ensures _ (c.choose-packet.ensures _ _ _ (c.compare-is_header.ensures _ _ c.local-2.ensures c.number.ensures) c.header.ensures c.data_byte.ensures))
