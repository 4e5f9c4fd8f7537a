use Rattle.spf_apps_programs.proofs.huffman.look_byte.Goals as goal

pub returns : goal.returns
returns c = c.only.ensures _ (c.when.ensures _ _ (c.compare-is_inside.ensures _ _ c.local-3.ensures c.number-2.ensures) (c.only-step.ensures _ (c.assign.ensures _ (c.call_with_two-bitten.ensures _ _ c.local-2.ensures (c.input-byte.ensures _ (c.binary-offset.ensures _ _ c.number.ensures c.local.ensures))))))
