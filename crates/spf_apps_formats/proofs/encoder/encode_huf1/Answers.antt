use Rattle.spf_apps_formats.proofs.Decodings.{encoded_decodes}
use Rattle.spf_apps_formats.proofs.encoder.encode_huf1.Goals as goal

pub returns-in-Ok-clause-decodes : goal.returns-in-Ok-clause-decodes
returns-in-Ok-clause-decodes c =
    encoded_decodes c.args.lengths.now c.args.symbols.now c.in-Ok.file.items c.requires.lengths c.requires.symbols c.in-Ok.ensures
