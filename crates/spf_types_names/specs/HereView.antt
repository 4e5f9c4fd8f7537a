-- What contracts see of where a form stands.
use Rattle.spf_types_names.specs.declared.names.Here.{Here}
use Rattle.spf_types_names.specs.Faults.{Setting}

-- where it stands
abbrev pub setting : Here → Setting
setting h = record { globals = h.globals.now; index = h.index; in_main = h.in_main; in_loop = h.in_loop }
