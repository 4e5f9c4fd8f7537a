use Rattle.spf_ast.specs.Spelling.{spelled}
use Rattle.spf_print_laws.proofs.ReadBack.{read_back}
use Rattle.spf_print_laws.proofs.Writable.{writable}
use Rattle.spf_print_laws.proofs.laws.printed_programs_read_back.Goals as goal

pub returns : goal.returns
returns c = record { writable = writable; text = λ p w. read_back (spelled 0 p) (writable 0 p w) }
