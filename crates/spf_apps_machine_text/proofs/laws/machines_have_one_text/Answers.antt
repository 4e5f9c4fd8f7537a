use Rattle.std.proofs.Common.{refl, sym, ◌∙◌}
use Rattle.spf_apps_machine_text.proofs.Again.{text_again}
use Rattle.spf_apps_machine_text.proofs.Verdicts.{machine_or_none}
use Rattle.spf_apps_machine_text.proofs.laws.machines_have_one_text.Goals as goal

pub returns : goal.returns
returns c = record {
  some = λ file bytes machine. record { bytes = bytes; machine = machine; text_is = refl };
  text = λ file text other h k. h.text_is ∙ sym k.text_is;
  file = λ text file other h k. sym (text_again text file h) ∙ text_again text other k;
  verdict = machine_or_none c.files_have_one_verdict.ensures.lex1;
}
