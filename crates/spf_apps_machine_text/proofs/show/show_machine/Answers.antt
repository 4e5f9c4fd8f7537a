use Rattle.std.proofs.Common.{arith}
use Rattle.std.proofs.lemmas.List.{get_or_default}
use Rattle.spf_apps_machine_text.proofs.Steps.{whole_text}
use Rattle.spf_apps_machine_text.proofs.show.show_machine.Goals as goal

pub returns : goal.returns
returns c = record {
  bytes = λ k d l. omega (arith, c.type_inv.file k, get_or_default c.args.file.now k 0 d l);
  machine = c.requires;
  text_is = whole_text c.args.file.now c.new-text.result.items c.push_counts.new.text.items c.push_classes.new.text.items c.push_states.new.text.items
      c.new-text.ensures.items c.in_ok-push_counts.ensures c.in_ok-push_classes.ensures c.in_ok-push_states.ensures;
}
