use Rattle.std.proofs.Common.{sym, ◌∙◌, refl}
use Rattle.spf_code_lowering.proofs.Flat.{ended-sets}
use Rattle.spf_code_lowering.proofs.Lowering.{count_is}
use Rattle.spf_code_lowering.proofs.Same.{both-same}
use Rattle.spf_code_lowering.proofs.program.row_code.Goals as goal

pub returns-clause-code : goal.returns-clause-code
returns-clause-code c = λ calls.
    let body = c.in_ok-nodes.ensures.runs calls in
    let value = c.in_ok-pass.ensures.wrote calls in
    record {
      body = body.made;
      answer = value.made;
      same = both-same c.in_ok-nodes.nodes.items c.pass.new.out.items c.in_ok-list.list.items _ _ (c.in_ok-list.ensures {u = tt}) body value;
      runs = body.asked;
      passes = value.asked;
      register = refl;
      width = c.in_ok-count_of.ensures {u = tt} ∙ sym (count_is c.args.row.now);
    }

pub returns-clause-sets : goal.returns-clause-sets
returns-clause-sets c = λ r p. ended-sets r c.pass.new.out.items c.in_ok-list.list.items (c.in_ok-list.ensures {u = tt}) (c.in_ok-pass.ensures.spares.each r p.0 (c.in_ok-nodes.ensures.spares r p))
