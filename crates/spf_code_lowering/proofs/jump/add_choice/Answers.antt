use Rattle.std.specs.Prelude.{◌||◌}
use Rattle.std.proofs.Common.{◌≡◌, [], ◌∷◌, ◌++◌, false, ap, ◌∙◌, refl, append_assoc}
use Rattle.spf_code.specs.Code.{only, stop, node_sets}
use Rattle.spf_code.specs.NodeView.{choose, Split, way_of, node}
use Rattle.spf_code_lowering.specs.Decision.{By, two_blocks, until_other}
use Rattle.spf_code_lowering.specs.Flat.{way_sets, nodes_set}
use Rattle.spf_code_lowering.proofs.Decisions.{by-leads, flat-decided, blocks-set}
use Rattle.spf_code_lowering.proofs.Flat.{flat-none, one-sets}
use Rattle.spf_code_lowering.proofs.Lowering.{mapped}
use Rattle.spf_code_lowering.proofs.Spared.{more-spared, either}
use Rattle.spf_code_lowering.proofs.jump.add_choice.Goals as goal

pub returns-clause-wrote : goal.returns-clause-wrote
returns-clause-wrote c = λ first second one other.
    let x = c.unless.result in
    let held = c.args.one.items in
    let missed = c.args.other.items in
    let past : c.in_ok-past_one.past_one ≡ until_other held missed = c.in_ok-past_one.ensures {u = tt} ∙ (λ i. until_other (c.deref.ensures.value i) (c.deref-2.ensures.value i)) in
    mapped {P = λ u. c.add_blocks.new.out.items ≡ c.add.new.out.items ++ two_blocks held missed} c.add_blocks.result c.add_blocks.ensures.appended (λ u e. record {
      nodes = x ∷ two_blocks held missed;
      appended = e ∙ ap (λ l. l ++ two_blocks held missed) (c.in_ok-add.ensures {u = tt}).appended ∙ append_assoc c.args.out.now.items (x ∷ []) (two_blocks held missed);
      made = only (choose c.args.choice first second);
      flat = flat-decided (x ∷ []) held missed (By stop c.args.choice) first second
          (by-leads [] x stop c.args.choice (until_other held missed) (c.unless.ensures.way ∙ ap (Split c.args.choice) past) flat-none) one other;
      asked = refl;
    })

pub returns-clause-spares : goal.returns-clause-spares
returns-clause-spares c =
    let x = c.unless.result in
    let held = c.args.one.items in
    let missed = c.args.other.items in
    mapped {P = λ u. c.add_blocks.new.out.items ≡ c.add.new.out.items ++ two_blocks held missed} c.add_blocks.result c.add_blocks.ensures.appended (λ u e.
    more-spared (λ r. (nodes_set r held ≡ false) × (nodes_set r missed ≡ false)) (x ∷ two_blocks held missed)
    (e ∙ ap (λ l. l ++ two_blocks held missed) (c.in_ok-add.ensures {u = tt}).appended ∙ append_assoc c.args.out.now.items (x ∷ []) (two_blocks held missed))
    (λ r p. either (node_sets r (node x) || way_sets r (way_of x)) _ (one-sets r x (ap (node_sets r) c.unless.ensures.node) (ap (way_sets r) c.unless.ensures.way)) (blocks-set r held missed p.0 p.1)))
