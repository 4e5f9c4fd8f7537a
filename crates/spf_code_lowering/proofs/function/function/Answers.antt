use Rattle.std.proofs.Common.{◌≡◌, length, map, subst}
use Rattle.spf_ast.specs.View.{expression, block, function}
use Rattle.spf_code_lowering.specs.Lowering.{callees_before, IsHeldIn, AreRun}
use Rattle.spf_code_lowering.proofs.Same.{both-same}
use Rattle.spf_code_lowering.proofs.function.function.Goals as goal

pub returns-clause-code : goal.returns-clause-code
returns-clause-code c = λ calls.
    let callees = callees_before (map function c.args.functions.now) c.args.index in
    let f = c.args.source.now in
    let own : c.in_ok-own.own ≡ length (function f).slots = c.in_ok-own.ensures {u = tt} in
    let value = c.in_ok-held.ensures.wrote calls in
    let body = rw c.deref.ensures.value at c.in_ok-made.ensures.runs calls in
    record {
      body = body.made;
      answer = value.made;
      next = c.in_ok-held.held.next;
      same = both-same c.in_ok-made.made.items c.hold.new.out.items c.in_ok-code.code.items _ _ (c.in_ok-code.ensures {u = tt}) body value;
      runs = subst (λ n. AreRun callees calls n (block f.body.items) body.made) own body.asked;
      holds = subst (λ n. IsHeldIn callees calls f.answer_line n n c.in_ok-held.held.next c.in_ok-held.held.register (expression f.answer) value.made) own value.asked;
    }
