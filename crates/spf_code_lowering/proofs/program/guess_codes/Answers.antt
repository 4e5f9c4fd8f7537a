use Rattle.std.proofs.Common.{◌+◌, drop, map}
use Rattle.spf_ast.specs.View.{predictor}
use Rattle.spf_code_lowering.specs.Lowering.{callees_in}
use Rattle.spf_code_lowering.proofs.Parts.{next_guess, one_guess, all_guesses}
use Rattle.spf_code_lowering.proofs.program.guess_codes.Goals as goal

pub loop-part-preserved : goal.loop-part-preserved
loop-part-preserved c = record {
  codes = λ calls.
      let s = c.args.scope.now in
      let xs = c.args.predict.now in
      let i = c.loop-part.part-index in
      let x = c.part-item.result in
      one_guess (callees_in s) calls s.own c.args.line (map predictor xs) (map predictor (drop i xs)) (map predictor (drop (i + 1) xs)) (predictor x) c.loop-part.codes.items _ c.in_ok-guess_code.field-0
      (next_guess xs i x c.loop-part-test.true c.part-item.is) c.in_ok-push.ensures.items (c.in_ok-guess_code.ensures.code calls, λ r l. c.in_ok-guess_code.ensures.sets r l) (c.loop-part.invariant.codes calls);
}

pub returns : goal.returns
returns c = record {
  codes = λ calls. all_guesses (callees_in c.args.scope.now) calls c.args.scope.now.own c.args.line c.args.predict.now c.loop-part.part-index c.loop-part.codes.items c.loop-part-test.false (c.loop-part.invariant.codes calls);
}
