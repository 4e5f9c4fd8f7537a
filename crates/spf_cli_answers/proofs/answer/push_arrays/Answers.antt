use Rattle.std.proofs.Common.{arith, ◌++◌, ◌∷◌, [], List, length, ap, ◌∙◌, append_assoc, map, take, drop, ◌+◌, ℕ, slice_index_or}
use Rattle.spf_ast.specs.View.{array}
use Rattle.spf_cli_answers.specs.Message.{array_lines}
use Rattle.spf_cli_answers.specs.Answering.{lines_of}
use Rattle.spf_cli_answers.proofs.Lines.{lines_of-push, extents-length, extent_size, array_more}
use Rattle.spf_cli_answers.proofs.answer.push_arrays.Goals as goal

pub bounds-extents-index : goal.bounds-extents-index
bounds-extents-index c = omega (arith, ap length c.requires, extents-length c.args.len 0 c.args.arrays.now, c.loop-index-test.true)

pub loop-index-preserved : goal.loop-index-preserved
loop-index-preserved c =
    let a = c.index-arrays-index.result in
    let size : ℕ = (slice_index_or c.args.extents.now c.loop-index.index (0, 0)).1 in
    let sized = ap (λ (es : List (ℕ × ℕ)). (slice_index_or es c.loop-index.index (0, 0)).1) c.requires in
    let more = array_more c.args.len c.args.arrays.now c.loop-index.index a size c.loop-index.rest.now c.split_at.result.0.now c.split_at.result.1.now c.loop-index-test.true c.index-arrays-index.is (sized ∙ extent_size c.args.len 0 c.args.arrays.now c.loop-index.index a c.loop-index-test.true c.index-arrays-index.is) (c.split_at.ensures.front ∙ ap (λ n. take n c.loop-index.rest.now) c.min.ensures) (c.split_at.ensures.back ∙ ap (λ n. drop n c.loop-index.rest.now) c.min.ensures) in
    let left = array_lines c.args.len (map array (drop (c.loop-index.index + 1) c.args.arrays.now)) c.split_at.result.1.now in
    ap (λ b. b ++ left) (ap lines_of (c.in_ok-push.ensures {u = tt}).items ∙ lines_of-push c.loop-index.messages.items c.in_ok-array_line.field-0 ∙ ap (λ b. lines_of c.loop-index.messages.items ++ b ∷ []) (c.in_ok-array_line.ensures {u = tt}))
    ∙ append_assoc (lines_of c.loop-index.messages.items) (_ ∷ []) left
    ∙ ap (λ b. lines_of c.loop-index.messages.items ++ b) more
    ∙ c.loop-index.invariant
