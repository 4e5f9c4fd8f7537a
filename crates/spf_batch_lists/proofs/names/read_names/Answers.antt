use Rattle.std.proofs.Common.{◌≡◌, ◌<◌, inl, ◌∷◌, ◌++◌, [], length, map, take, drop, ◌+◌, ap, sym, ◌∙◌, subst, arith}
use Rattle.std.specs.Prelude.{All, string_bytes}
use Rattle.std.proofs.lemmas.List.{length-map, map-append}
use Rattle.std.proofs.lemmas.List.Elements.{All-push}
use Rattle.std.proofs.lemmas.Grind.{common_steps}
use Rattle.spf_batch_lists.specs.Lists.{lines, IsName}
use Rattle.spf_batch_lists.proofs.Lines.{first_line, bad_line, line_more}
use Rattle.spf_batch_lists.proofs.names.read_names.Goals as goal

pub returns-in_default : goal.returns-in_default
returns-in_default c =
    let some : 0 < length c.loop-rest.rest.now = grind (arith, common_steps, c.is_empty.ensures, c.loop-rest-test.true) in
    let count : length (map string_bytes c.loop-rest.names.items) ≡ length c.loop-rest.names.items = length-map c.loop-rest.names.items string_bytes in
    bad_line c.args.list.now c.loop-rest.rest.now (take c.line_length-length.result c.loop-rest.rest.now) (drop 1 (drop c.line_length-length.result c.loop-rest.rest.now)) (map string_bytes c.loop-rest.names.items) (c.len.result + 1)
    c.loop-rest.invariant.lines
    (first_line c.loop-rest.rest.now c.line_length-length.result some c.line_length-length.ensures.within c.line_length-length.ensures.line c.line_length-length.ensures.ends)
    c.loop-rest.invariant.each (omega (arith, count, c.loop-rest.invariant.few)) (omega (arith, count, c.len.ensures)) (inl (subst (λ l. IsName l → ⊥) c.split_at.ensures.front c.in_default.ensures))

pub loop-rest-preserved : goal.loop-rest-preserved
loop-rest-preserved c =
    let some : 0 < length c.loop-rest.rest.now = grind (arith, common_steps, c.is_empty.ensures, c.loop-rest-test.true) in
    let first : lines c.loop-rest.rest.now ≡ take c.line_length-length.result c.loop-rest.rest.now ∷ lines c.after_end-rest.result.now =
    first_line c.loop-rest.rest.now c.line_length-length.result some c.line_length-length.ensures.within c.line_length-length.ensures.line c.line_length-length.ensures.ends
    ∙ ap (λ rest. take c.line_length-length.result c.loop-rest.rest.now ∷ lines rest) (sym (c.after_end-rest.ensures ∙ ap (drop 1) c.split_at.ensures.back)) in
    let name : string_bytes c.in_ok-from_str.field-0 ≡ take c.line_length-length.result c.loop-rest.rest.now =
    c.in_ok-from_str.ensures.ok ∙ c.in-Some.ensures.0 ∙ c.split_at.ensures.front in
    let more : map string_bytes c.push.new.self.items ≡ map string_bytes c.loop-rest.names.items ++ take c.line_length-length.result c.loop-rest.rest.now ∷ [] =
    ap (map string_bytes) c.in_ok-push.ensures.items ∙ map-append string_bytes c.loop-rest.names.items (c.in_ok-from_str.field-0 ∷ []) ∙ ap (λ n. map string_bytes c.loop-rest.names.items ++ n ∷ []) name in
    record {
      lines = line_more c.args.list.now c.loop-rest.rest.now (take c.line_length-length.result c.loop-rest.rest.now) c.after_end-rest.result.now (map string_bytes c.loop-rest.names.items) (map string_bytes c.push.new.self.items)
          c.loop-rest.invariant.lines first more;
      each = subst (All IsName) (sym more) (All-push IsName (map string_bytes c.loop-rest.names.items) (take c.line_length-length.result c.loop-rest.rest.now) c.loop-rest.invariant.each (subst IsName c.split_at.ensures.front c.in-Some.ensures.1));
      few = grind (arith, common_steps, c.in_ok-push.ensures.items, c.loop-rest.invariant.few, c.len-in-loop-rest.ensures, c.if-len-ge-MAX_NAMES.false);
    }
