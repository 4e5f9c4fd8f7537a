use Rattle.std.proofs.Common.{true, false, ◌≡◌, [], length, refl, sym, ap, ◌∙◌, subst, Ok, Err, ◌-◌}
use Rattle.std.specs.Prelude.{drop}
use Rattle.spf_ast.specs.RawView.{raw_program}
use Rattle.spf_parse_grammar.specs.Lexemes.{lexemes, lexemes_of}
use Rattle.spf_parse_grammar.specs.Parts.{program, give}
use Rattle.spf_parse_grammar.specs.Rules.{all}
use Rattle.spf_parse_grammar.specs.Texts.{IsUnexpected, IsTooDeep, offset}
use Rattle.spf_parse.specs.declared.program.ParseError.TheVariants as parse
use Rattle.spf_parse_parts.specs.Answers.{Leads, Faults}
use Rattle.spf_parse_parts.proofs.Tokens.{seen_length}
use Rattle.spf_parse.proofs.Texts.{reads_is, unexpected_is, too_deep_is}
use Rattle.spf_parse.proofs.Verdicts.{Verdict, by_verdict, read, wrong, deep, refusal, tokens_of, program_of, only_of, accepted_of, scan_of, scan_refused_of, too_long_of, unexpected_of, unexpected_refused_of, too_deep_of, too_deep_refused_of}
use Rattle.spf_parse.proofs.Writables.{writable, tokens_writable}
use Rattle.spf_parse.proofs.program.parse.Goals as goal

pub returns-in-Ok-whole : goal.returns-in-Ok-whole
returns-in-Ok-whole c =
    let h = tokens_of c.args.text.now c.scan.result c.scan.ensures.too_long_refused c.scan.ensures.bad_byte_refused c.scan.ensures.too_large_refused c.in-Ok.tokens c.in-Ok.tokens.items c.in-Ok.is c.in-Ok.ensures.short c.in-Ok.ensures.tokens c.in-Ok.ensures.only in
    let w = ap lexemes c.deref-2.ensures.value ∙ c.in-Ok-lexemes.ensures ∙ ap (lexemes_of c.args.text.now) c.deref.ensures.value in
    let l = subst (λ l. Leads 14 (all program) l (give (raw_program c.in-Ok-whole.program)) []) w c.in-Ok-whole.ensures in
    let said = writable 0 (lexemes_of c.args.text.now c.in-Ok.tokens.items) (raw_program c.in-Ok-whole.program) (tokens_writable c.args.text.now c.in-Ok.tokens.items c.in-Ok.ensures.slices) (reads_is l) in
    by_verdict (read c.in-Ok-whole.program c.in-Ok.tokens.items refl h l) (λ v. record {
      program = program_of c.args.text.now (Ok c.in-Ok-whole.program) v;
      only = only_of c.args.text.now (Ok c.in-Ok-whole.program) v;
      writable = said;
      well_formed = said.well_formed;
      accepted = accepted_of c.args.text.now (Ok c.in-Ok-whole.program) v;
      scan = scan_of c.args.text.now (Ok c.in-Ok-whole.program) v;
      scan_refused = scan_refused_of c.args.text.now (Ok c.in-Ok-whole.program) v;
      too_long_refused = too_long_of c.args.text.now (Ok c.in-Ok-whole.program) v;
      unexpected = unexpected_of c.args.text.now (Ok c.in-Ok-whole.program) v;
      unexpected_refused = unexpected_refused_of c.args.text.now (Ok c.in-Ok-whole.program) v;
      too_deep = too_deep_of c.args.text.now (Ok c.in-Ok-whole.program) v;
      too_deep_refused = too_deep_refused_of c.args.text.now (Ok c.in-Ok-whole.program) v;
    })

pub returns-in-Err-Unexpected : goal.returns-in-Err-Unexpected
returns-in-Err-Unexpected c =
    let h = tokens_of c.args.text.now c.scan.result c.scan.ensures.too_long_refused c.scan.ensures.bad_byte_refused c.scan.ensures.too_large_refused c.in-Ok.tokens c.in-Ok.tokens.items c.in-Ok.is c.in-Ok.ensures.short c.in-Ok.ensures.tokens c.in-Ok.ensures.only in
    let w = ap lexemes c.deref-2.ensures.value ∙ c.in-Ok-lexemes.ensures ∙ ap (lexemes_of c.args.text.now) c.deref.ensures.value in
    let f = subst (λ l. Faults false 14 (all program) l c.in-Err-Unexpected.left) w (rw c.in-Err-Unexpected.field-0-is at c.in-Err-Unexpected.ensures) in
    let q = ap lexemes c.deref-in-Err-Unexpected.ensures.value ∙ sym (ap lexemes c.deref-2.ensures.value) ∙ w in
    let n : length c.deref-in-Err-Unexpected.result.now ≡ length (lexemes_of c.args.text.now c.in-Ok.tokens.items) = sym (seen_length c.deref-in-Err-Unexpected.result.now) ∙ ap length q in
    let e = c.offset.ensures ∙ (λ i. offset (length c.args.text.now) (drop (n i - c.in-Err-Unexpected.left) (q i))) in
    by_verdict (wrong c.offset.result c.in-Ok.tokens.items refl h (subst (IsUnexpected (lexemes_of c.args.text.now c.in-Ok.tokens.items) (length c.args.text.now)) (sym e) (unexpected_is (length c.args.text.now) f))) (λ v. record {
      program = program_of c.args.text.now (Err (parse.Unexpected c.offset.result)) v;
      only = only_of c.args.text.now (Err (parse.Unexpected c.offset.result)) v;
      writable = tt;
      well_formed = tt;
      accepted = accepted_of c.args.text.now (Err (parse.Unexpected c.offset.result)) v;
      scan = scan_of c.args.text.now (Err (parse.Unexpected c.offset.result)) v;
      scan_refused = scan_refused_of c.args.text.now (Err (parse.Unexpected c.offset.result)) v;
      too_long_refused = too_long_of c.args.text.now (Err (parse.Unexpected c.offset.result)) v;
      unexpected = unexpected_of c.args.text.now (Err (parse.Unexpected c.offset.result)) v;
      unexpected_refused = unexpected_refused_of c.args.text.now (Err (parse.Unexpected c.offset.result)) v;
      too_deep = too_deep_of c.args.text.now (Err (parse.Unexpected c.offset.result)) v;
      too_deep_refused = too_deep_refused_of c.args.text.now (Err (parse.Unexpected c.offset.result)) v;
    })

pub returns-in-Err-TooDeep : goal.returns-in-Err-TooDeep
returns-in-Err-TooDeep c =
    let h = tokens_of c.args.text.now c.scan.result c.scan.ensures.too_long_refused c.scan.ensures.bad_byte_refused c.scan.ensures.too_large_refused c.in-Ok.tokens c.in-Ok.tokens.items c.in-Ok.is c.in-Ok.ensures.short c.in-Ok.ensures.tokens c.in-Ok.ensures.only in
    let w = ap lexemes c.deref-2.ensures.value ∙ c.in-Ok-lexemes.ensures ∙ ap (lexemes_of c.args.text.now) c.deref.ensures.value in
    let f = subst (λ l. Faults true 14 (all program) l c.in-Err-TooDeep.left) w (rw c.in-Err-TooDeep.field-0-is at c.in-Err-TooDeep.ensures) in
    let q = ap lexemes c.deref-in-Err-TooDeep.ensures.value ∙ sym (ap lexemes c.deref-2.ensures.value) ∙ w in
    let n : length c.deref-in-Err-TooDeep.result.now ≡ length (lexemes_of c.args.text.now c.in-Ok.tokens.items) = sym (seen_length c.deref-in-Err-TooDeep.result.now) ∙ ap length q in
    let e = c.offset-in-Err-TooDeep.ensures ∙ (λ i. offset (length c.args.text.now) (drop (n i - c.in-Err-TooDeep.left) (q i))) in
    by_verdict (deep c.offset-in-Err-TooDeep.result c.in-Ok.tokens.items refl h (subst (IsTooDeep (lexemes_of c.args.text.now c.in-Ok.tokens.items)) (sym e) (too_deep_is (length c.args.text.now) f))) (λ v. record {
      program = program_of c.args.text.now (Err (parse.TooDeep c.offset-in-Err-TooDeep.result)) v;
      only = only_of c.args.text.now (Err (parse.TooDeep c.offset-in-Err-TooDeep.result)) v;
      writable = tt;
      well_formed = tt;
      accepted = accepted_of c.args.text.now (Err (parse.TooDeep c.offset-in-Err-TooDeep.result)) v;
      scan = scan_of c.args.text.now (Err (parse.TooDeep c.offset-in-Err-TooDeep.result)) v;
      scan_refused = scan_refused_of c.args.text.now (Err (parse.TooDeep c.offset-in-Err-TooDeep.result)) v;
      too_long_refused = too_long_of c.args.text.now (Err (parse.TooDeep c.offset-in-Err-TooDeep.result)) v;
      unexpected = unexpected_of c.args.text.now (Err (parse.TooDeep c.offset-in-Err-TooDeep.result)) v;
      unexpected_refused = unexpected_refused_of c.args.text.now (Err (parse.TooDeep c.offset-in-Err-TooDeep.result)) v;
      too_deep = too_deep_of c.args.text.now (Err (parse.TooDeep c.offset-in-Err-TooDeep.result)) v;
      too_deep_refused = too_deep_refused_of c.args.text.now (Err (parse.TooDeep c.offset-in-Err-TooDeep.result)) v;
    })

pub returns-in-Err : goal.returns-in-Err
returns-in-Err c =
    by_verdict (subst (λ x. Verdict c.args.text.now (Err x)) (sym c.of_scan.ensures) (refusal c.args.text.now c.scan.result c.scan.ensures.too_long_refused c.scan.ensures.bad_byte_refused c.scan.ensures.too_large_refused c.in-Err.e c.in-Err.is c.scan.ensures.too_long c.scan.ensures.bad_byte c.scan.ensures.too_large c.scan.ensures.accepted)) (λ v. record {
      program = tt;
      only = tt;
      writable = tt;
      well_formed = tt;
      accepted = accepted_of c.args.text.now (Err c.of_scan.result) v;
      scan = scan_of c.args.text.now (Err c.of_scan.result) v;
      scan_refused = scan_refused_of c.args.text.now (Err c.of_scan.result) v;
      too_long_refused = too_long_of c.args.text.now (Err c.of_scan.result) v;
      unexpected = unexpected_of c.args.text.now (Err c.of_scan.result) v;
      unexpected_refused = unexpected_refused_of c.args.text.now (Err c.of_scan.result) v;
      too_deep = too_deep_of c.args.text.now (Err c.of_scan.result) v;
      too_deep_refused = too_deep_refused_of c.args.text.now (Err c.of_scan.result) v;
    })
