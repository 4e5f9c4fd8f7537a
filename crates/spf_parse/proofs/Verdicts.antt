-- What is answered about a text, whatever it is.
use Rattle.std.proofs.Common.{◌≡◌, ℕ, ◌<◌, ◌≤◌, List, [], length, refl, sym, ◌∙◌, ap, subst, arith, inl, inr, ◌⊎◌, Result, Ok, Err}
use Rattle.std.specs.Prelude.{IfOk, IsOkUnless}
use Rattle.spf_text.specs.declared.token.Token.{Token}
use Rattle.spf_text.specs.declared.scanner.ScanError.{ScanError}
use Rattle.spf_text.specs.declared.scanner.ScanError.TheVariants as scan
use Rattle.spf_text.specs.Tokens.{AreTokensOf, IsFaultyAt, BeginsNothing, BeginsTooLarge, max_text}
use Rattle.spf_ast.specs.declared.raw.RawProgram as code
use Rattle.spf_ast.specs.RawSyntax.{RawProgram}
use Rattle.spf_ast.specs.RawView.{raw_program}
use Rattle.spf_parse_grammar.specs.Lexemes.{lexemes_of}
use Rattle.spf_parse_grammar.specs.Parts.{program, give}
use Rattle.spf_parse_grammar.specs.Rules.{all}
use Rattle.spf_parse_grammar.specs.Reading.{Reads}
use Rattle.spf_parse_grammar.specs.Texts.{IsProgramOf, IsUnexpected, IsUnexpectedAt, IsTooDeep, IsTooDeepAt}
use Rattle.spf_parse.specs.declared.program.ParseError.{ParseError}
use Rattle.spf_parse.specs.declared.program.ParseError.TheVariants as parse
use Rattle.spf_parse_parts.specs.Answers.{Leads}
use Rattle.spf_parse.specs.Refusals.{IsNoTokenText, as_refusal}
use Rattle.spf_parse.proofs.Texts.{reads_is, only_is, whole_not_unexpected, whole_not_too_deep, unexpected_once, unexpected_not_deep, deep_once}

-- the tokens of a text that isn't too long
pub record HasTokens (text : List ℕ) (tokens : List Token) : Type 0 where
  pub short : length text ≤ max_text
  pub are : AreTokensOf text tokens
  pub alone : (ts : List Token) → AreTokensOf text ts → ts ≡ tokens
  pub clean : (e : ScanError) → IsNoTokenText text e → ⊥

pub data Verdict (text : List ℕ) (result : Result code.RawProgram ParseError) : Type 0 where
  memory : result ≡ Err parse.OutOfMemory → (max_text < length text → ⊥) → Verdict text result
  refused : (e : ScanError) → result ≡ Err (parse.Scan e) → IsNoTokenText text e → ((f : ScanError) → IsNoTokenText text f → f ≡ e) → ((ts : List Token) → length text ≤ max_text → AreTokensOf text ts → ⊥) → Verdict text result
  read : (p : code.RawProgram) (tokens : List Token) → result ≡ Ok p → HasTokens text tokens → Leads 14 (all program) (lexemes_of text tokens) (give (raw_program p)) [] → Verdict text result
  wrong : (at : ℕ) (tokens : List Token) → result ≡ Err (parse.Unexpected at) → HasTokens text tokens → IsUnexpected (lexemes_of text tokens) (length text) at → Verdict text result
  deep : (at : ℕ) (tokens : List Token) → result ≡ Err (parse.TooDeep at) → HasTokens text tokens → IsTooDeep (lexemes_of text tokens) at → Verdict text result

-- what follows from each verdict follows from this one
pub by_verdict : {text : List ℕ} {result : Result code.RawProgram ParseError} {P : Type 0} → Verdict text result → (Verdict text result → P) → P
by_verdict v f = f v

by_result : (P : Result code.RawProgram ParseError → Type 0) (r s : Result code.RawProgram ParseError) → r ≡ s → P s → P r
by_result P r s is p = subst P (sym is) p

same_scan : (e f : ScanError) → parse.Scan e ≡ parse.Scan f → e ≡ f
same_scan e f h = cc

err_inside : (a b : ParseError) → ◌≡◌ {A = Result code.RawProgram ParseError} (Err a) (Err b) → a ≡ b
err_inside a b h = cc

ok_err : (p : code.RawProgram) (b : ParseError) → Ok p ≡ Err b → ⊥
ok_err p b h = cc

memory_scan : (e : ScanError) → parse.OutOfMemory ≡ parse.Scan e → ⊥
memory_scan e h = cc

memory_unexpected : (at : ℕ) → parse.OutOfMemory ≡ parse.Unexpected at → ⊥
memory_unexpected at h = cc

memory_deep : (at : ℕ) → parse.OutOfMemory ≡ parse.TooDeep at → ⊥
memory_deep at h = cc

unexpected_scan : (at : ℕ) (e : ScanError) → parse.Unexpected at ≡ parse.Scan e → ⊥
unexpected_scan at e h = cc

deep_scan : (at : ℕ) (e : ScanError) → parse.TooDeep at ≡ parse.Scan e → ⊥
deep_scan at e h = cc

deep_unexpected : (a b : ℕ) → parse.TooDeep a ≡ parse.Unexpected b → ⊥
deep_unexpected a b h = cc

same_unexpected : (a b : ℕ) → parse.Unexpected a ≡ parse.Unexpected b → a ≡ b
same_unexpected a b h = cc

same_deep : (a b : ℕ) → parse.TooDeep a ≡ parse.TooDeep b → a ≡ b
same_deep a b h = cc

module _ (text : List ℕ) (result : Result code.RawProgram ParseError) where
  private_ok : (P : code.RawProgram → Type 0) (e : ParseError) → result ≡ Err e → IfOk result P
  private_ok P e is = by_result (λ r. IfOk r P) result (Err e) is tt

  at_ok : (P : code.RawProgram → Type 0) → ((p : code.RawProgram) (tokens : List Token) → HasTokens text tokens → Leads 14 (all program) (lexemes_of text tokens) (give (raw_program p)) [] → P p) → Verdict text result → IfOk result P
  at_ok P f (memory is s) = private_ok P parse.OutOfMemory is
  at_ok P f (refused e is n o a) = private_ok P (parse.Scan e) is
  at_ok P f (read p tokens is h l) = by_result (λ r. IfOk r P) result (Ok p) is (f p tokens h l)
  at_ok P f (wrong at tokens is h u) = private_ok P (parse.Unexpected at) is
  at_ok P f (deep at tokens is h u) = private_ok P (parse.TooDeep at) is

  same_program : (tokens : List Token) → HasTokens text tokens → (q : RawProgram) → IsProgramOf text q → Reads 0 (lexemes_of text tokens) q
  same_program tokens h q i = subst (λ ts. Reads 0 (lexemes_of text ts) q) (h.alone i.tokens i.are) i.reads

  pub program_of : Verdict text result → IfOk result (λ p. IsProgramOf text (raw_program p))
  program_of v = at_ok (λ p. IsProgramOf text (raw_program p)) (λ p tokens h l. record { short = h.short; tokens = tokens; are = h.are; reads = reads_is l }) v

  pub only_of : Verdict text result → IfOk result (λ p. (q : RawProgram) → IsProgramOf text q → q ≡ raw_program p)
  only_of v = at_ok (λ p. (q : RawProgram) → IsProgramOf text q → q ≡ raw_program p) (λ p tokens h l q i. only_is l 0 q (same_program tokens h q i)) v

  pub accepted_of : Verdict text result → (q : RawProgram) → IsProgramOf text q → IsOkUnless result parse.OutOfMemory
  accepted_of (memory is s) q i = by_result (λ r. IsOkUnless r parse.OutOfMemory) result (Err parse.OutOfMemory) is refl
  accepted_of (refused e is n o a) q i = absurd (a i.tokens i.short i.are)
  accepted_of (read p tokens is h l) q i = by_result (λ r. IsOkUnless r parse.OutOfMemory) result (Ok p) is tt
  accepted_of (wrong at tokens is h u) q i = absurd (whole_not_unexpected (same_program tokens h q i) (length text) at u)
  accepted_of (deep at tokens is h u) q i = absurd (whole_not_too_deep (same_program tokens h q i) at u)

  err_same : (a b : ParseError) → result ≡ Err a → result ≡ Err b → a ≡ b
  err_same a b p q = let h : ◌≡◌ {A = Result code.RawProgram ParseError} (Err a) (Err b) = sym p ∙ q in err_inside a b h

  ok_clash : (p : code.RawProgram) (b : ParseError) → result ≡ Ok p → result ≡ Err b → ⊥
  ok_clash p b r q = let h : Ok p ≡ Err b = sym r ∙ q in ok_err p b h

  pub scan_of : Verdict text result → (e : ScanError) → result ≡ Err (parse.Scan e) → IsNoTokenText text e
  scan_of (memory is s) e r = absurd (memory_scan e (err_same parse.OutOfMemory (parse.Scan e) is r))
  scan_of (refused f is n o a) e r = subst (IsNoTokenText text) (same_scan f e (err_same (parse.Scan f) (parse.Scan e) is r)) n
  scan_of (read p tokens is h l) e r = absurd (ok_clash p (parse.Scan e) is r)
  scan_of (wrong at tokens is h u) e r = absurd (unexpected_scan at e (err_same (parse.Unexpected at) (parse.Scan e) is r))
  scan_of (deep at tokens is h u) e r = absurd (deep_scan at e (err_same (parse.TooDeep at) (parse.Scan e) is r))

  pub scan_refused_of : Verdict text result → (e : ScanError) → IsNoTokenText text e → (result ≡ Err (parse.Scan e)) ⊎ (result ≡ Err parse.OutOfMemory)
  scan_refused_of (memory is s) e n = inr is
  scan_refused_of (refused f is m o a) e n = inl (is ∙ ap (λ g. Err (parse.Scan g)) (sym (o e n)))
  scan_refused_of (read p tokens is h l) e n = absurd (h.clean e n)
  scan_refused_of (wrong at tokens is h u) e n = absurd (h.clean e n)
  scan_refused_of (deep at tokens is h u) e n = absurd (h.clean e n)

  pub too_long_of : Verdict text result → max_text < length text → result ≡ Err (parse.Scan (scan.TooLong max_text))
  too_long_of (memory is s) n = absurd (s n)
  too_long_of (refused f is m o a) n = is ∙ ap (λ g. Err (parse.Scan g)) (sym (o (scan.TooLong max_text) (n, refl)))
  too_long_of (read p tokens is h l) n = absurd (omega (arith, h.short, n))
  too_long_of (wrong at tokens is h u) n = absurd (omega (arith, h.short, n))
  too_long_of (deep at tokens is h u) n = absurd (omega (arith, h.short, n))

  pub unexpected_of : Verdict text result → (at : ℕ) → result ≡ Err (parse.Unexpected at) → IsUnexpectedAt text at
  unexpected_of (memory is s) at r = absurd (memory_unexpected at (err_same parse.OutOfMemory (parse.Unexpected at) is r))
  unexpected_of (refused f is n o a) at r = absurd (unexpected_scan at f (sym (err_same (parse.Scan f) (parse.Unexpected at) is r)))
  unexpected_of (read p tokens is h l) at r = absurd (ok_clash p (parse.Unexpected at) is r)
  unexpected_of (wrong b tokens is h u) at r = record {
    short = h.short;
    tokens = tokens;
    are = h.are;
    unexpected = subst (IsUnexpected (lexemes_of text tokens) (length text)) (same_unexpected b at (err_same (parse.Unexpected b) (parse.Unexpected at) is r)) u;
  }
  unexpected_of (deep b tokens is h u) at r = absurd (deep_unexpected b at (err_same (parse.TooDeep b) (parse.Unexpected at) is r))

  pub too_deep_of : Verdict text result → (at : ℕ) → result ≡ Err (parse.TooDeep at) → IsTooDeepAt text at
  too_deep_of (memory is s) at r = absurd (memory_deep at (err_same parse.OutOfMemory (parse.TooDeep at) is r))
  too_deep_of (refused f is n o a) at r = absurd (deep_scan at f (sym (err_same (parse.Scan f) (parse.TooDeep at) is r)))
  too_deep_of (read p tokens is h l) at r = absurd (ok_clash p (parse.TooDeep at) is r)
  too_deep_of (wrong b tokens is h u) at r = absurd (deep_unexpected at b (sym (err_same (parse.Unexpected b) (parse.TooDeep at) is r)))
  too_deep_of (deep b tokens is h u) at r = record {
    short = h.short;
    tokens = tokens;
    are = h.are;
    too_deep = subst (IsTooDeep (lexemes_of text tokens)) (same_deep b at (err_same (parse.TooDeep b) (parse.TooDeep at) is r)) u;
  }

  same_unexpected_text : (tokens : List Token) → HasTokens text tokens → (at : ℕ) → (i : IsUnexpectedAt text at) → IsUnexpected (lexemes_of text tokens) (length text) at
  same_unexpected_text tokens h at i = subst (λ ts. IsUnexpected (lexemes_of text ts) (length text) at) (h.alone i.tokens i.are) i.unexpected

  same_deep_text : (tokens : List Token) → HasTokens text tokens → (at : ℕ) → (i : IsTooDeepAt text at) → IsTooDeep (lexemes_of text tokens) at
  same_deep_text tokens h at i = subst (λ ts. IsTooDeep (lexemes_of text ts) at) (h.alone i.tokens i.are) i.too_deep

  pub unexpected_refused_of : Verdict text result → (at : ℕ) → IsUnexpectedAt text at → (result ≡ Err (parse.Unexpected at)) ⊎ (result ≡ Err parse.OutOfMemory)
  unexpected_refused_of (memory is s) at i = inr is
  unexpected_refused_of (refused f is n o a) at i = absurd (a i.tokens i.short i.are)
  unexpected_refused_of (read p tokens is h l) at i = absurd (whole_not_unexpected (reads_is l) (length text) at (same_unexpected_text tokens h at i))
  unexpected_refused_of (wrong b tokens is h u) at i = inl (is ∙ ap (λ n. Err (parse.Unexpected n)) (unexpected_once (length text) b at u (same_unexpected_text tokens h at i)))
  unexpected_refused_of (deep b tokens is h u) at i = absurd (unexpected_not_deep (length text) at b (same_unexpected_text tokens h at i) u)

  pub too_deep_refused_of : Verdict text result → (at : ℕ) → IsTooDeepAt text at → (result ≡ Err (parse.TooDeep at)) ⊎ (result ≡ Err parse.OutOfMemory)
  too_deep_refused_of (memory is s) at i = inr is
  too_deep_refused_of (refused f is n o a) at i = absurd (a i.tokens i.short i.are)
  too_deep_refused_of (read p tokens is h l) at i = absurd (whole_not_too_deep (reads_is l) at (same_deep_text tokens h at i))
  too_deep_refused_of (wrong b tokens is h u) at i = absurd (unexpected_not_deep (length text) b at u (same_deep_text tokens h at i))
  too_deep_refused_of (deep b tokens is h u) at i = inl (is ∙ ap (λ n. Err (parse.TooDeep n)) (deep_once b at u (same_deep_text tokens h at i)))

-- ---- of the scanner's answers

scan_same : (V : Type 0) (a b : ScanError) → ◌≡◌ {A = Result V ScanError} (Err a) (Err b) → a ≡ b
scan_same V a b h = cc

scan_ok : {V : Type 0} (v : V) (b : ScanError) → Ok v ≡ Err b → ⊥
scan_ok v b h = cc

module _ {V : Type 0} (text : List ℕ) (r : Result V ScanError)
    (long : max_text < length text → r ≡ Err (scan.TooLong max_text))
    (bad : (at : ℕ) → length text ≤ max_text → IsFaultyAt BeginsNothing text at → (r ≡ Err (scan.BadByte at)) ⊎ (r ≡ Err scan.OutOfMemory))
    (large : (at : ℕ) → length text ≤ max_text → IsFaultyAt BeginsTooLarge text at → (r ≡ Err (scan.NumberTooLarge at)) ⊎ (r ≡ Err scan.OutOfMemory)) where
  -- a fault of the text is answered, or memory ran out
  told : (e : ScanError) → IsNoTokenText text e → (r ≡ Err e) ⊎ (r ≡ Err scan.OutOfMemory)
  told (scan.TooLong at) n = inl (long n.0 ∙ ap (λ m. Err (scan.TooLong m)) (sym n.1))
  told (scan.BadByte at) n = bad at n.0 n.1
  told (scan.NumberTooLarge at) n = large at n.0 n.1
  told scan.OutOfMemory n = elim n [ ]

  pub tokens_of : (v : V) (tokens : List Token) → r ≡ Ok v → length text ≤ max_text → AreTokensOf text tokens → ((ts : List Token) → AreTokensOf text ts → ts ≡ tokens) → HasTokens text tokens
  tokens_of v tokens is short are alone = record {
    short = short;
    are = are;
    alone = alone;
    clean = λ e n. elim (told e n) [ inl x ↦ scan_ok v e (sym is ∙ x) | inr y ↦ scan_ok v scan.OutOfMemory (sym is ∙ y) ];
  }

  some_refused : (e : ScanError) → (e ≡ scan.OutOfMemory → ⊥) → r ≡ Err e → as_refusal e ≡ parse.Scan e → IsNoTokenText text e → ((ts : List Token) → length text ≤ max_text → AreTokensOf text ts → e ≡ scan.OutOfMemory) → Verdict text (Err (as_refusal e))
  some_refused e some is same n acc = refused e (ap Err same) n
      (λ f m. elim (told f m) [ inl x ↦ scan_same V f e (sym x ∙ is) | inr y ↦ absurd (some (scan_same V e scan.OutOfMemory (sym is ∙ y))) ])
      (λ ts s a. some (acc ts s a))

  pub refusal : (e : ScanError) → r ≡ Err e → ((at : ℕ) → r ≡ Err (scan.TooLong at) → (max_text < length text) × (at ≡ max_text)) →
      ((at : ℕ) → r ≡ Err (scan.BadByte at) → (length text ≤ max_text) × IsFaultyAt BeginsNothing text at) →
      ((at : ℕ) → r ≡ Err (scan.NumberTooLarge at) → (length text ≤ max_text) × IsFaultyAt BeginsTooLarge text at) →
      ((ts : List Token) → length text ≤ max_text → AreTokensOf text ts → IsOkUnless r scan.OutOfMemory) → Verdict text (Err (as_refusal e))
  refusal (scan.TooLong at) is tl bb nl acc = some_refused (scan.TooLong at) (λ h. cc) is refl (tl at is) (λ ts s a. subst (λ q. IsOkUnless q scan.OutOfMemory) is (acc ts s a))
  refusal (scan.BadByte at) is tl bb nl acc = some_refused (scan.BadByte at) (λ h. cc) is refl (bb at is) (λ ts s a. subst (λ q. IsOkUnless q scan.OutOfMemory) is (acc ts s a))
  refusal (scan.NumberTooLarge at) is tl bb nl acc = some_refused (scan.NumberTooLarge at) (λ h. cc) is refl (nl at is) (λ ts s a. subst (λ q. IsOkUnless q scan.OutOfMemory) is (acc ts s a))
  refusal scan.OutOfMemory is tl bb nl acc = memory refl (λ n. let h : scan.OutOfMemory ≡ scan.TooLong max_text = scan_same V scan.OutOfMemory (scan.TooLong max_text) (sym is ∙ long n) in cc)
