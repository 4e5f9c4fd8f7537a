-- A text has at most one verdict, and no text is left without one.
use Rattle.std.proofs.Common.{◌≡◌, ◌⊎◌, ◌≤◌, ◌<◌, ℕ, List, length, refl, sym, ap, ◌∙◌, subst, inl, inr, arith}
use Rattle.spf_text.specs.declared.token.Token.{Token}
use Rattle.spf_text.specs.Tokens.{AreTokensOf, IsFaultyAt, BeginsNothing, BeginsTooLarge, max_text}
use Rattle.spf_text.specs.Laws.{TextsDetermineTheirTokens, TextsHaveTokensOrAFault, TextsHaveOneFault}
use Rattle.spf_ast.specs.Syntax.{Program}
use Rattle.spf_ast.specs.RawSyntax.{RawProgram}
use Rattle.spf_parse_grammar.specs.Lexemes.{lexemes_of}
use Rattle.spf_parse_grammar.specs.Reading.{Reads}
use Rattle.spf_parse_grammar.specs.Texts.{IsProgramOf, IsUnexpected, IsTooDeep, IsUnexpectedAt, IsTooDeepAt}
use Rattle.spf_parse.specs.Laws.{TokensGoWrongOnce, TextsSayWritablePrograms}
use Rattle.spf_print_laws.specs.Laws.{TokensAreOfOneProgram, NoTokensAreLeft}
use Rattle.spf_types_names.specs.declared.fault.TypeFault.{TypeFault}
use Rattle.spf_types.specs.Contract.{IsResolved, IsRefused}
use Rattle.spf_types.specs.Laws.{ResolveOrAreRefused, ResolveToOne, AreRefusedForOne, ResolvedAreNotRefused}
use Rattle.spf_cli_answers.specs.Reading.{text_too_long, bad_byte, number_too_large, unexpected, too_deep, on_line, TextVerdict, Says, Refuses, IsTextVerdict}

-- the laws on texts, tokens and raw programs that are used
pub record TextLaws : Type 0 where
  pub tokens : TextsDetermineTheirTokens
  pub some_tokens : TextsHaveTokensOrAFault
  pub one_fault : TextsHaveOneFault
  pub reads_one : TokensAreOfOneProgram
  pub none_left : NoTokensAreLeft
  pub wrong_once : TokensGoWrongOnce
  pub writable : TextsSayWritablePrograms
  pub resolves : ResolveOrAreRefused
  pub one_program : ResolveToOne
  pub one_refusal : AreRefusedForOne
  pub not_both : ResolvedAreNotRefused

-- a length isn't over a limit and within it
clash : {A : Type 0} (limit n : ℕ) → limit < n → n ≤ limit → A
clash limit n l h = absurd (omega (arith, l, h))

order : (a b : ℕ) → (a ≤ b) ⊎ (b < a)
order a b = grind arith

module _ (laws : TextLaws) (text : List ℕ) where
  -- ---- by the same tokens

  reads_by : (tokens : List Token) → AreTokensOf text tokens → (raw : RawProgram) → IsProgramOf text raw → Reads 0 (lexemes_of text tokens) raw
  reads_by tokens are raw i = subst (λ ts. Reads 0 (lexemes_of text ts) raw) (laws.tokens text i.tokens tokens i.are are) i.reads

  unexpected_by : (tokens : List Token) → AreTokensOf text tokens → (at : ℕ) → IsUnexpectedAt text at → IsUnexpected (lexemes_of text tokens) (length text) at
  unexpected_by tokens are at u = subst (λ ts. IsUnexpected (lexemes_of text ts) (length text) at) (laws.tokens text u.tokens tokens u.are are) u.unexpected

  deep_by : (tokens : List Token) → AreTokensOf text tokens → (at : ℕ) → IsTooDeepAt text at → IsTooDeep (lexemes_of text tokens) at
  deep_by tokens are at u = subst (λ ts. IsTooDeep (lexemes_of text ts) at) (laws.tokens text u.tokens tokens u.are are) u.too_deep

  same_raw : (raw other : RawProgram) → IsProgramOf text raw → IsProgramOf text other → raw ≡ other
  same_raw raw other i j = laws.reads_one 0 (lexemes_of text i.tokens) raw other i.reads (reads_by i.tokens i.are other j)

  faultless : {A : Type 0} (tokens : List Token) → AreTokensOf text tokens → (at : ℕ) → IsFaultyAt BeginsNothing text at ⊎ IsFaultyAt BeginsTooLarge text at → A
  faultless tokens are at h = absurd ((laws.one_fault text).no_tokens at h tokens are)

  not_unexpected : {A : Type 0} (raw : RawProgram) → IsProgramOf text raw → (at : ℕ) → IsUnexpectedAt text at → A
  not_unexpected raw i at u = absurd ((laws.wrong_once (lexemes_of text i.tokens) (length text)).not_read raw i.reads at (inl (unexpected_by i.tokens i.are at u)))

  not_deep : {A : Type 0} (raw : RawProgram) → IsProgramOf text raw → (at : ℕ) → IsTooDeepAt text at → A
  not_deep raw i at u = absurd ((laws.wrong_once (lexemes_of text i.tokens) (length text)).not_read raw i.reads at (inr (deep_by i.tokens i.are at u)))

  not_both_ways : {A : Type 0} (at other : ℕ) → IsUnexpectedAt text at → IsTooDeepAt text other → A
  not_both_ways at other u v = absurd ((laws.wrong_once (lexemes_of text u.tokens) (length text)).not_both at other u.unexpected (deep_by u.tokens u.are other v))

  -- ---- what else a text may say

  only_long : max_text < length text → (v : TextVerdict) → IsTextVerdict text v → Refuses (text_too_long max_text) ≡ v
  only_long l (Says p) h = clash max_text (length text) l h.1.short
  only_long l (Refuses (text_too_long at)) h = ap (λ n. Refuses (text_too_long n)) (sym h.1)
  only_long l (Refuses (bad_byte at)) h = clash max_text (length text) l h.0
  only_long l (Refuses (number_too_large at)) h = clash max_text (length text) l h.0
  only_long l (Refuses (unexpected at)) h = clash max_text (length text) l h.short
  only_long l (Refuses (too_deep at)) h = clash max_text (length text) l h.short
  only_long l (Refuses (on_line fault line)) h = clash max_text (length text) l h.1.short

  only_bad : (at : ℕ) → length text ≤ max_text → IsFaultyAt BeginsNothing text at → (v : TextVerdict) → IsTextVerdict text v → Refuses (bad_byte at) ≡ v
  only_bad at s f (Says p) h = faultless h.1.tokens h.1.are at (inl f)
  only_bad at s f (Refuses (text_too_long other)) h = clash max_text (length text) h.0 s
  only_bad at s f (Refuses (bad_byte other)) h = ap (λ n. Refuses (bad_byte n)) ((laws.one_fault text).bad_byte at other f h.1)
  only_bad at s f (Refuses (number_too_large other)) h = absurd ((laws.one_fault text).not_both at other f h.1)
  only_bad at s f (Refuses (unexpected other)) h = faultless h.tokens h.are at (inl f)
  only_bad at s f (Refuses (too_deep other)) h = faultless h.tokens h.are at (inl f)
  only_bad at s f (Refuses (on_line fault line)) h = faultless h.1.tokens h.1.are at (inl f)

  only_large : (at : ℕ) → length text ≤ max_text → IsFaultyAt BeginsTooLarge text at → (v : TextVerdict) → IsTextVerdict text v → Refuses (number_too_large at) ≡ v
  only_large at s f (Says p) h = faultless h.1.tokens h.1.are at (inr f)
  only_large at s f (Refuses (text_too_long other)) h = clash max_text (length text) h.0 s
  only_large at s f (Refuses (bad_byte other)) h = absurd ((laws.one_fault text).not_both other at h.1 f)
  only_large at s f (Refuses (number_too_large other)) h = ap (λ n. Refuses (number_too_large n)) ((laws.one_fault text).too_large at other f h.1)
  only_large at s f (Refuses (unexpected other)) h = faultless h.tokens h.are at (inr f)
  only_large at s f (Refuses (too_deep other)) h = faultless h.tokens h.are at (inr f)
  only_large at s f (Refuses (on_line fault line)) h = faultless h.1.tokens h.1.are at (inr f)

  only_unexpected : (at : ℕ) → IsUnexpectedAt text at → (v : TextVerdict) → IsTextVerdict text v → Refuses (unexpected at) ≡ v
  only_unexpected at u (Says p) h = not_unexpected h.0 h.1 at u
  only_unexpected at u (Refuses (text_too_long other)) h = clash max_text (length text) h.0 u.short
  only_unexpected at u (Refuses (bad_byte other)) h = faultless u.tokens u.are other (inl h.1)
  only_unexpected at u (Refuses (number_too_large other)) h = faultless u.tokens u.are other (inr h.1)
  only_unexpected at u (Refuses (unexpected other)) h =
      ap (λ n. Refuses (unexpected n)) ((laws.wrong_once (lexemes_of text u.tokens) (length text)).unexpected at other u.unexpected (unexpected_by u.tokens u.are other h))
  only_unexpected at u (Refuses (too_deep other)) h = not_both_ways at other u h
  only_unexpected at u (Refuses (on_line fault line)) h = not_unexpected h.0 h.1 at u

  only_deep : (at : ℕ) → IsTooDeepAt text at → (v : TextVerdict) → IsTextVerdict text v → Refuses (too_deep at) ≡ v
  only_deep at u (Says p) h = not_deep h.0 h.1 at u
  only_deep at u (Refuses (text_too_long other)) h = clash max_text (length text) h.0 u.short
  only_deep at u (Refuses (bad_byte other)) h = faultless u.tokens u.are other (inl h.1)
  only_deep at u (Refuses (number_too_large other)) h = faultless u.tokens u.are other (inr h.1)
  only_deep at u (Refuses (unexpected other)) h = not_both_ways other at h u
  only_deep at u (Refuses (too_deep other)) h =
      ap (λ n. Refuses (too_deep n)) ((laws.wrong_once (lexemes_of text u.tokens) (length text)).too_deep at other u.too_deep (deep_by u.tokens u.are other h))
  only_deep at u (Refuses (on_line fault line)) h = not_deep h.0 h.1 at u

  only_on_line : (fault : TypeFault) (line : ℕ) (raw : RawProgram) → IsProgramOf text raw → IsRefused raw fault line → (v : TextVerdict) → IsTextVerdict text v → Refuses (on_line fault line) ≡ v
  only_on_line fault line raw i r (Says p) h = absurd (laws.not_both raw p fault line (subst (λ w. IsResolved w p) (same_raw h.0 raw h.1 i) h.2) r)
  only_on_line fault line raw i r (Refuses (text_too_long other)) h = clash max_text (length text) h.0 i.short
  only_on_line fault line raw i r (Refuses (bad_byte other)) h = faultless i.tokens i.are other (inl h.1)
  only_on_line fault line raw i r (Refuses (number_too_large other)) h = faultless i.tokens i.are other (inr h.1)
  only_on_line fault line raw i r (Refuses (unexpected other)) h = not_unexpected raw i other h
  only_on_line fault line raw i r (Refuses (too_deep other)) h = not_deep raw i other h
  only_on_line fault line raw i r (Refuses (on_line fault' line')) h =
      let same = laws.one_refusal raw fault fault' line line' r (subst (λ w. IsRefused w fault' line') (same_raw h.0 raw h.1 i) h.2) in
      λ j. Refuses (on_line (same.0 j) (same.1 j))

  only_says : (p : Program) (raw : RawProgram) → IsProgramOf text raw → IsResolved raw p → (v : TextVerdict) → IsTextVerdict text v → Says p ≡ v
  only_says p raw i r (Says q) h = ap Says (laws.one_program raw p q r (subst (λ w. IsResolved w q) (same_raw h.0 raw h.1 i) h.2))
  only_says p raw i r (Refuses (text_too_long other)) h = clash max_text (length text) h.0 i.short
  only_says p raw i r (Refuses (bad_byte other)) h = faultless i.tokens i.are other (inl h.1)
  only_says p raw i r (Refuses (number_too_large other)) h = faultless i.tokens i.are other (inr h.1)
  only_says p raw i r (Refuses (unexpected other)) h = not_unexpected raw i other h
  only_says p raw i r (Refuses (too_deep other)) h = not_deep raw i other h
  only_says p raw i r (Refuses (on_line fault line)) h = absurd (laws.not_both raw p fault line r (subst (λ w. IsRefused w fault line) (same_raw h.0 raw h.1 i) h.2))

  pub one_verdict : (v w : TextVerdict) → IsTextVerdict text v → IsTextVerdict text w → v ≡ w
  one_verdict (Says p) w h k = only_says p h.0 h.1 h.2 w k
  one_verdict (Refuses (text_too_long at)) w h k = ap (λ n. Refuses (text_too_long n)) h.1 ∙ only_long h.0 w k
  one_verdict (Refuses (bad_byte at)) w h k = only_bad at h.0 h.1 w k
  one_verdict (Refuses (number_too_large at)) w h k = only_large at h.0 h.1 w k
  one_verdict (Refuses (unexpected at)) w h k = only_unexpected at h w k
  one_verdict (Refuses (too_deep at)) w h k = only_deep at h w k
  one_verdict (Refuses (on_line fault line)) w h k = only_on_line fault line h.0 h.1 h.2 w k

  -- ---- no text is left without a verdict

  pub none_unjudged : ((v : TextVerdict) → IsTextVerdict text v → ⊥) → ⊥
  none_unjudged never = elim (order (length text) max_text) [
    | inl short ↦ elim (laws.some_tokens text) [
      | inl t ↦ with_tokens short t.0 t.1
      | inr faulty ↦ elim faulty [
        | inl f ↦ never (Refuses (bad_byte f.0)) (short, f.1)
        | inr f ↦ never (Refuses (number_too_large f.0)) (short, f.1)
      ]
    ]
    | inr long ↦ never (Refuses (text_too_long max_text)) (long, refl)
  ]
    where
      with_program : (raw : RawProgram) → IsProgramOf text raw → ⊥
      with_program raw i = elim (laws.resolves raw (laws.writable text raw i).well_formed) [
        | inl p ↦ never (Says p.0) (raw, i, p.1)
        | inr r ↦ never (Refuses (on_line r.0 r.1)) (raw, i, r.2)
      ]

      with_tokens : length text ≤ max_text → (tokens : List Token) → AreTokensOf text tokens → ⊥
      with_tokens short tokens are =
          laws.none_left (lexemes_of text tokens) (length text)
          (λ raw r. with_program raw (record { short = short; tokens = tokens; are = are; reads = r }))
          (λ at u. never (Refuses (unexpected at)) (record { short = short; tokens = tokens; are = are; unexpected = u }))
          (λ at u. never (Refuses (too_deep at)) (record { short = short; tokens = tokens; are = are; too_deep = u }))
