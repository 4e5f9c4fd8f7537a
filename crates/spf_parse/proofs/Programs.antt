-- What is left of arrays, functions and programs.
use Rattle.std.proofs.Common.{◌≡◌, ℕ, zero, suc, ◌<◌, ◌≤◌, Bool, true, false, pos, List, [], ◌∷◌, ◌++◌, length, refl, sym, ◌∙◌, ap, subst, arith, Some, None, get_or, drop}
use Rattle.std.proofs.lemmas.List.{append-nil}
use Rattle.spf_text.specs.declared.token.Keyword.{Keyword}
use Rattle.spf_text.specs.declared.token.Keyword.TheVariants as word
use Rattle.spf_text.specs.declared.token.Sign.{Sign}
use Rattle.spf_text.specs.declared.token.Sign.TheVariants as sign
use Rattle.spf_text.specs.declared.token.TokenKind.{TokenKind}
use Rattle.spf_text.specs.declared.token.TokenKind.TheVariants as kind
use Rattle.spf_ast.specs.Syntax.{Array}
use Rattle.spf_ast.specs.RawSyntax.{RawFunction, RawProgram}
use Rattle.spf_parse_grammar.specs.declared.Lexeme as code
use Rattle.spf_parse_grammar.specs.Lexemes.{Lexeme, lexemes}
use Rattle.spf_parse_grammar.specs.Texts.{offset}
use Rattle.spf_parse_grammar.specs.Parts.{token, many, header, array, function, block, program, Rule, give, part, either}
use Rattle.spf_parse_grammar.specs.Rules.{all, version_rule, has_breaks}
use Rattle.spf_parse_grammar.specs.Derivations.{Says}
use Rattle.spf_parse_parts.specs.Answers.{ahead, reach, Stops, Leads, Faults}
use Rattle.spf_parse_parts.proofs.Follows.{Follows}
use Rattle.spf_parse_parts.proofs.Steps.{start, unfold_part, not_first, not_second, decide, cannot}
use Rattle.spf_parse_parts.proofs.Beginnings.{begins_is, stops_all}
use Rattle.spf_parse_parts.proofs.Expressions.{many_next, many_done, token_first}
use Rattle.spf_parse_parts.proofs.Statements.{NeverEmpty}

-- ---- arrays and functions

pub array_some : NeverEmpty array
array_some free y ws d = let f : false ≡ true = begins_is 14 free array [] y ws d in absurd cc

pub function_some : (breaks : Bool) → NeverEmpty (function breaks)
function_some breaks free y ws d = let f : false ≡ true = begins_is 14 free (function breaks) [] y ws d in absurd cc

array_never : (us : List Lexeme) → (ahead us ≡ Some (kind.Keyword word.Array) → ⊥) → (free : ℕ) (k : List Lexeme) (x : Array) (ws : List Lexeme) → ahead k ≡ ahead us → Says free array k x ws → ⊥
array_never us never free k x ws same (zero, d) = elim d [ ]
array_never us never free [] x ws same (suc depth, d) = elim d.2 [ ]
array_never us never free (t ∷ k) x ws same (suc depth, d) = never (sym same ∙ ap Some d.2.0.0)

function_never : (breaks : Bool) (us : List Lexeme) → (ahead us ≡ Some (kind.Keyword word.Fn) → ⊥) → (free : ℕ) (k : List Lexeme) (x : RawFunction) (ws : List Lexeme) → ahead k ≡ ahead us → Says free (function breaks) k x ws → ⊥
function_never breaks us never free k x ws same (zero, d) = elim d [ ]
function_never breaks us never free [] x ws same (suc depth, d) = elim d.2 [ ]
function_never breaks us never free (t ∷ k) x ws same (suc depth, d) = never (sym same ∙ ap Some d.2.0.0)

abbrev pub last_of : {A : Type 0} → List A → List A → Rule (List A)
last_of before more = give (before ++ more)

pub next_array : {F : Rule (List Array)} {ts us : List Lexeme} (before : List Array) → ahead us ≡ Some (kind.Keyword word.Array) → Leads 12 F ts (part (many array) (last_of before)) us → Leads 12 F ts (part array (λ x. part (many array) (λ more. last_of before (x ∷ more)))) us
next_array {us = us} before is l = many_next (cannot 12 (give (before ++ [])) (Some (kind.Keyword word.Array)) us is refl) l

pub arrays_done : {F : Rule (List Array)} {ts us : List Lexeme} (before : List Array) → (ahead us ≡ Some (kind.Keyword word.Array) → ⊥) → Leads 12 F ts (part (many array) (last_of before)) us → Leads 12 F ts (give before) us
arrays_done {F} {ts} {us} before never l = subst (λ b. Leads 12 F ts (give b) us) (append-nil before) (many_done {K = last_of before} (array_never us never) l)

pub next_function : {F : Rule (List RawFunction)} {ts us : List Lexeme} (breaks : Bool) (before : List RawFunction) → ahead us ≡ Some (kind.Keyword word.Fn) → Leads 13 F ts (part (many (function breaks)) (last_of before)) us → Leads 13 F ts (part (function breaks) (λ x. part (many (function breaks)) (λ more. last_of before (x ∷ more)))) us
next_function {us = us} breaks before is l = many_next (cannot 13 (give (before ++ [])) (Some (kind.Keyword word.Fn)) us is refl) l

pub functions_done : {F : Rule (List RawFunction)} {ts us : List Lexeme} (breaks : Bool) (before : List RawFunction) → (ahead us ≡ Some (kind.Keyword word.Fn) → ⊥) → Leads 13 F ts (part (many (function breaks)) (last_of before)) us → Leads 13 F ts (give before) us
functions_done {F} {ts} {us} breaks before never l = subst (λ b. Leads 13 F ts (give b) us) (append-nil before) (many_done {K = last_of before} (function_never breaks us never) l)

-- ---- headers

abbrev pub after_version : ℕ → Rule ℕ
after_version l = either (version_rule 1) (version_rule 2)

pub no_header : {ts : List Lexeme} → (ahead ts ≡ Some (kind.Keyword word.Version) → ⊥) → Leads 11 (all header) ts (give 1) ts
no_header {ts} never = not_second {R = give 1} {S = part (token (kind.Keyword word.Version)) after_version} (λ free k b vs same d s. token_first (kind.Keyword word.Version) ts never after_version free k b vs same d) (unfold_part header (λ x. give x) start)

pub some_header : {ts : List Lexeme} → ahead ts ≡ Some (kind.Keyword word.Version) → Leads 11 (all header) ts (part (token (kind.Keyword word.Version)) after_version) ts
some_header is = decide (Some (kind.Keyword word.Version)) is _ (unfold_part header (λ x. give x) start)

abbrev pub version_end : ℕ → ℕ → Rule ℕ
version_end v l = part (token (kind.Sign sign.Semicolon)) (λ m. give v)

one_two : Some (kind.Number (pos 1)) ≡ Some (kind.Number (pos 2)) → ⊥
one_two h =
    let f : kind.Number (pos 1) ≡ kind.Number (pos 2) = cc in
    let g : pos 1 ≡ pos 2 = cc in
    let e : ◌≡◌ {A = ℕ} 1 2 = cc in
    omega (arith, e)

pub first_version : {F : Rule ℕ} {ts us : List Lexeme} → ahead us ≡ Some (kind.Number (pos 1)) → Leads 11 F ts (either (version_rule 1) (version_rule 2)) us → Leads 11 F ts (version_rule 1) us
first_version {us = us} is l = not_second {R = version_rule 1} {S = version_rule 2} (λ free k b vs same d s. token_first (kind.Number (pos 2)) us (λ h. one_two (sym is ∙ h)) (version_end 2) free k b vs same d) l

pub second_version : {F : Rule ℕ} {ts us : List Lexeme} → (ahead us ≡ Some (kind.Number (pos 1)) → ⊥) → Leads 11 F ts (either (version_rule 1) (version_rule 2)) us → Leads 11 F ts (version_rule 2) us
second_version {us = us} never l = not_first {R = version_rule 1} {S = version_rule 2} (λ free k b vs same d s. token_first (kind.Number (pos 1)) us never (version_end 1) free k b vs same d) l

-- ---- programs

-- what stops a header stands at the front of each later part
pub header_follows : (v : ℕ) → Follows 11 0 {A = RawProgram} (part (many array) (λ arrays. part (many (function (has_breaks v))) (λ functions. part (token (kind.Keyword word.Main)) (λ l. part (block (has_breaks v) 0) (λ b. give (record { version = v; arrays = arrays; functions = functions; main = b; main_line = l }))))))
header_follows v = (omega arith, λ x. (omega arith, λ y. omega arith))

reach_most : (k : TokenKind) → reach k ≤ 14
reach_most kind.Name = omega arith
reach_most (kind.Number n) = omega arith
reach_most (kind.Keyword w) = word_most w
  where
    word_most : (w : Keyword) → reach (kind.Keyword w) ≤ 14
    word_most word.Let = omega arith
    word_most w = omega arith
reach_most (kind.Sign s) = sign_most s
  where
    sign_most : (s : Sign) → reach (kind.Sign s) ≤ 14
    sign_most sign.OpenParen = omega arith
    sign_most s = omega arith

only_end : (vs : List Lexeme) → Stops 14 vs → vs ≡ []
only_end [] s = refl
only_end (t ∷ vs) s = absurd (omega (arith, s, reach_most t.kind))

same_empty : (rest k : List Lexeme) → (rest ≡ [] → ⊥) → ahead k ≡ ahead rest → k ≡ [] → ⊥
same_empty [] k never same is = never refl
same_empty (t ∷ rest) k never same is = let h : None ≡ Some t.kind = ap ahead (sym is) ∙ same in absurd cc

pub program_more : {ts rest : List Lexeme} {p : RawProgram} → Leads 0 (all program) ts (give p) rest → (rest ≡ [] → ⊥) → Faults false 14 (all program) ts (length rest)
program_more {ts} {rest} {p} l never = record {
  read = l.read;
  rest = rest;
  split = l.split;
  left_is = refl;
  more = [];
  value = p;
  begins = tt;
  viable = λ free k room. l.into free k p k (refl, refl);
  dead = λ free k b vs binds same x s. same_empty rest k never same (sym (l.only free k b vs same x (stops_all vs)).1 ∙ only_end vs s);
}

pub offset_at : (end n : ℕ) (ts : List code.Lexeme) (d : code.Lexeme) → n < length ts → (get_or ts n d).from ≡ offset end (drop n (lexemes ts))
offset_at end n [] d h = absurd (omega (arith, h))
offset_at end zero (t ∷ ts) d h = refl
offset_at end (suc n) (t ∷ ts) d h = offset_at end n ts d (omega (arith, h))
