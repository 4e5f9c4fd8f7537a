-- What the grammar says of tokens.
use Rattle.std.specs.Prelude.{◌≡◌, ◌⊎◌, ℕ, zero, suc, ◌<◌, List, [], ◌∷◌, length, pos}
use Rattle.spf_text.specs.declared.token.TokenKind.TheVariants as kind
use Rattle.spf_ast.specs.RawSyntax.{RawProgram}
use Rattle.spf_parse_grammar.specs.Lexemes.{Lexeme}
use Rattle.spf_parse_grammar.specs.Parts.{Part, token, opens, operator, name, number, count, lined, program, Value, Rule, give, part, either}
use Rattle.spf_parse_grammar.specs.Rules.{rule, rank_of}

-- `r ts a us`: the tokens ts begin with those of a, and us come after them
abbrev pub Relation : Type 0 → Type 1
Relation A = List Lexeme → A → List Lexeme → Type 0

-- one token for which this holds
abbrev pub one : {A : Type 0} → (Lexeme → A → Type 0) → Relation A
one P [] a us = ⊥
one P (t ∷ ts) a us = P t a × (us ≡ ts)

-- Only where the count is below the limit. Among the last tokens, of which there are `free`, the limit doesn't bind.
abbrev pub limited : {A : Type 0} → (free so_far limit : ℕ) → Relation A → Relation A
limited free so_far limit r ts a us = (free < length ts → so_far < limit) × r ts a us

-- the line of the next token
abbrev pub line_of : List Lexeme → ℕ
line_of [] = 0
line_of (t ∷ ts) = t.line

-- how many levels of nesting may be open, and how many binary operators an expression may have outside its brackets
abbrev pub max_nesting : ℕ
max_nesting = 64

abbrev pub max_operators : ℕ
max_operators = 32

-- what a rule says, where it is known what its parts say
abbrev pub reads : ((p : Part) → Relation (Value p)) → {A : Type 0} → Rule A → Relation A
reads parts (give a) ts b us = (b ≡ a) × (us ≡ ts)
reads parts (part p r) ts b vs = (x : Value p) × (us : List Lexeme) × parts p ts x us × reads parts (r x) us b vs
reads parts (either r s) ts b us = reads parts r ts b us ⊎ reads parts s ts b us

-- what a part says by a derivation of at most this depth
abbrev pub says : (depth free : ℕ) → (p : Part) → Relation (Value p)
says depth free (token k) = one (λ t line. (t.kind ≡ k) × (line ≡ t.line))
says depth free (opens n s) = limited free n max_nesting (one (λ t x. t.kind ≡ kind.Sign s))
says depth free (operator rank used) = limited free used max_operators (one (λ t s. (t.kind ≡ kind.Sign s) × (rank_of s ≡ rank)))
says depth free name = one (λ t x. (t.kind ≡ kind.Name) × (x ≡ t.bytes))
says depth free number = one (λ t k. t.kind ≡ kind.Number k)
says depth free count = one (λ t k. t.kind ≡ kind.Number (pos k))
says zero free p = λ ts x us. ⊥
says (suc depth) free (lined p) = λ ts x us. (x.0 ≡ line_of ts) × says depth free p ts x.1 us
says (suc depth) free p = reads (says depth free) (rule p)

-- The tokens are those of the program. They keep the limits, but for the last ones, of which there are `free`.
abbrev pub Reads : (free : ℕ) → List Lexeme → RawProgram → Type 0
Reads free ts p = (depth : ℕ) × says depth free program ts p []
