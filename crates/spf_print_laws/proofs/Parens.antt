-- Expressions that begin with a parenthesis: what stands in it is an expression, and the closing one comes after it.
use Rattle.std.proofs.Common.{◌≡◌, ℕ, zero, suc, ◌+◌, ◌<◌, ◌≤◌, Bool, true, false, nat_eq, List, [], ◌∷◌, length, inl, inr, refl, sym, ap, subst, arith}
use Rattle.std.specs.Prelude.{if◌then◌else◌}
use Rattle.spf_text.specs.declared.token.Sign.TheVariants as sign
use Rattle.spf_text.specs.declared.token.TokenKind.TheVariants as kind
use Rattle.spf_ast.specs.RawSyntax.{RawExpression}
use Rattle.spf_parse_grammar.specs.Lexemes.{Lexeme}
use Rattle.spf_parse_grammar.specs.Parts.{Part, token, expression, level, further, compared, operand, Value, Rule, give, part}
use Rattle.spf_parse_grammar.specs.Rules.{rule, all, expression_rule, level_rule, operand_rule}
use Rattle.spf_parse_grammar.specs.Reading.{reads, says, max_nesting}
use Rattle.spf_parse_grammar.specs.Derivations.{Says, Reading}
use Rattle.spf_parse_grammar.proofs.Derivations.{grow, from_rule}
use Rattle.spf_print_laws.proofs.Clear.{IsClosed}
use Rattle.spf_print_laws.proofs.Limits.{shrinks, loosened_rule, shrunk_rule}

-- What a rule says of an opening parenthesis and these tokens: an expression in it, up to the closing one. It says so
-- too under other limits, which the parenthesis and the expression keep and which bind nothing after it.
pub record Inner (depth free n : ℕ) {A : Type 0} (r : Rule A) (ts : List Lexeme) (x : A) (us : List Lexeme) : Type 0 where
  pub a : RawExpression
  pub ms : List Lexeme
  pub limit : free < suc (length ts) → n < max_nesting
  pub inside : says depth free (expression (n + 1)) ts a ms
  pub closed : IsClosed ms
  pub less : length us ≤ length ms
  pub again : (t : Lexeme) (more : ℕ) → t.kind ≡ kind.Sign sign.OpenParen → (more < suc (length ts) → n < max_nesting)
      → Says more (expression (n + 1)) ts a ms → length ms ≤ more → Reading more r (t ∷ ts) x us

-- a part that begins so, and what comes after it
inner_part : (depth free n : ℕ) (p : Part) {A : Type 0} (r : Value p → Rule A) (ts : List Lexeme) (y : Value p) (us : List Lexeme) (x : A) (vs : List Lexeme)
    → Inner depth free n (rule p) ts y us → reads (says (suc depth) free) (r y) us x vs → Inner (suc depth) free n (part p r) ts x vs
inner_part depth free n p r ts y us x vs i d = record {
  a = i.a;
  ms = i.ms;
  limit = i.limit;
  inside = grow depth free (expression (n + 1)) ts i.a i.ms i.inside;
  closed = i.closed;
  less = omega (arith, i.less, shrunk_rule (suc depth) free (r y) us x vs d);
  again = λ t more k l e room. (y, us, from_rule more p (t ∷ ts) y us (i.again t more k l e room), loosened_rule (suc depth) free more (r y) us x vs (omega (arith, i.less, room)) d);
}

-- the closing parenthesis
closed_by : (depth free : ℕ) (ms : List Lexeme) (line : ℕ) (vs : List Lexeme) → says depth free (token (kind.Sign sign.CloseParen)) ms line vs → IsClosed ms
closed_by depth free [] line vs d = elim d [ ]
closed_by depth free (t ∷ ms) line vs d = d.0.0

inner_operand : (depth free n : ℕ) (t : Lexeme) (ts : List Lexeme) (x : RawExpression) (us : List Lexeme) → t.kind ≡ kind.Sign sign.OpenParen
    → reads (says depth free) (operand_rule n) (t ∷ ts) x us → Inner depth free n (operand_rule n) ts x us
inner_operand depth free n t ts x us k (inl d) = let e = d.2.0 in cc
inner_operand depth free n t ts x us k (inr (inl d)) = let e = d.2.0.0 in cc
inner_operand depth free n t ts x us k (inr (inr (inl d))) = let e = d.2.0.0 in cc
inner_operand depth free n t ts x us k (inr (inr (inr (inl d)))) = let e = d.2.0.0 in cc
inner_operand depth free n t ts x us k (inr (inr (inr (inr (inl d))))) = let e = d.2.1.0 in cc
inner_operand depth free n t ts x us k (inr (inr (inr (inr (inr (inl d)))))) = let e = d.2.1.0 in cc
inner_operand depth free n t ts x us k (inr (inr (inr (inr (inr (inr d)))))) =
    let same = d.2.1.1 in
    let f = d.3 in
    let g = f.3 in
    record {
      a = f.0;
      ms = f.1;
      limit = λ bound. d.2.0 bound;
      inside = subst (λ l. says depth free (expression (n + 1)) l f.0 f.1) same f.2;
      closed = closed_by depth free f.1 g.0 g.1 g.2;
      less = omega (arith, shrinks depth free (token (kind.Sign sign.CloseParen)) f.1 g.0 g.1 g.2, ap length g.3.1);
      again = λ t' more k' l e room. inr (inr (inr (inr (inr (inr (tt, ts, (0, ((λ bound. l bound), (k', refl))), (f.0, f.1, e, (g.0, g.1, (depth, g.2), g.3))))))));
    }

-- an expression of a rank, by that of the next tighter one
abbrev of_rank : (n rank used : ℕ) → Bool → Rule (RawExpression × ℕ)
of_rank n rank used b =
    if b then part (level n rank used) (λ x. all (compared n rank x.0 x.1)) else part (level n rank used) (λ x. all (further n rank x.0 x.1))

inner_rank : (depth free n rank used : ℕ) (b : Bool) (t : Lexeme) (ts : List Lexeme)
    → ((y : RawExpression × ℕ) (vs : List Lexeme) → says (suc depth) free (level n rank used) (t ∷ ts) y vs → Inner depth free n (level_rule n rank used) ts y vs)
    → (x : RawExpression × ℕ) (us : List Lexeme) → reads (says (suc depth) free) (of_rank n rank used b) (t ∷ ts) x us → Inner (suc depth) free n (of_rank n rank used b) ts x us
inner_rank depth free n rank used true t ts h x us d = inner_part depth free n (level n rank used) (λ x. all (compared n rank x.0 x.1)) ts d.0 d.1 x us (h d.0 d.1 d.2) d.3
inner_rank depth free n rank used false t ts h x us d = inner_part depth free n (level n rank used) (λ x. all (further n rank x.0 x.1)) ts d.0 d.1 x us (h d.0 d.1 d.2) d.3

no_rank : (free n rank used : ℕ) (b : Bool) (ts : List Lexeme) (x : RawExpression × ℕ) (us : List Lexeme) → reads (says zero free) (of_rank n rank used b) ts x us → ⊥
no_rank free n rank used true ts x us d = elim d.2 [ ]
no_rank free n rank used false ts x us d = elim d.2 [ ]

inner_level : (depth free n rank used : ℕ) (t : Lexeme) (ts : List Lexeme) (x : RawExpression × ℕ) (us : List Lexeme) → t.kind ≡ kind.Sign sign.OpenParen
    → reads (says depth free) (level_rule n rank used) (t ∷ ts) x us → Inner depth free n (level_rule n rank used) ts x us
inner_level zero free n zero used t ts x us k d = elim d.2 [ ]
inner_level (suc depth) free n zero used t ts x us k d =
    inner_part depth free n (operand n) (λ a. give (a, used)) ts d.0 d.1 x us (inner_operand depth free n t ts d.0 d.1 k d.2) d.3
inner_level zero free n (suc rank) used t ts x us k d = absurd (no_rank free n rank used (nat_eq rank 6) (t ∷ ts) x us d)
inner_level (suc depth) free n (suc rank) used t ts x us k d =
    inner_rank depth free n rank used (nat_eq rank 6) t ts (λ y vs e. inner_level depth free n rank used t ts y vs k e) x us d

pub inner_expression : (depth free n : ℕ) (t : Lexeme) (ts : List Lexeme) (x : RawExpression) (us : List Lexeme) → t.kind ≡ kind.Sign sign.OpenParen
    → reads (says depth free) (expression_rule n) (t ∷ ts) x us → Inner depth free n (expression_rule n) ts x us
inner_expression zero free n t ts x us k d = elim d.2 [ ]
inner_expression (suc depth) free n t ts x us k d =
    inner_part depth free n (level n 9 0) (λ x. give x.0) ts d.0 d.1 x us (inner_level depth free n 9 0 t ts d.0 d.1 k d.2) d.3

-- the same, of a deeper derivation
pub inner_grow : (depth free n : ℕ) {A : Type 0} (r : Rule A) (ts : List Lexeme) (x : A) (us : List Lexeme) → Inner depth free n r ts x us → Inner (suc depth) free n r ts x us
inner_grow depth free n r ts x us i = record {
  a = i.a;
  ms = i.ms;
  limit = i.limit;
  inside = grow depth free (expression (n + 1)) ts i.a i.ms i.inside;
  closed = i.closed;
  less = i.less;
  again = i.again;
}
