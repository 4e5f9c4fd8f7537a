-- Expressions, as the grammar reads their lexemes.
use Rattle.std.proofs.Common.{◌≡◌, ◌≢◌, ℕ, zero, suc, ◌+◌, ◌-◌, ◌≤◌, Bool, true, false, nat_lt, nat_eq, if◌then◌else◌, List, [], ◌∷◌, ◌++◌, length, refl, sym, ap, subst, arith, inl, inr, ℤ}
use Rattle.std.proofs.lemmas.Bool.{cases_lt, ltb-false, eqb-false}
use Rattle.spf_text.specs.declared.token.Keyword.TheVariants as word
use Rattle.spf_text.specs.declared.token.Sign.{Sign}
use Rattle.spf_text.specs.declared.token.Sign.TheVariants as sign
use Rattle.spf_text.specs.declared.token.TokenKind.TheVariants as kind
use Rattle.spf_text.specs.Tokens.{Piece, sign_spelling, word_spelling}
use Rattle.spf_ast.specs.declared.syntax.Op.{Op}
use Rattle.spf_ast.specs.declared.syntax.Op.TheVariants as op
use Rattle.spf_ast.specs.declared.syntax.Test.{Test}
use Rattle.spf_ast.specs.declared.syntax.Test.TheVariants as test
use Rattle.spf_ast.specs.RawSyntax.{RawExpression, Number, Local, Len, Input, Load, Call, Neg, Binary, Compare, Both, Either, Not, RawArguments, no_more, argument, arguments_of}
use Rattle.spf_print_forms.specs.Canonical.{op_level, comparison_level, unary_level}
use Rattle.spf_print_forms.specs.Canonical as text
use Rattle.spf_parse_grammar.specs.Lexemes.{Lexeme}
use Rattle.spf_parse_grammar.specs.Parts.{token, opens, give, many, expression, level, further, compared, operand, arguments, next_argument, Rule}
use Rattle.spf_parse_grammar.specs.Rules.{rank_of, joined}
use Rattle.spf_print_laws.proofs.Pieces.{s, spaced, enclosed, of_expression, of_arguments, of_further}
use Rattle.spf_print_laws.proofs.Lexing.{Takes, takes-append, Said, Told, done, andthen, first_of, second_of, by_rule, token_step, opens_step, operator_step, name_step, number_step}

-- how loosely an expression binds, as the grammar counts it
abbrev pub rank : RawExpression → ℕ
rank e = 10 - text.level e

-- an expression is read as one of this rank
pub record At (free n r used : ℕ) (ts : List Lexeme) (e : RawExpression) (us : List Lexeme) : Type 0 where
  pub after : ℕ
  pub said : Said free (level n r used) ts (e, after) us

-- an expression is read as the first operands of one of this rank, whatever operators follow
pub record Leading (free n r used : ℕ) (ts : List Lexeme) (e : RawExpression) (us : List Lexeme) : Type 0 where
  pub after : ℕ
  pub on : (x : RawExpression × ℕ) (vs : List Lexeme) → Said free (further n r e after) us x vs → Said free (level n (suc r) used) ts x vs
  pub less : length us ≤ length ts

-- what is known of an expression's lexemes
pub record Facts (free : ℕ) (e : RawExpression) : Type 0 where
  pub at : (n r used : ℕ) (ts us : List Lexeme) → Takes (of_expression e) ts us → length ts ≤ free → rank e ≤ r → At free n r used ts e us
  pub leading : (n r used : ℕ) (ts us : List Lexeme) → Takes (of_expression e) ts us → length ts ≤ free → rank e ≤ suc r → nat_eq r 6 ≡ false → Leading free n r used ts e us
  pub alone : (n : ℕ) (ts us : List Lexeme) → Takes (of_expression e) ts us → length ts ≤ free → unary_level ≤ text.level e → Said free (operand n) ts e us

-- no lexemes are left to read
pub done_at : {free : ℕ} {A : Type 0} {a : A} {ts us : List Lexeme} → ts ≡ us → Told free (give a) ts a us
done_at {free} {A} {a} {ts} {us} e = subst (λ x. Told free (give a) ts a x) e done

-- ---- from one rank to looser ones

either_rule : {A : Type 0} {free : ℕ} (b : Bool) (x y : Rule A) (ts : List Lexeme) (v : A) (us : List Lexeme) → Told free x ts v us → Told free y ts v us → Told free (if b then x else y) ts v us
either_rule true x y ts v us h k = h
either_rule false x y ts v us h k = k

second_rule : {A : Type 0} {free : ℕ} (b : Bool) (x y : Rule A) (ts : List Lexeme) (v : A) (us : List Lexeme) → b ≡ false → Told free y ts v us → Told free (if b then x else y) ts v us
second_rule true x y ts v us e k = cc
second_rule false x y ts v us e k = k

-- nothing follows
none_further : (free n r used : ℕ) (e : RawExpression) (us : List Lexeme) → Said free (further n r e used) us (e, used) us
none_further free n r used e us = by_rule free (further n r e used) us (e, used) us (first_of done)

none_compared : (free n r used : ℕ) (e : RawExpression) (us : List Lexeme) → Said free (compared n r e used) us (e, used) us
none_compared free n r used e us = by_rule free (compared n r e used) us (e, used) us (first_of done)

climb_one : (free n r used : ℕ) (ts us : List Lexeme) (e : RawExpression) → At free n r used ts e us → At free n (suc r) used ts e us
climb_one free n r used ts us e h = record {
  after = h.after;
  said = by_rule free (level n (suc r) used) ts (e, h.after) us (either_rule (nat_eq r 6) _ _ ts (e, h.after) us (andthen h.said (andthen (none_compared free n r h.after e us) done)) (andthen h.said (andthen (none_further free n r h.after e us) done)));
}

climb : (k : ℕ) (free n r used : ℕ) (ts us : List Lexeme) (e : RawExpression) → At free n r used ts e us → At free n (k + r) used ts e us
climb zero free n r used ts us e h = let same : r ≡ 0 + r = omega arith in subst (λ q. At free n q used ts e us) same h
climb (suc k) free n r used ts us e h = let same : suc (k + r) ≡ suc k + r = omega arith in subst (λ q. At free n q used ts e us) same (climb_one free n (k + r) used ts us e (climb k free n r used ts us e h))

climb_to : (free n r q used : ℕ) (ts us : List Lexeme) (e : RawExpression) → r ≤ q → At free n r used ts e us → At free n q used ts e us
climb_to free n r q used ts us e l h = let same : (q - r) + r ≡ q = omega (arith, l) in subst (λ k. At free n k used ts e us) same (climb (q - r) free n r used ts us e h)

leads : (free n r used : ℕ) (ts us : List Lexeme) (e : RawExpression) → nat_eq r 6 ≡ false → At free n r used ts e us → Leading free n r used ts e us
leads free n r used ts us e six h = record {
  after = h.after;
  on = λ x vs f. by_rule free (level n (suc r) used) ts x vs (second_rule (nat_eq r 6) _ _ ts x vs six (andthen h.said (andthen f done)));
  less = h.said.less;
}

at_end : (free n r used : ℕ) (ts us : List Lexeme) (e : RawExpression) → Leading free n r used ts e us → At free n (suc r) used ts e us
at_end free n r used ts us e h = record { after = h.after; said = h.on (e, h.after) us (none_further free n r h.after e us) }

-- ---- operands

-- an operand has every rank
operand_at : (free n r used : ℕ) (ts us : List Lexeme) (e : RawExpression) → Said free (operand n) ts e us → At free n r used ts e us
operand_at free n r used ts us e h =
    climb_to free n 0 r used ts us e (omega arith) (record { after = used; said = by_rule free (level n 0 used) ts (e, used) us (andthen h done) })

-- what is known of an operand
of_operand : (free : ℕ) (e : RawExpression) → ((n : ℕ) (ts us : List Lexeme) → Takes (of_expression e) ts us → length ts ≤ free → Said free (operand n) ts e us) → Facts free e
of_operand free e h = record {
  at = λ n r used ts us t room l. operand_at free n r used ts us e (h n ts us t room);
  leading = λ n r used ts us t room l six. leads free n r used ts us e six (operand_at free n r used ts us e (h n ts us t room));
  alone = λ n ts us t room l. h n ts us t room;
}

-- every expression has a rank
level_some : (e : RawExpression) → 1 ≤ text.level e
level_some (Either a b) = omega arith
level_some (Both a b) = omega arith
level_some (Compare test a b) = omega arith
level_some (Binary op.Or a b) = omega arith
level_some (Binary op.Xor a b) = omega arith
level_some (Binary op.And a b) = omega arith
level_some (Binary op.Shl a b) = omega arith
level_some (Binary op.Shr a b) = omega arith
level_some (Binary op.Add a b) = omega arith
level_some (Binary op.Sub a b) = omega arith
level_some (Binary op.Mul a b) = omega arith
level_some (Binary op.Div a b) = omega arith
level_some (Binary op.Rem a b) = omega arith
level_some (Neg a) = omega arith
level_some (Not a) = omega arith
level_some (Number n) = omega arith
level_some (Local x) = omega arith
level_some Len = omega arith
level_some (Input i) = omega arith
level_some (Load a i) = omega arith
level_some (Call f g) = omega arith

rank_most : (m : ℕ) → 1 ≤ m → 10 - m ≤ 9
rank_most m l = omega (arith, l)

-- a whole expression
pub whole : (free : ℕ) (e : RawExpression) → Facts free e → (n : ℕ) (ts us : List Lexeme) → Takes (of_expression e) ts us → length ts ≤ free → Said free (expression n) ts e us
whole free e h n ts us t room =
    let a = h.at n 9 0 ts us t room (rank_most (text.level e) (level_some e)) in
    by_rule free (expression n) ts e us (andthen a.said done)

-- in parentheses
parens : (free : ℕ) (e : RawExpression) → Facts free e → (n : ℕ) (ts us : List Lexeme) → Takes (enclosed true (of_expression e)) ts us → length ts ≤ free → Said free (operand n) ts e us
parens free e h n ts us t room =
    let o = opens_step free n sign.OpenParen _ (of_expression e ++ s sign.CloseParen ∷ []) ts us room t in
    let m = takes-append (of_expression e) (s sign.CloseParen ∷ []) o.rest us o.behind in
    let inner = whole free e h (n + 1) o.rest m.0 m.1 o.room in
    let c = token_step free (kind.Sign sign.CloseParen) (sign_spelling sign.CloseParen) [] m.0 us (omega (arith, o.room, inner.less)) m.2 in
    by_rule free (operand n) ts e us (second_of (second_of (second_of (second_of (second_of (second_of (andthen o.said (andthen inner (andthen c.said (done_at c.behind))))))))))

-- ---- operands of operators

reaches : (m l : ℕ) → nat_lt m l ≡ false → l ≤ m
reaches m l h = ltb-false m l h

rank_within : (m l r : ℕ) → l ≤ m → 10 - l ≤ r → 10 - m ≤ r
rank_within m l r h k = omega (arith, h, k)

-- an operand that may stand without parentheses from a level on
side_at : (free : ℕ) (e : RawExpression) → Facts free e → (l n r used : ℕ) (f : Bool) → f ≡ nat_lt (text.level e) l → (ts us : List Lexeme) → Takes (enclosed f (of_expression e)) ts us → length ts ≤ free → 10 - l ≤ r → At free n r used ts e us
side_at free e h l n r used true same ts us t room k = operand_at free n r used ts us e (parens free e h n ts us t room)
side_at free e h l n r used false same ts us t room k = h.at n r used ts us t room (rank_within (text.level e) l r (reaches (text.level e) l (sym same)) k)

side_leading : (free : ℕ) (e : RawExpression) → Facts free e → (l n r used : ℕ) (f : Bool) → f ≡ nat_lt (text.level e) l → (ts us : List Lexeme) → Takes (enclosed f (of_expression e)) ts us → length ts ≤ free → 10 - l ≤ suc r → nat_eq r 6 ≡ false → Leading free n r used ts e us
side_leading free e h l n r used true same ts us t room k six = leads free n r used ts us e six (operand_at free n r used ts us e (parens free e h n ts us t room))
side_leading free e h l n r used false same ts us t room k six = h.leading n r used ts us t room (rank_within (text.level e) l (suc r) (reaches (text.level e) l (sym same)) k) six

side_alone : (free : ℕ) (e : RawExpression) → Facts free e → (n : ℕ) (f : Bool) → f ≡ nat_lt (text.level e) unary_level → (ts us : List Lexeme) → Takes (enclosed f (of_expression e)) ts us → length ts ≤ free → Said free (operand n) ts e us
side_alone free e h n true same ts us t room = parens free e h n ts us t room
side_alone free e h n false same ts us t room = h.alone n ts us t room (reaches (text.level e) unary_level (sym same))

-- ---- operators

-- the two sides of an operator, with the pieces between them
abbrev pub sides : ℕ → ℕ → Sign → RawExpression → RawExpression → List Piece
sides l m x a b = enclosed (nat_lt (text.level a) l) (of_expression a) ++ (spaced x ++ enclosed (nat_lt (text.level b) m) (of_expression b))

infix_leading : (free : ℕ) (a b : RawExpression) → Facts free a → Facts free b → (x : Sign) (l n r used : ℕ) → rank_of x ≡ suc r → l + r ≡ 9 → nat_eq r 6 ≡ false → (ts us : List Lexeme) → Takes (sides l (l + 1) x a b) ts us → length ts ≤ free → Leading free n r used ts (joined x a b) us
infix_leading free a b ha hb x l n r used ranked total six ts us t room =
    let m = takes-append (enclosed (nat_lt (text.level a) l) (of_expression a)) (spaced x ++ enclosed (nat_lt (text.level b) (l + 1)) (of_expression b)) ts us t in
    let left = side_leading free a ha l n r used (nat_lt (text.level a) l) refl ts m.0 m.1 room (omega (arith, total)) six in
    let o = operator_step free (suc r) left.after x (sign_spelling x) (enclosed (nat_lt (text.level b) (l + 1)) (of_expression b)) m.0 us ranked (omega (arith, room, left.less)) m.2 in
    let right = side_at free b hb (l + 1) n r (left.after + 1) (nat_lt (text.level b) (l + 1)) refl o.rest us o.behind o.room (omega (arith, total)) in
    record {
      after = right.after;
      on = λ v vs f. left.on v vs (by_rule free (further n r a left.after) m.0 v vs (second_of (andthen o.said (andthen right.said (andthen f done)))));
      less = omega (arith, right.said.less, o.said.less, left.less);
    }

level_leading : (free : ℕ) (e : RawExpression) (q : ℕ) → ((n used : ℕ) (ts us : List Lexeme) → Takes (of_expression e) ts us → length ts ≤ free → Leading free n q used ts e us) → (n r used : ℕ) (ts us : List Lexeme) → Takes (of_expression e) ts us → length ts ≤ free → q ≤ r → nat_eq r 6 ≡ false → Leading free n r used ts e us
level_leading free e q h n r used ts us t room l six = elim (cases_lt q r) [
  | inl below ↦ leads free n r used ts us e six (climb_to free n (suc q) r used ts us e (omega (arith, below)) (at_end free n q used ts us e (h n used ts us t room)))
  | inr above ↦ (let same : q ≡ r = omega (arith, l, above) in subst (λ k. Leading free n k used ts e us) same (h n used ts us t room))
]

-- what is known of two operands with an operator between them
of_infix : (free : ℕ) (a b e : RawExpression) → Facts free a → Facts free b → (x : Sign) (l r : ℕ) → rank_of x ≡ suc r → l + r ≡ 9 → nat_eq r 6 ≡ false → joined x a b ≡ e → text.level e ≡ l → ((ts us : List Lexeme) → Takes (of_expression e) ts us → Takes (sides l (l + 1) x a b) ts us) → Facts free e
of_infix free a b e ha hb x l r ranked total six same high parts =
    let first : (n used : ℕ) (ts us : List Lexeme) → Takes (of_expression e) ts us → length ts ≤ free → Leading free n r used ts e us = λ n used ts us t room. subst (λ v. Leading free n r used ts v us) same (infix_leading free a b ha hb x l n r used ranked total six ts us (parts ts us t) room) in
    record {
      at = λ n q used ts us t room k. climb_to free n (suc r) q used ts us e (omega (arith, k, high, total)) (at_end free n r used ts us e (first n used ts us t room));
      leading = λ n q used ts us t room k. level_leading free e r first n q used ts us t room (omega (arith, k, high, total));
      alone = λ n ts us t room k. absurd (omega (arith, k, high, total));
    }

compared_at : (free : ℕ) (a b : RawExpression) → Facts free a → Facts free b → (x : Sign) (n used : ℕ) → rank_of x ≡ 7 → (ts us : List Lexeme) → Takes (sides 4 4 x a b) ts us → length ts ≤ free → At free n 7 used ts (joined x a b) us
compared_at free a b ha hb x n used ranked ts us t room =
    let m = takes-append (enclosed (nat_lt (text.level a) 4) (of_expression a)) (spaced x ++ enclosed (nat_lt (text.level b) 4) (of_expression b)) ts us t in
    let left = side_at free a ha 4 n 6 used (nat_lt (text.level a) 4) refl ts m.0 m.1 room (omega arith) in
    let o = operator_step free 7 left.after x (sign_spelling x) (enclosed (nat_lt (text.level b) 4) (of_expression b)) m.0 us ranked (omega (arith, room, left.said.less)) m.2 in
    let right = side_at free b hb 4 n 6 (left.after + 1) (nat_lt (text.level b) 4) refl o.rest us o.behind o.room (omega arith) in
    let behind = by_rule free (compared n 6 a left.after) m.0 (joined x a b, right.after) us (second_of (andthen o.said (andthen right.said done))) in
    record { after = right.after; said = by_rule free (level n 7 used) ts (joined x a b, right.after) us (andthen left.said (andthen behind done)) }

past_six : (r : ℕ) → nat_eq r 6 ≡ false → 6 ≤ r → 7 ≤ r
past_six r h l = let differs : r ≢ 6 = eqb-false r 6 h in omega (arith, differs, l)

of_compare : (free : ℕ) (a b e : RawExpression) → Facts free a → Facts free b → (x : Sign) → rank_of x ≡ 7 → joined x a b ≡ e → text.level e ≡ 3 → ((ts us : List Lexeme) → Takes (of_expression e) ts us → Takes (sides 4 4 x a b) ts us) → Facts free e
of_compare free a b e ha hb x ranked same high parts =
    let first : (n used : ℕ) (ts us : List Lexeme) → Takes (of_expression e) ts us → length ts ≤ free → At free n 7 used ts e us = λ n used ts us t room. subst (λ v. At free n 7 used ts v us) same (compared_at free a b ha hb x n used ranked ts us (parts ts us t) room) in
    record {
      at = λ n q used ts us t room k. climb_to free n 7 q used ts us e (omega (arith, k, high)) (first n used ts us t room);
      leading = λ n q used ts us t room k six. leads free n q used ts us e six (climb_to free n 7 q used ts us e (past_six q six (omega (arith, k, high))) (first n used ts us t room));
      alone = λ n ts us t room k. absurd (omega (arith, k, high));
    }

of_binary : (free : ℕ) (o : Op) (a b : RawExpression) → Facts free a → Facts free b → Facts free (Binary o a b)
of_binary free op.Add a b ha hb = of_infix free a b (Binary op.Add a b) ha hb sign.Plus 8 1 refl refl refl refl refl (λ ts us t. t)
of_binary free op.Sub a b ha hb = of_infix free a b (Binary op.Sub a b) ha hb sign.Minus 8 1 refl refl refl refl refl (λ ts us t. t)
of_binary free op.Mul a b ha hb = of_infix free a b (Binary op.Mul a b) ha hb sign.Star 9 0 refl refl refl refl refl (λ ts us t. t)
of_binary free op.Div a b ha hb = of_infix free a b (Binary op.Div a b) ha hb sign.Slash 9 0 refl refl refl refl refl (λ ts us t. t)
of_binary free op.Rem a b ha hb = of_infix free a b (Binary op.Rem a b) ha hb sign.Percent 9 0 refl refl refl refl refl (λ ts us t. t)
of_binary free op.And a b ha hb = of_infix free a b (Binary op.And a b) ha hb sign.And 6 3 refl refl refl refl refl (λ ts us t. t)
of_binary free op.Or a b ha hb = of_infix free a b (Binary op.Or a b) ha hb sign.Or 4 5 refl refl refl refl refl (λ ts us t. t)
of_binary free op.Xor a b ha hb = of_infix free a b (Binary op.Xor a b) ha hb sign.Xor 5 4 refl refl refl refl refl (λ ts us t. t)
of_binary free op.Shl a b ha hb = of_infix free a b (Binary op.Shl a b) ha hb sign.ShiftLeft 7 2 refl refl refl refl refl (λ ts us t. t)
of_binary free op.Shr a b ha hb = of_infix free a b (Binary op.Shr a b) ha hb sign.ShiftRight 7 2 refl refl refl refl refl (λ ts us t. t)

of_test : (free : ℕ) (o : Test) (a b : RawExpression) → Facts free a → Facts free b → Facts free (Compare o a b)
of_test free test.Eq a b ha hb = of_compare free a b (Compare test.Eq a b) ha hb sign.Equal refl refl refl (λ ts us t. t)
of_test free test.Ne a b ha hb = of_compare free a b (Compare test.Ne a b) ha hb sign.NotEqual refl refl refl (λ ts us t. t)
of_test free test.Lt a b ha hb = of_compare free a b (Compare test.Lt a b) ha hb sign.Less refl refl refl (λ ts us t. t)
of_test free test.Le a b ha hb = of_compare free a b (Compare test.Le a b) ha hb sign.LessEqual refl refl refl (λ ts us t. t)
of_test free test.Gt a b ha hb = of_compare free a b (Compare test.Gt a b) ha hb sign.Greater refl refl refl (λ ts us t. t)
of_test free test.Ge a b ha hb = of_compare free a b (Compare test.Ge a b) ha hb sign.GreaterEqual refl refl refl (λ ts us t. t)

-- ---- operands, one form after another

of_number : (free : ℕ) (k : ℤ) → Facts free (Number k)
of_number free k = of_operand free (Number k) (λ n ts us t room.
    let x = number_step free k _ [] ts us room t in
    by_rule free (operand n) ts (Number k) us (first_of (andthen x.said (done_at x.behind))))

of_name : (free : ℕ) (x : List ℕ) → Facts free (Local x)
of_name free x = of_operand free (Local x) (λ n ts us t room.
    let y = name_step free x [] ts us room t in
    by_rule free (operand n) ts (Local x) us (second_of (first_of (andthen y.said (first_of (done_at y.behind))))))

of_len : (free : ℕ) → Facts free Len
of_len free = of_operand free Len (λ n ts us t room.
    let x = token_step free (kind.Keyword word.Len) (word_spelling word.Len) [] ts us room t in
    by_rule free (operand n) ts Len us (second_of (second_of (first_of (andthen x.said (done_at x.behind))))))

-- an index, with the sign that closes it
pub record Indexed (free n : ℕ) (e : RawExpression) (ps : List Piece) (ts us : List Lexeme) : Type 0 where
  pub inside : List Lexeme
  pub opened : Said free (opens n sign.OpenBracket) ts tt inside
  pub before_close : List Lexeme
  pub index : Said free (expression (n + 1)) inside e before_close
  pub line : ℕ
  pub rest : List Lexeme
  pub closed : Said free (token (kind.Sign sign.CloseBracket)) before_close line rest
  pub behind : Takes ps rest us
  pub room : length rest ≤ free

pub indexed : (free n : ℕ) (e : RawExpression) → Facts free e → (ps : List Piece) (ts us : List Lexeme) → length ts ≤ free → Takes (s sign.OpenBracket ∷ (of_expression e ++ s sign.CloseBracket ∷ ps)) ts us → Indexed free n e ps ts us
indexed free n e h ps ts us room t =
    let o = opens_step free n sign.OpenBracket (sign_spelling sign.OpenBracket) (of_expression e ++ s sign.CloseBracket ∷ ps) ts us room t in
    let m = takes-append (of_expression e) (s sign.CloseBracket ∷ ps) o.rest us o.behind in
    let inner = whole free e h (n + 1) o.rest m.0 m.1 o.room in
    let c = token_step free (kind.Sign sign.CloseBracket) (sign_spelling sign.CloseBracket) ps m.0 us (omega (arith, o.room, inner.less)) m.2 in
    record { inside = o.rest; opened = o.said; before_close = m.0; index = inner; line = c.line; rest = c.rest; closed = c.said; behind = c.behind; room = c.room }

of_input : (free : ℕ) (i : RawExpression) → Facts free i → Facts free (Input i)
of_input free i h = of_operand free (Input i) (λ n ts us t room.
    let x = token_step free (kind.Keyword word.Input) (word_spelling word.Input) (s sign.OpenBracket ∷ (of_expression i ++ s sign.CloseBracket ∷ [])) ts us room t in
    let y = indexed free n i h [] x.rest us x.room x.behind in
    by_rule free (operand n) ts (Input i) us (second_of (second_of (second_of (first_of (andthen x.said (andthen y.opened (andthen y.index (andthen y.closed (done_at y.behind))))))))))

of_load : (free : ℕ) (a : List ℕ) (i : RawExpression) → Facts free i → Facts free (Load a i)
of_load free a i h = of_operand free (Load a i) (λ n ts us t room.
    let x = name_step free a (s sign.OpenBracket ∷ (of_expression i ++ s sign.CloseBracket ∷ [])) ts us room t in
    let y = indexed free n i h [] x.rest us x.room x.behind in
    by_rule free (operand n) ts (Load a i) us (second_of (first_of (andthen x.said (second_of (first_of (andthen y.opened (andthen y.index (andthen y.closed (done_at y.behind))))))))))

neg_alone : (free : ℕ) (a : RawExpression) → Facts free a → (n : ℕ) (ts us : List Lexeme) → Takes (of_expression (Neg a)) ts us → length ts ≤ free → Said free (operand n) ts (Neg a) us
neg_alone free a h n ts us t room =
    let o = opens_step free n sign.Minus (sign_spelling sign.Minus) (enclosed (nat_lt (text.level a) unary_level) (of_expression a)) ts us room t in
    let x = side_alone free a h (n + 1) (nat_lt (text.level a) unary_level) refl o.rest us o.behind o.room in
    by_rule free (operand n) ts (Neg a) us (second_of (second_of (second_of (second_of (first_of (andthen o.said (andthen x done)))))))

not_alone : (free : ℕ) (a : RawExpression) → Facts free a → (n : ℕ) (ts us : List Lexeme) → Takes (of_expression (Not a)) ts us → length ts ≤ free → Said free (operand n) ts (Not a) us
not_alone free a h n ts us t room =
    let o = opens_step free n sign.Not (sign_spelling sign.Not) (enclosed (nat_lt (text.level a) unary_level) (of_expression a)) ts us room t in
    let x = side_alone free a h (n + 1) (nat_lt (text.level a) unary_level) refl o.rest us o.behind o.room in
    by_rule free (operand n) ts (Not a) us (second_of (second_of (second_of (second_of (second_of (first_of (andthen o.said (andthen x done))))))))

-- arguments, one after another
abbrev pub list_of : RawArguments → List RawExpression
list_of no_more = []
list_of (argument first rest) = first ∷ list_of rest

pub same_arguments : (given : RawArguments) → arguments_of (list_of given) ≡ given
same_arguments no_more = refl
same_arguments (argument first rest) = ap (argument first) (same_arguments rest)

-- what is known of arguments: how they are read in the parentheses of a call
abbrev pub AreGiven : ℕ → RawArguments → Type 0
AreGiven free given = (n : ℕ) (ts us : List Lexeme) → Takes (of_further given) ts us → length ts ≤ free → Said free (many (next_argument n)) ts (list_of given) us

given_next : (free : ℕ) (first : RawExpression) (rest : RawArguments) → Facts free first → AreGiven free rest → AreGiven free (argument first rest)
given_next free first rest h k n ts us t room =
    let c = token_step free (kind.Sign sign.Comma) (sign_spelling sign.Comma) (of_expression first ++ of_further rest) ts us room t in
    let m = takes-append (of_expression first) (of_further rest) c.rest us c.behind in
    let x = whole free first h n c.rest m.0 m.1 c.room in
    let more = k n m.0 us m.2 (omega (arith, x.less, c.room)) in
    let one = by_rule free (next_argument n) ts first m.0 (andthen c.said (andthen x done)) in
    by_rule free (many (next_argument n)) ts (first ∷ list_of rest) us (second_of (andthen one (andthen more done)))

-- the arguments of a call, with the sign that closes them
pub record Called (free n : ℕ) (given : RawArguments) (ps : List Piece) (ts us : List Lexeme) : Type 0 where
  pub inside : List Lexeme
  pub opened : Said free (opens n sign.OpenParen) ts tt inside
  pub rest : List Lexeme
  pub all : Said free (arguments (n + 1)) inside (list_of given) rest
  pub behind : Takes ps rest us
  pub room : length rest ≤ free

abbrev pub AreCalled : ℕ → RawArguments → Type 0
AreCalled free given = (n : ℕ) (ps : List Piece) (ts us : List Lexeme) → length ts ≤ free → Takes (s sign.OpenParen ∷ (of_arguments given ++ s sign.CloseParen ∷ ps)) ts us → Called free n given ps ts us

called_none : (free : ℕ) → AreCalled free no_more
called_none free n ps ts us room t =
    let o = opens_step free n sign.OpenParen (sign_spelling sign.OpenParen) (s sign.CloseParen ∷ ps) ts us room t in
    let c = token_step free (kind.Sign sign.CloseParen) (sign_spelling sign.CloseParen) ps o.rest us o.room o.behind in
    record { inside = o.rest; opened = o.said; rest = c.rest; all = by_rule free (arguments (n + 1)) o.rest [] c.rest (first_of (andthen c.said done)); behind = c.behind; room = c.room }

called_some : (free : ℕ) (first : RawExpression) (rest : RawArguments) → Facts free first → AreGiven free rest → AreCalled free (argument first rest)
called_some free first rest h k n ps ts us room t =
    let o = opens_step free n sign.OpenParen (sign_spelling sign.OpenParen) ((of_expression first ++ of_further rest) ++ s sign.CloseParen ∷ ps) ts us room t in
    let m = takes-append (of_expression first ++ of_further rest) (s sign.CloseParen ∷ ps) o.rest us o.behind in
    let j = takes-append (of_expression first) (of_further rest) o.rest m.0 m.1 in
    let x = whole free first h (n + 1) o.rest j.0 j.1 o.room in
    let more = k (n + 1) j.0 m.0 j.2 (omega (arith, x.less, o.room)) in
    let c = token_step free (kind.Sign sign.CloseParen) (sign_spelling sign.CloseParen) ps m.0 us (omega (arith, more.less, x.less, o.room)) m.2 in
    record { inside = o.rest; opened = o.said; rest = c.rest; all = by_rule free (arguments (n + 1)) o.rest (first ∷ list_of rest) c.rest (second_of (andthen x (andthen more (andthen c.said done)))); behind = c.behind; room = c.room }

of_call : (free : ℕ) (f : List ℕ) (given : RawArguments) → AreCalled free given → Facts free (Call f given)
of_call free f given h = of_operand free (Call f given) (λ n ts us t room.
    let x = name_step free f (s sign.OpenParen ∷ (of_arguments given ++ s sign.CloseParen ∷ [])) ts us room t in
    let y = h n [] x.rest us x.room x.behind in
    by_rule free (operand n) ts (Call f given) us (second_of (first_of (andthen x.said (second_of (second_of (andthen y.opened (andthen y.all (subst (λ g. Told free (give (Call f g)) y.rest (Call f given) us) (sym (same_arguments given)) (done_at y.behind))))))))))

mutual
  pub facts : (free : ℕ) (e : RawExpression) → Facts free e
  facts free (Number k) = of_number free k
  facts free (Local x) = of_name free x
  facts free Len = of_len free
  facts free (Input i) = of_input free i (facts free i)
  facts free (Load a i) = of_load free a i (facts free i)
  facts free (Call f given) = of_call free f given (called free given)
  facts free (Neg a) = of_operand free (Neg a) (neg_alone free a (facts free a))
  facts free (Not a) = of_operand free (Not a) (not_alone free a (facts free a))
  facts free (Binary o a b) = of_binary free o a b (facts free a) (facts free b)
  facts free (Compare o a b) = of_test free o a b (facts free a) (facts free b)
  facts free (Both a b) = of_infix free a b (Both a b) (facts free a) (facts free b) sign.AndAnd 2 7 refl refl refl refl refl (λ ts us t. t)
  facts free (Either a b) = of_infix free a b (Either a b) (facts free a) (facts free b) sign.OrOr 1 8 refl refl refl refl refl (λ ts us t. t)

  given_in : (free : ℕ) (given : RawArguments) → AreGiven free given
  given_in free no_more = λ n ts us t room. by_rule free (many (next_argument n)) ts [] us (first_of (done_at t))
  given_in free (argument first rest) = given_next free first rest (facts free first) (given_in free rest)

  pub called : (free : ℕ) (given : RawArguments) → AreCalled free given
  called free no_more = called_none free
  called free (argument first rest) = called_some free first rest (facts free first) (given_in free rest)
