-- What completes each rule.
use Rattle.std.proofs.Common.{◌≡◌, ℕ, suc, ◌+◌, ◌≤◌, Bool, true, false, List, [], ◌∷◌, ◌++◌, length, refl, sym, subst, append_assoc, length-append, arith, inl, pos, nat_eq, zero}
use Rattle.std.specs.Prelude.{IsTrue, if◌then◌else◌}
use Rattle.spf_text.specs.declared.token.Keyword.TheVariants as word
use Rattle.spf_text.specs.declared.token.Sign.{Sign}
use Rattle.spf_text.specs.declared.token.Sign.TheVariants as sign
use Rattle.spf_text.specs.declared.token.TokenKind.{TokenKind}
use Rattle.spf_text.specs.declared.token.TokenKind.TheVariants as kind
use Rattle.spf_ast.specs.RawSyntax.{RawExpression, Number, Let, end, Host}
use Rattle.spf_parse_grammar.specs.Lexemes.{Lexeme}
use Rattle.spf_parse_grammar.specs.Parts.{Part, token, opens, operator, name, number, count, many, few, lined, expression, level, further, compared, operand, arguments, next_argument, names, row, guess, predictor, next_predictor, form, block, otherwise, header, size, array, parameters, next_parameter, function, program, statement, Value, Rule, give, part, either}
use Rattle.spf_parse_grammar.specs.Rules.{rule, has_breaks}
use Rattle.spf_parse_grammar.specs.Derivations.{Says, Reading}
use Rattle.spf_parse_grammar.proofs.Derivations.{from_rule}

abbrev zero_expression : RawExpression
zero_expression = Number (pos 0)

-- the value by which a part is completed
abbrev pub sample : (p : Part) → Value p
sample (token k) = 0
sample (opens n s) = tt
sample (operator rank used) = sign.Star
sample name = []
sample number = pos 0
sample count = 0
sample (many p) = []
sample (few most p) = []
sample (lined p) = (0, sample p)
sample (expression n) = zero_expression
sample (level n rank used) = (zero_expression, used)
sample (further n rank a used) = (a, used)
sample (compared n rank a used) = (a, used)
sample (operand n) = zero_expression
sample (arguments n) = []
sample (next_argument n) = zero_expression
sample (names n) = [] ∷ []
sample (row n) = zero_expression ∷ []
sample (guess n) = Host 0 ∷ []
sample (predictor n) = Host 0
sample (next_predictor n) = Host 0
sample (form breaks n) = Let [] zero_expression
sample (block breaks n) = end
sample (otherwise breaks n) = end
sample header = 1
sample size = (pos 0, pos 0)
sample array = record { name = []; factor = pos 0; offset = pos 0; line = 0 }
sample parameters = []
sample next_parameter = []
sample (function breaks) = record { name = []; params = []; body = end; answer = zero_expression; answer_line = 0; line = 0 }
sample program = record { version = 1; arrays = []; functions = []; main = end; main_line = 0 }

-- these are completed only by what stands in the text
abbrev pub is_given : Part → Bool
is_given (operator rank used) = true
is_given (lined p) = true
is_given p = false

-- the first alternatives are completed
abbrev pub whole : {A : Type 0} → Rule A → Bool
whole (give a) = true
whole (part p r) = if is_given p then false else whole (r (sample p))
whole (either r s) = whole r

-- some tokens say the part, whatever comes after them, if the limits don't bind them
pub record CompletesPart (p : Part) : Type 0 where
  pub more : List Lexeme
  pub viable : (free : ℕ) (k : List Lexeme) → length (more ++ k) ≤ free → Says free p (more ++ k) (sample p) k

pub record Completes {A : Type 0} (r : Rule A) : Type 0 where
  pub more : List Lexeme
  pub value : A
  pub viable : (free : ℕ) (k : List Lexeme) → length (more ++ k) ≤ free → Reading free r (more ++ k) value k

completes_give : {A : Type 0} (a : A) → Completes (give a)
completes_give a = record { more = []; value = a; viable = λ free k room. (refl, refl) }

completes_then : {A : Type 0} (p : Part) (r : Value p → Rule A) → CompletesPart p → Completes (r (sample p)) → Completes (part p r)
completes_then p r h c = record {
  more = h.more ++ c.more;
  value = c.value;
  viable = λ free k room.
      let room' : length (h.more ++ (c.more ++ k)) ≤ free = subst (λ l. length l ≤ free) (append_assoc h.more c.more k) room in (
        sample p,
        c.more ++ k,
        subst (λ l. Says free p l (sample p) (c.more ++ k)) (sym (append_assoc h.more c.more k)) (h.viable free (c.more ++ k) room'),
        c.viable free k (omega (arith, length-append h.more (c.more ++ k), room')),
      );
}

completes_either : {A : Type 0} (r s : Rule A) → Completes r → Completes (either r s)
completes_either r s c = record { more = c.more; value = c.value; viable = λ free k room. inl (c.viable free k room) }

-- by the parts of the first alternatives, which say this value
Completable : {A : Type 0} → Rule A → A → Type 0
Completable (give a) b = b ≡ a
Completable (part p r) b = CompletesPart p × Completable (r (sample p)) b
Completable (either r s) b = Completable r b

completed : {A : Type 0} (r : Rule A) (b : A) → Completable r b → (c : Completes r) × (c.value ≡ b)
unfolding Completable completes_give completes_then completes_either
completed (give a) b h = (completes_give a, sym h)
completed (part p r) b h = let c = completed (r (sample p)) b h.1 in (completes_then p r h.0 c.0, c.1)
completed (either r s) b h = let c = completed r b h in (completes_either r s c.0, c.1)

by_rule : (p : Part) → Completable (rule p) (sample p) → CompletesPart p
by_rule p h = let c = completed (rule p) (sample p) h in record {
  more = c.0.more;
  viable = λ free k room. from_rule free p (c.0.more ++ k) (sample p) k (subst (λ x. Reading free (rule p) (c.0.more ++ k) x k) c.1 (c.0.viable free k room));
}

abbrev pub any : TokenKind → Lexeme
any w = record { kind = w; bytes = []; from = 0; line = 0 }

a_token : (k : TokenKind) → CompletesPart (token k)
a_token k = record { more = any k ∷ []; viable = λ free l room. (0, ((refl, refl), refl)) }

an_opening : (n : ℕ) (s : Sign) → CompletesPart (opens n s)
an_opening n s = record { more = any (kind.Sign s) ∷ []; viable = λ free l room. (0, ((λ bound. absurd (omega (arith, room, bound))), (refl, refl))) }

a_name : CompletesPart name
a_name = record { more = any kind.Name ∷ []; viable = λ free l room. (0, ((refl, refl), refl)) }

a_number : CompletesPart number
a_number = record { more = any (kind.Number (pos 0)) ∷ []; viable = λ free l room. (0, (refl, refl)) }

a_count : CompletesPart count
a_count = record { more = any (kind.Number (pos 0)) ∷ []; viable = λ free l room. (0, (refl, refl)) }

no_more : (p : Part) → CompletesPart (many p)
unfolding Completable
no_more p = by_rule (many p) refl

an_operand : (n : ℕ) → CompletesPart (operand n)
unfolding Completable
an_operand n = by_rule (operand n) (a_number, refl)

a_further : (n rank : ℕ) (a : RawExpression) (used : ℕ) → CompletesPart (further n rank a used)
unfolding Completable
a_further n rank a used = by_rule (further n rank a used) refl

a_compared : (n rank : ℕ) (a : RawExpression) (used : ℕ) → CompletesPart (compared n rank a used)
unfolding Completable
a_compared n rank a used = by_rule (compared n rank a used) refl

next_level : (n rank used : ℕ) → CompletesPart (level n rank used) → (b : Bool) → nat_eq rank 6 ≡ b → CompletesPart (level n (suc rank) used)
unfolding Completable
next_level n rank used c true e = by_rule (level n (suc rank) used) (rw e (c, (a_compared n rank zero_expression used, refl)))
next_level n rank used c false e = by_rule (level n (suc rank) used) (rw e (c, (a_further n rank zero_expression used, refl)))

a_level : (n rank used : ℕ) → CompletesPart (level n rank used)
unfolding Completable
a_level n zero used = by_rule (level n zero used) (an_operand n, refl)
a_level n (suc rank) used = next_level n rank used (a_level n rank used) (nat_eq rank 6) refl

an_expression : (n : ℕ) → CompletesPart (expression n)
unfolding Completable
an_expression n = by_rule (expression n) (a_level n 9 0, refl)

a_block : (breaks : Bool) (n : ℕ) → CompletesPart (block breaks n)
unfolding Completable
a_block breaks n = by_rule (block breaks n) (an_opening n sign.OpenBrace, (no_more (statement breaks (n + 1)), (a_token (kind.Sign sign.CloseBrace), refl)))

none_of_few : (most : ℕ) (p : Part) → CompletesPart (few most p)
unfolding Completable
none_of_few zero p = by_rule (few zero p) refl
none_of_few (suc most) p = by_rule (few (suc most) p) refl

a_predictor : (n : ℕ) → CompletesPart (predictor n)
unfolding Completable
a_predictor n = by_rule (predictor n) (a_token (kind.Keyword word.Host), (a_count, refl))

a_form : (breaks : Bool) (n : ℕ) → CompletesPart (form breaks n)
unfolding Completable
a_form true n = by_rule (form true n) (a_token (kind.Keyword word.Let), (a_name, (a_token (kind.Sign sign.Assign), (an_expression n, (a_token (kind.Sign sign.Semicolon), refl)))))
a_form false n = by_rule (form false n) (a_token (kind.Keyword word.Let), (a_name, (a_token (kind.Sign sign.Assign), (an_expression n, (a_token (kind.Sign sign.Semicolon), refl)))))

pub completes_part : (p : Part) → is_given p ≡ false → CompletesPart p
unfolding Completable
completes_part (token k) h = a_token k
completes_part (opens n s) h = an_opening n s
completes_part (operator rank used) h = let f : true ≡ false = h in absurd cc
completes_part name h = a_name
completes_part number h = a_number
completes_part count h = a_count
completes_part (many p) h = no_more p
completes_part (few most p) h = none_of_few most p
completes_part (lined p) h = let f : true ≡ false = h in absurd cc
completes_part (expression n) h = an_expression n
completes_part (level n rank used) h = a_level n rank used
completes_part (further n rank a used) h = a_further n rank a used
completes_part (compared n rank a used) h = a_compared n rank a used
completes_part (operand n) h = an_operand n
completes_part (arguments n) h = by_rule (arguments n) (a_token (kind.Sign sign.CloseParen), refl)
completes_part (next_argument n) h = by_rule (next_argument n) (a_token (kind.Sign sign.Comma), (an_expression n, refl))
completes_part (names n) h = by_rule (names n) (a_name, refl)
completes_part (row n) h = by_rule (row n) (an_expression n, refl)
completes_part (guess n) h = by_rule (guess n) (a_predictor n, refl)
completes_part (predictor n) h = a_predictor n
completes_part (next_predictor n) h = by_rule (next_predictor n) (a_token (kind.Sign sign.Comma), (a_predictor n, refl))
completes_part (form breaks n) h = a_form breaks n
completes_part (block breaks n) h = a_block breaks n
completes_part (otherwise breaks n) h = by_rule (otherwise breaks n) refl
completes_part header h = by_rule header refl
completes_part size h = by_rule size (a_number, refl)
completes_part array h = by_rule array (a_token (kind.Keyword word.Array), (a_name, (an_opening 0 sign.OpenBracket, (by_rule size (a_number, refl), (a_token (kind.Sign sign.CloseBracket), (a_token (kind.Sign sign.Semicolon), refl))))))
completes_part parameters h = by_rule parameters (a_token (kind.Sign sign.CloseParen), refl)
completes_part next_parameter h = by_rule next_parameter (a_token (kind.Sign sign.Comma), (a_name, refl))
completes_part (function breaks) h = by_rule (function breaks) (a_token (kind.Keyword word.Fn), (a_name, (an_opening 0 sign.OpenParen, (by_rule parameters (a_token (kind.Sign sign.CloseParen), refl), (an_opening 0 sign.OpenBrace, (no_more (statement breaks 1), (a_token (kind.Keyword word.Return), (an_expression 1, (a_token (kind.Sign sign.Semicolon), (a_token (kind.Sign sign.CloseBrace), refl))))))))))
completes_part program h = by_rule program (by_rule header refl, (no_more array, (no_more (function (has_breaks 1)), (a_token (kind.Keyword word.Main), (a_block (has_breaks 1) 0, refl)))))

complete_part : {A : Type 0} (p : Part) (r : Value p → Rule A) → (IsTrue (whole (r (sample p))) → Completes (r (sample p))) → (b : Bool) → is_given p ≡ b → IsTrue (if b then false else whole (r (sample p))) → Completes (part p r)
complete_part p r c true e h = let f : false ≡ true = h in absurd cc
complete_part p r c false e h = completes_then p r (completes_part p e) (c h)

-- whatever is left is completed
pub complete : {A : Type 0} (r : Rule A) → IsTrue (whole r) → Completes r
complete (give a) h = completes_give a
complete (part p r) h = complete_part p r (complete (r (sample p))) (is_given p) refl h
complete (either r s) h = completes_either r s (complete r h)
