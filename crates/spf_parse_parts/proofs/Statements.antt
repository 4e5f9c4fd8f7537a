-- What is left of statements.
use Rattle.std.proofs.Common.{◌≡◌, ℕ, zero, suc, ◌<◌, Bool, true, false, List, [], ◌∷◌, ◌++◌, length, map, refl, sym, ◌∙◌, ap, subst, append_assoc, arith, inl, inr, Option, Some}
use Rattle.std.proofs.lemmas.List.{append-nil}
use Rattle.spf_text.specs.declared.token.Keyword.{Keyword}
use Rattle.spf_text.specs.declared.token.Keyword.TheVariants as word
use Rattle.spf_text.specs.declared.token.Sign.{Sign}
use Rattle.spf_text.specs.declared.token.Sign.TheVariants as sign
use Rattle.spf_text.specs.declared.token.TokenKind.{TokenKind}
use Rattle.spf_text.specs.declared.token.TokenKind.TheVariants as kind
use Rattle.spf_ast.specs.declared.raw.RawStmt.{RawStmt}
use Rattle.spf_ast.specs.RawSyntax.{RawExpression, RawStatement, arguments_of, on_line, end, Fold, Pair, RawFunction}
use Rattle.spf_ast.specs.RawView.{raw_block, raw_statement}
use Rattle.spf_parse_grammar.specs.Lexemes.{Lexeme}
use Rattle.spf_parse_grammar.specs.Parts.{Part, token, opens, many, lined, form, block, otherwise, guess, statement, expression, count, Value, Rule, give, part, either}
use Rattle.spf_parse_grammar.specs.Rules.{all, rule, block_of, assign_form, store_form, call_form, plain_form, break_form}
use Rattle.spf_parse_grammar.specs.Reading.{line_of}
use Rattle.spf_parse_parts.specs.declared.fault.Fault.{Fault}
use Rattle.spf_parse_parts.specs.declared.fault.Fault.TheVariants as fault
use Rattle.spf_parse_grammar.specs.Derivations.{Says, Reading}
use Rattle.spf_parse_parts.specs.Answers.{ahead, Stops, Leads, Faults, Refuses, stated, opens_statement, opened_statements, ended_statements, Opening, IsBreakNext}
use Rattle.spf_parse_grammar.proofs.Derivations.{bind, with_line}
use Rattle.spf_parse_parts.proofs.Beginnings.{begins, begins_is, stops_at}
use Rattle.spf_parse_parts.proofs.Steps.{start, unfold_part, not_first, not_second, cannot, decide, can, pick, refuse}
use Rattle.spf_parse_parts.proofs.Expressions.{many_next, many_done, token_first}

-- ---- with the line

-- no token is none
abbrev pub NeverEmpty : Part → Type 0
NeverEmpty p = (free : ℕ) (y : Value p) (ws : List Lexeme) → Says free p [] y ws → ⊥

pub form_some : (breaks : Bool) (n : ℕ) → NeverEmpty (form breaks n)
form_some true n free y ws d = let f : false ≡ true = begins_is 14 free (form true n) [] y ws d in absurd cc
form_some false n free y ws d = let f : false ≡ true = begins_is 14 free (form false n) [] y ws d in absurd cc

from_lined : (free : ℕ) (p : Part) (ts : List Lexeme) (x : ℕ × Value p) (us : List Lexeme) → Says free (lined p) ts x us → (x.0 ≡ line_of ts) × Says free p ts x.1 us
from_lined free p ts x us (zero, d) = elim d [ ]
from_lined free p ts x us (suc depth, d) = (d.0, (depth, d.1))

pair_is : {A : Type 0} (a b : ℕ × A) → a.0 ≡ b.0 → a.1 ≡ b.1 → a ≡ b
pair_is a b p q = λ i. (p i, q i)

lined_with : {n : ℕ} (p : Part) {ts us : List Lexeme} {x : Value p} → NeverEmpty p → (l : Leads n (all p) ts (give x) us) → (r : List Lexeme) → r ≡ l.read → Leads n (all (lined p)) ts (give (line_of ts, x)) us
lined_with p {ts} {us} {x} never l [] is =
    let e = subst (λ r. Reading 0 (all p) (r ++ []) x []) (sym is) (l.into 0 [] x [] (refl, refl)) in
    absurd (never 0 e.0 e.1 e.2)
lined_with {n} p {ts} {us} {x} never l (t ∷ r) is =
    let first : t.line ≡ line_of ts = ap (λ q. line_of (q ++ us)) is ∙ sym (ap line_of l.split) in
    let here : (k : List Lexeme) → line_of (l.read ++ k) ≡ line_of ts = λ k. ap (λ q. line_of (q ++ k)) (sym is) ∙ first in
    record {
      read = l.read;
      split = l.split;
      into = λ free k b vs g.
          let e = l.into free k x k (refl, refl) in
          let s : Says free p (l.read ++ k) x k = subst (λ y. Says free p (l.read ++ k) y k) (sym e.3.0) (subst (λ q. Says free p (l.read ++ k) e.0 q) (sym e.3.1) e.2) in
          let w = with_line free p (l.read ++ k) x k s in
          ((line_of ts, x), k, subst (λ m. Says free (lined p) (l.read ++ k) (m, x) k) (here k) w, g);
      only = λ free k b vs same d s.
          let f = from_lined free p (l.read ++ k) d.0 d.1 d.2 in
          let r : (d.0.1 ≡ x) × (d.1 ≡ k) = l.only free k d.0.1 d.1 same (d.0.1, d.1, f.1, (refl, refl)) (subst (Stops n) d.3.1 s) in
          (d.3.0 ∙ pair_is d.0 (line_of ts, x) (f.0 ∙ here k) r.0, d.3.1 ∙ r.1);
    }

pub lined_read : {n : ℕ} (p : Part) {ts us : List Lexeme} {x : Value p} → NeverEmpty p → Leads n (all p) ts (give x) us → Leads n (all (lined p)) ts (give (line_of ts, x)) us
lined_read p never l = lined_with p never l l.read refl

lined_fails_with : {n : ℕ} (p : Part) {ts : List Lexeme} {d : Bool} {left : ℕ} → NeverEmpty p → (f : Faults d n (all p) ts left) → (r : List Lexeme) → r ≡ f.read ++ f.more → Faults d n (all (lined p)) ts left
lined_fails_with {n} p never f [] is =
    let e = f.viable (length (f.more ++ [])) [] (omega arith) in
    let a : f.read ++ (f.more ++ []) ≡ [] = sym (append_assoc f.read f.more []) ∙ ap (λ q. q ++ []) (sym is) in
    absurd (never (length (f.more ++ [])) e.0 e.1 (subst (λ q. Says (length (f.more ++ [])) p q e.0 e.1) a e.2))
lined_fails_with {n} p {ts} {d} {left} never f (t ∷ r) is =
    let here : (k : List Lexeme) → line_of (f.read ++ (f.more ++ k)) ≡ t.line = λ k. ap line_of (sym (append_assoc f.read f.more k)) ∙ ap (λ q. line_of (q ++ k)) (sym is) in
    record {
      read = f.read;
      rest = f.rest;
      split = f.split;
      left_is = f.left_is;
      more = f.more;
      value = (t.line, f.value);
      begins = f.begins;
      viable = λ free k room.
          let e = f.viable free k room in
          let s : Says free p (f.read ++ (f.more ++ k)) f.value k = subst (λ y. Says free p (f.read ++ (f.more ++ k)) y k) (sym e.3.0) (subst (λ q. Says free p (f.read ++ (f.more ++ k)) e.0 q) (sym e.3.1) e.2) in
          let w = with_line free p (f.read ++ (f.more ++ k)) f.value k s in
          ((t.line, f.value), k, subst (λ m. Says free (lined p) (f.read ++ (f.more ++ k)) (m, f.value) k) (here k) w, (refl, refl));
      dead = λ free k b vs binds same x s.
          let g = from_lined free p (f.read ++ k) x.0 x.1 x.2 in
          f.dead free k x.0.1 x.1 binds same (x.0.1, x.1, g.1, (refl, refl)) (subst (Stops n) x.3.1 s);
    }

pub lined_refuses : (n : ℕ) (p : Part) (ts : List Lexeme) (why : Fault) → NeverEmpty p → Refuses n (all p) ts why → Refuses n (all (lined p)) ts why
lined_refuses n p ts (fault.Unexpected left) never f = lined_fails_with p never f (f.read ++ f.more) refl
lined_refuses n p ts (fault.TooDeep left) never f = lined_fails_with p never f (f.read ++ f.more) refl
lined_refuses n p ts fault.OutOfMemory never f = tt

-- ---- whether a statement begins

statement_stops : (breaks : Bool) (w : Option TokenKind) → opens_statement breaks w ≡ true → stops_at 12 w ≡ false
statement_stops breaks (Some kind.Name) h = refl
statement_stops breaks (Some (kind.Keyword word.Let)) h = refl
statement_stops breaks (Some (kind.Keyword word.Fill)) h = refl
statement_stops breaks (Some (kind.Keyword word.Emit)) h = refl
statement_stops breaks (Some (kind.Keyword word.Fail)) h = refl
statement_stops breaks (Some (kind.Keyword word.If)) h = refl
statement_stops breaks (Some (kind.Keyword word.For)) h = refl
statement_stops breaks (Some (kind.Keyword word.While)) h = refl
statement_stops breaks (Some (kind.Keyword word.Specfold)) h = refl
statement_stops breaks (Some (kind.Keyword word.Spec)) h = refl
statement_stops breaks (Some (kind.Keyword word.Break)) h = refl
statement_stops breaks (Some (kind.Sign sign.Plus)) h = let f : false ≡ true = h in absurd cc
statement_stops breaks w h = let f : false ≡ true = h in absurd cc

no_statement : (breaks : Bool) (n : ℕ) (w : Option TokenKind) → opens_statement breaks w ≡ false → begins 14 (statement breaks n) w ≡ false
no_statement true n (Some kind.Name) h = let f : true ≡ false = h in absurd cc
no_statement true n (Some (kind.Keyword word.Let)) h = let f : true ≡ false = h in absurd cc
no_statement true n (Some (kind.Keyword word.Fill)) h = let f : true ≡ false = h in absurd cc
no_statement true n (Some (kind.Keyword word.Emit)) h = let f : true ≡ false = h in absurd cc
no_statement true n (Some (kind.Keyword word.Fail)) h = let f : true ≡ false = h in absurd cc
no_statement true n (Some (kind.Keyword word.If)) h = let f : true ≡ false = h in absurd cc
no_statement true n (Some (kind.Keyword word.For)) h = let f : true ≡ false = h in absurd cc
no_statement true n (Some (kind.Keyword word.While)) h = let f : true ≡ false = h in absurd cc
no_statement true n (Some (kind.Keyword word.Specfold)) h = let f : true ≡ false = h in absurd cc
no_statement true n (Some (kind.Keyword word.Spec)) h = let f : true ≡ false = h in absurd cc
no_statement true n (Some (kind.Keyword word.Break)) h = let f : true ≡ false = h in absurd cc
no_statement true n (Some (kind.Sign sign.Plus)) h = refl
no_statement true n w h = refl
no_statement false n (Some kind.Name) h = let f : true ≡ false = h in absurd cc
no_statement false n (Some (kind.Keyword word.Let)) h = let f : true ≡ false = h in absurd cc
no_statement false n (Some (kind.Keyword word.Fill)) h = let f : true ≡ false = h in absurd cc
no_statement false n (Some (kind.Keyword word.Emit)) h = let f : true ≡ false = h in absurd cc
no_statement false n (Some (kind.Keyword word.Fail)) h = let f : true ≡ false = h in absurd cc
no_statement false n (Some (kind.Keyword word.If)) h = let f : true ≡ false = h in absurd cc
no_statement false n (Some (kind.Keyword word.For)) h = let f : true ≡ false = h in absurd cc
no_statement false n (Some (kind.Keyword word.While)) h = let f : true ≡ false = h in absurd cc
no_statement false n (Some (kind.Keyword word.Specfold)) h = let f : true ≡ false = h in absurd cc
no_statement false n (Some (kind.Keyword word.Spec)) h = let f : true ≡ false = h in absurd cc
no_statement false n (Some (kind.Sign sign.Plus)) h = refl
no_statement false n w h = refl

abbrev pub Statements : Type 0
Statements = List (ℕ × RawStatement)

abbrev pub last_statements : Statements → Statements → Rule Statements
last_statements before more = give (before ++ more)

pub next_statement : {F : Rule Statements} {ts us : List Lexeme} (breaks : Bool) (n : ℕ) (before : Statements) → opens_statement breaks (ahead us) ≡ true → Leads 12 F ts (part (many (statement breaks n)) (last_statements before)) us →
    Leads 12 F ts (part (statement breaks n) (λ x. part (many (statement breaks n)) (λ more. last_statements before (x ∷ more)))) us
next_statement {us = us} breaks n before does l = many_next (cannot 12 (give (before ++ [])) (ahead us) us refl (statement_stops breaks (ahead us) does)) l

statement_never : (breaks : Bool) (n : ℕ) (us : List Lexeme) → opens_statement breaks (ahead us) ≡ false → (free : ℕ) (k : List Lexeme) (x : ℕ × RawStatement) (ws : List Lexeme) → ahead k ≡ ahead us → Says free (statement breaks n) k x ws → ⊥
statement_never breaks n us closes free k x ws same d =
    let yes : begins 14 (statement breaks n) (ahead us) ≡ true = subst (λ v. begins 14 (statement breaks n) v ≡ true) same (begins_is 14 free (statement breaks n) k x ws d) in
    let clash : false ≡ true = sym (no_statement breaks n (ahead us) closes) ∙ yes in
    absurd cc

pub statements_done : {F : Rule Statements} {ts us : List Lexeme} (breaks : Bool) (n : ℕ) (before : Statements) → opens_statement breaks (ahead us) ≡ false → Leads 12 F ts (part (many (statement breaks n)) (last_statements before)) us → Leads 12 F ts (give before) us
statements_done {F} {ts} {us} breaks n before closes l = subst (λ b. Leads 12 F ts (give b) us) (append-nil before) (many_done {K = last_statements before} (statement_never breaks n us closes) l)

pub block_is : (ss : List RawStmt) → raw_block ss ≡ block_of (map stated ss)
block_is [] = refl
block_is (s ∷ ss) = ap (on_line s.line (raw_statement s.kind)) (block_is ss)

-- ---- which form it is

-- where it isn't `break`
pub form_start : {ts : List Lexeme} (breaks : Bool) (n : ℕ) (w : Option TokenKind) → ahead ts ≡ w → can 11 (bind break_form (λ x. give x)) w ≡ false → Leads 11 (all (form breaks n)) ts (pick 11 w (bind (plain_form breaks n) (λ x. give x))) ts
form_start {ts} true n w is no_break = decide w is (bind (plain_form true n) (λ x. give x))
    (not_second {R = bind (plain_form true n) (λ x. give x)} {S = bind break_form (λ x. give x)} (cannot 11 (bind break_form (λ x. give x)) w ts is no_break) (unfold_part (form true n) (λ x. give x) start))
form_start false n w is no_break = decide w is (bind (plain_form false n) (λ x. give x)) (unfold_part (form false n) (λ x. give x) start)

-- where it is
pub break_start : {ts : List Lexeme} (n : ℕ) → IsBreakNext ts → Leads 11 (all (form true n)) ts break_form ts
break_start {ts} n is = not_first {R = bind (plain_form true n) (λ x. give x)} {S = break_form} (cannot 11 (bind (plain_form true n) (λ x. give x)) (Some (kind.Keyword word.Break)) ts is refl) (unfold_part (form true n) (λ x. give x) start)

pub break_begins : {ts : List Lexeme} (breaks : Bool) (n : ℕ) → breaks ≡ true → IsBreakNext ts → Leads 11 (all (form breaks n)) ts break_form ts
break_begins {ts} breaks n is next = subst (λ b. Leads 11 (all (form b n)) ts break_form ts) (sym is) (break_start n next)

no_form : (breaks : Bool) (n : ℕ) (w : Option TokenKind) → opens_statement breaks w ≡ false → can 11 (bind (rule (form breaks n)) (λ x. give x)) w ≡ false
no_form true n (Some kind.Name) h = let f : true ≡ false = h in absurd cc
no_form true n (Some (kind.Keyword word.Let)) h = let f : true ≡ false = h in absurd cc
no_form true n (Some (kind.Keyword word.Fill)) h = let f : true ≡ false = h in absurd cc
no_form true n (Some (kind.Keyword word.Emit)) h = let f : true ≡ false = h in absurd cc
no_form true n (Some (kind.Keyword word.Fail)) h = let f : true ≡ false = h in absurd cc
no_form true n (Some (kind.Keyword word.If)) h = let f : true ≡ false = h in absurd cc
no_form true n (Some (kind.Keyword word.For)) h = let f : true ≡ false = h in absurd cc
no_form true n (Some (kind.Keyword word.While)) h = let f : true ≡ false = h in absurd cc
no_form true n (Some (kind.Keyword word.Specfold)) h = let f : true ≡ false = h in absurd cc
no_form true n (Some (kind.Keyword word.Spec)) h = let f : true ≡ false = h in absurd cc
no_form true n (Some (kind.Keyword word.Break)) h = let f : true ≡ false = h in absurd cc
no_form true n (Some (kind.Sign sign.Plus)) h = refl
no_form true n w h = refl
no_form false n (Some kind.Name) h = let f : true ≡ false = h in absurd cc
no_form false n (Some (kind.Keyword word.Let)) h = let f : true ≡ false = h in absurd cc
no_form false n (Some (kind.Keyword word.Fill)) h = let f : true ≡ false = h in absurd cc
no_form false n (Some (kind.Keyword word.Emit)) h = let f : true ≡ false = h in absurd cc
no_form false n (Some (kind.Keyword word.Fail)) h = let f : true ≡ false = h in absurd cc
no_form false n (Some (kind.Keyword word.If)) h = let f : true ≡ false = h in absurd cc
no_form false n (Some (kind.Keyword word.For)) h = let f : true ≡ false = h in absurd cc
no_form false n (Some (kind.Keyword word.While)) h = let f : true ≡ false = h in absurd cc
no_form false n (Some (kind.Keyword word.Specfold)) h = let f : true ≡ false = h in absurd cc
no_form false n (Some (kind.Keyword word.Spec)) h = let f : true ≡ false = h in absurd cc
no_form false n (Some (kind.Sign sign.Plus)) h = refl
no_form false n w h = refl

pub form_none : (breaks : Bool) (n : ℕ) (us : List Lexeme) (w : Option TokenKind) → ahead us ≡ w → opens_statement breaks w ≡ false → Faults false 11 (all (form breaks n)) us (length us)
form_none true n us w is closes = refuse (form true n) w us is refl (no_form true n w closes)
form_none false n us w is closes = refuse (form false n) w us is refl (no_form false n w closes)

pub other_word : (breaks : Bool) (w : Keyword) → (w ≡ word.Let → ⊥) → (w ≡ word.Fill → ⊥) → (w ≡ word.Emit → ⊥) → (w ≡ word.Fail → ⊥) → (w ≡ word.If → ⊥) → (w ≡ word.For → ⊥) → (w ≡ word.While → ⊥) → (w ≡ word.Specfold → ⊥) → (w ≡ word.Spec → ⊥) → (w ≡ word.Break → ⊥) → opens_statement breaks (Some (kind.Keyword w)) ≡ false
other_word breaks word.Let a b c d e f g h i j = absurd (a refl)
other_word breaks word.Fill a b c d e f g h i j = absurd (b refl)
other_word breaks word.Emit a b c d e f g h i j = absurd (c refl)
other_word breaks word.Fail a b c d e f g h i j = absurd (d refl)
other_word breaks word.If a b c d e f g h i j = absurd (e refl)
other_word breaks word.For a b c d e f g h i j = absurd (f refl)
other_word breaks word.While a b c d e f g h i j = absurd (g refl)
other_word breaks word.Specfold a b c d e f g h i j = absurd (h refl)
other_word breaks word.Spec a b c d e f g h i j = absurd (i refl)
other_word breaks word.Break a b c d e f g h i j = absurd (j refl)
other_word breaks w a b c d e f g h i j = refl

pub neither : {F : Rule RawStatement} {ts us : List Lexeme} (n : ℕ) (x : List ℕ) → (ahead us ≡ Some (kind.Sign sign.OpenBracket) → ⊥) → (ahead us ≡ Some (kind.Sign sign.OpenParen) → ⊥) →
    Leads 11 F ts (either (assign_form n x) (either (store_form n x) (call_form n x))) us → Leads 11 F ts (assign_form n x) us
neither {us = us} n x b p l = not_second {R = assign_form n x} {S = either (store_form n x) (call_form n x)}
    (λ free k b' vs same d s. elim d [ inl f ↦ store_first n x us b free k b' vs same f | inr g ↦ call_first n x us p free k b' vs same g ]) l
  where
    store_first : (n : ℕ) (x : List ℕ) (us : List Lexeme) → (ahead us ≡ Some (kind.Sign sign.OpenBracket) → ⊥) → (free : ℕ) (k : List Lexeme) (b : RawStatement) (vs : List Lexeme) → ahead k ≡ ahead us → Reading free (store_form n x) k b vs → ⊥
    store_first n x us never free [] b vs same d = elim d.2.1.1 [ ]
    store_first n x us never free (t ∷ k) b vs same d = never (sym same ∙ ap Some d.2.1.1.0)

    call_first : (n : ℕ) (x : List ℕ) (us : List Lexeme) → (ahead us ≡ Some (kind.Sign sign.OpenParen) → ⊥) → (free : ℕ) (k : List Lexeme) (b : RawStatement) (vs : List Lexeme) → ahead k ≡ ahead us → Reading free (call_form n x) k b vs → ⊥
    call_first n x us never free [] b vs same d = elim d.2.1.1 [ ]
    call_first n x us never free (t ∷ k) b vs same d = never (sym same ∙ ap Some d.2.1.1.0)

pub no_else : {ts : List Lexeme} (breaks : Bool) (n : ℕ) → (ahead ts ≡ Some (kind.Keyword word.Else) → ⊥) → Leads 11 (all (otherwise breaks n)) ts (give end) ts
no_else {ts} breaks n never = not_second {R = give end} {S = part (token (kind.Keyword word.Else)) (λ l. part (block breaks n) (λ b. give b))} (λ free k b vs same d s. token_first (kind.Keyword word.Else) ts never (λ l. part (block breaks n) (λ b. give b)) free k b vs same d) (unfold_part (otherwise breaks n) (λ x. give x) start)

-- ---- what comes after the parts of a fold and of a pair

abbrev pub Ending : Type 0
Ending = Statements × ℕ × List RawExpression

abbrev pub fold_last : Opening → Ending → Rule RawStatement
fold_last h e = give (Fold (record { carried = h.carried; start = arguments_of h.start; block = h.block; low = h.low; high = h.high; predict = h.predict; next = arguments_of e.2; next_line = e.1 }) (block_of e.0))

abbrev pub fold_rest : Bool → ℕ → Opening → Rule RawStatement
fold_rest breaks n h = bind (ended_statements breaks n word.Next) (fold_last h)

abbrev pub pair_rest : Bool → ℕ → List (List ℕ) → Ending → Rule RawStatement
pair_rest breaks n x e = part (guess n) (λ g. part (block breaks n) (λ c. give (Pair (record { carried = x; give = arguments_of e.2; give_line = e.1; predict = g }) (block_of e.0) c)))

-- what comes after the parameters and the statements of a function
abbrev pub function_rest : Bool → ℕ → List ℕ → List (List ℕ) → Statements → Rule RawFunction
function_rest breaks l f xs inside = part (token (kind.Keyword word.Return)) (λ r. part (expression 1) (λ a. part (token (kind.Sign sign.Semicolon)) (λ m. part (token (kind.Sign sign.CloseBrace)) (λ n. give (record { name = f; params = xs; body = block_of inside; answer = a; answer_line = r; line = l })))))

opens_below : (n : ℕ) (s : Sign) (ts : List Lexeme) (x : Value (opens n s)) (us : List Lexeme) → Says 0 (opens n s) ts x us → n < 64
opens_below n s [] x us d = elim d.1.1 [ ]
opens_below n s (t ∷ ts) x us d = d.1.0 (omega arith)

-- a block that was opened is within the limit
pub opened_below : {ts us : List Lexeme} {b : Statements} (breaks : Bool) (n : ℕ) → Leads 12 (opened_statements breaks n) ts (give b) us → n < 64
opened_below {b = b} breaks n l = let d = l.into 0 [] b [] (refl, refl) in opens_below n sign.OpenBrace (l.read ++ []) d.0 d.1 d.2
