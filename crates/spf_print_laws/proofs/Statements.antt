-- Statements, as the grammar reads their lexemes.
use Rattle.std.proofs.Common.{◌≡◌, ℕ, zero, suc, ◌+◌, ◌≤◌, Bool, true, false, List, [], ◌∷◌, ◌++◌, length, refl, sym, ap, ◌∙◌, subst, arith, ℤ}
use Rattle.spf_text.specs.declared.token.Keyword.{Keyword}
use Rattle.spf_text.specs.declared.token.Keyword.TheVariants as word
use Rattle.spf_text.specs.declared.token.Sign.TheVariants as sign
use Rattle.spf_text.specs.declared.token.TokenKind.TheVariants as kind
use Rattle.spf_text.specs.Tokens.{Piece, sign_spelling, word_spelling}
use Rattle.spf_ast.specs.RawSyntax.{RawExpression, RawArguments, RawPredictor, By, Host, RawFoldHead, RawPairHead, RawStatement, Let, Assign, Store, Fill, Emit, Fail, If, For, While, Do, Fold, Pair, Break, RawBlock, end, on_line, no_more, argument, arguments_of}
use Rattle.std.specs.Prelude.{◌||◌, ◌<◌}
use Rattle.std.specs.List.{AllByRecursion}
use Rattle.spf_ast.specs.Carried.{IsWidth}
use Rattle.spf_ast.specs.Spelling.{raw_count, has_break, holds_break, FoldHasRows, PairHasRows, HasRows, HoldRows, IsWritableStatement, IsWritableBlock}
use Rattle.spf_print_forms.specs.Canonical.{deeper}
use Rattle.spf_parse_grammar.specs.Lexemes.{Lexeme}
use Rattle.spf_parse_grammar.specs.Reading.{line_of}
use Rattle.spf_parse_grammar.specs.Parts.{token, opens, name as name_part, many, few, expression, next_argument, next_parameter, names, row, guess, predictor, next_predictor, form, block, otherwise, statement, give}
use Rattle.spf_parse_grammar.specs.Rules.{block_of, plain_form}
use Rattle.spf_print_laws.specs.Laws.{without_lines, block_without_lines}
use Rattle.spf_print_laws.proofs.Pieces.{w, s, name, count as count_piece, number, space, of_expression, of_arguments, of_further, of_predictor, of_predictors, of_further_predictors, of_names, of_further_names, of_carried, of_row, of_guess, on_own_line, range, let_line, assign_line, enclosed, stored, store_line, fill_line, word_line, row_line, fail_line, break_line, opening, if_line, for_line, while_line, do_line, several, fold_guess, fold_range, fold_start, fold_line, pair_line, consumer_line, else_line, close_line, closing, of_statement, of_otherwise, of_block}
use Rattle.spf_print_laws.proofs.Lexing.{Takes, takes-append, takes-line, Said, Told, done, andthen, first_of, second_of, by_rule, on_its_line, Step, token_step, opens_step, name_step, number_step, count_step}
use Rattle.spf_print_laws.proofs.Levels.{facts, whole, done_at, indexed, called, list_of, same_arguments}

-- ---- what stands in lines

-- an expression
pub expression_step : (free n : ℕ) (e : RawExpression) (ps : List Piece) (ts us : List Lexeme) → length ts ≤ free → Takes (of_expression e ++ ps) ts us → Step free (expression n) ps ts us e
expression_step free n e ps ts us room t =
    let m = takes-append (of_expression e) ps ts us t in
    let x = whole free e (facts free e) n ts m.0 m.1 room in
    record { rest = m.0; said = x; behind = m.2; room = omega (arith, x.less, room) }

-- an expression and the semicolon after it
pub record Last (free n : ℕ) (e : RawExpression) (ts us : List Lexeme) : Type 0 where
  pub mid : List Lexeme
  pub value : Said free (expression n) ts e mid
  pub line : ℕ
  pub semicolon : Said free (token (kind.Sign sign.Semicolon)) mid line us

pub last : (free n : ℕ) (e : RawExpression) (ts us : List Lexeme) → length ts ≤ free → Takes (of_expression e ++ s sign.Semicolon ∷ []) ts us → Last free n e ts us
last free n e ts us room t =
    let x = expression_step free n e (s sign.Semicolon ∷ []) ts us room t in
    let c = token_step free (kind.Sign sign.Semicolon) (sign_spelling sign.Semicolon) [] x.rest us x.room x.behind in
    record { mid = x.rest; value = x.said; line = c.line; semicolon = subst (λ y. Said free (token (kind.Sign sign.Semicolon)) x.rest c.line y) c.behind c.said }

-- what is assigned after a name or a closing bracket
pub record Assigned (free n : ℕ) (e : RawExpression) (ts us : List Lexeme) : Type 0 where
  pub line : ℕ
  pub mid : List Lexeme
  pub sign_said : Said free (token (kind.Sign sign.Assign)) ts line mid
  pub last_said : Last free n e mid us

assigned : (free n : ℕ) (e : RawExpression) (ts us : List Lexeme) → length ts ≤ free → Takes (s sign.Assign ∷ space ∷ (of_expression e ++ s sign.Semicolon ∷ [])) ts us → Assigned free n e ts us
assigned free n e ts us room t =
    let c = token_step free (kind.Sign sign.Assign) (sign_spelling sign.Assign) (space ∷ (of_expression e ++ s sign.Semicolon ∷ [])) ts us room t in
    record { line = c.line; mid = c.rest; sign_said = c.said; last_said = last free n e c.rest us c.room c.behind }

-- a range of numbers
pub record Ranged (free n : ℕ) (low high : RawExpression) (ps : List Piece) (ts us : List Lexeme) : Type 0 where
  pub mid : List Lexeme
  pub low_said : Said free (expression n) ts low mid
  pub line : ℕ
  pub next : List Lexeme
  pub dots : Said free (token (kind.Sign sign.DotDot)) mid line next
  pub rest : List Lexeme
  pub high_said : Said free (expression n) next high rest
  pub behind : Takes ps rest us
  pub room : length rest ≤ free

ranged : (free n : ℕ) (low high : RawExpression) (ps : List Piece) (ts us : List Lexeme) → length ts ≤ free → Takes (range low high ++ ps) ts us → Ranged free n low high ps ts us
ranged free n low high ps ts us room t =
    let m = takes-append (range low high) ps ts us t in
    let x = expression_step free n low (s sign.DotDot ∷ of_expression high) ts m.0 room m.1 in
    let d = token_step free (kind.Sign sign.DotDot) (sign_spelling sign.DotDot) (of_expression high) x.rest m.0 x.room x.behind in
    let y = whole free high (facts free high) n d.rest m.0 d.behind d.room in
    record { mid = x.rest; low_said = x.said; line = d.line; next = d.rest; dots = d.said; rest = m.0; high_said = y; behind = m.2; room = omega (arith, y.less, d.room) }

-- ---- rows

-- further parts, at most `most` of them
few_arguments : (free n most : ℕ) (given : RawArguments) → raw_count given ≤ most → (ts us : List Lexeme) → length ts ≤ free → Takes (of_further given) ts us → Said free (few most (next_argument n)) ts (list_of given) us
few_arguments free n zero no_more wide ts us room t = by_rule free (few zero (next_argument n)) ts [] us (done_at t)
few_arguments free n (suc most) no_more wide ts us room t = by_rule free (few (suc most) (next_argument n)) ts [] us (first_of (done_at t))
few_arguments free n zero (argument first rest) wide ts us room t = absurd (omega (arith, wide))
few_arguments free n (suc most) (argument first rest) wide ts us room t =
    let c = token_step free (kind.Sign sign.Comma) (sign_spelling sign.Comma) (space ∷ (of_expression first ++ of_further rest)) ts us room t in
    let x = expression_step free n first (of_further rest) c.rest us c.room c.behind in
    let more = few_arguments free n most rest (omega (arith, wide)) x.rest us x.room x.behind in
    by_rule free (few (suc most) (next_argument n)) ts (first ∷ list_of rest) us
    (second_of (andthen (by_rule free (next_argument n) ts first x.rest (andthen c.said (andthen x.said done))) (andthen more done)))

pub row_step : (free n : ℕ) (given : RawArguments) (ps : List Piece) (ts us : List Lexeme) → IsWidth (raw_count given) → length ts ≤ free → Takes (of_row given ++ ps) ts us → Step free (row n) ps ts us (list_of given)
row_step free n no_more ps ts us wide room t = absurd (omega (arith, wide.0))
row_step free n (argument a no_more) ps ts us wide room t =
    let m = takes-append (of_expression a ++ []) ps ts us t in
    let x = expression_step free n a [] ts m.0 room m.1 in
    record {
      rest = m.0;
      said = by_rule free (row n) ts (a ∷ []) m.0 (first_of (andthen x.said (done_at x.behind)));
      behind = m.2;
      room = omega (arith, x.room, ap length x.behind);
    }
row_step free n (argument a (argument b rest)) ps ts us wide room taken =
    let t : Takes (enclosed true (of_arguments (argument a (argument b rest))) ++ ps) ts us =
    subst (λ q. Takes (enclosed q (of_arguments (argument a (argument b rest))) ++ ps) ts us) (several (raw_count rest)) taken in
    let m = takes-append (s sign.OpenParen ∷ (of_arguments (argument a (argument b rest)) ++ s sign.CloseParen ∷ [])) ps ts us t in
    let o = opens_step free n sign.OpenParen (sign_spelling sign.OpenParen) (of_arguments (argument a (argument b rest)) ++ s sign.CloseParen ∷ []) ts m.0 room m.1 in
    let j = takes-append (of_arguments (argument a (argument b rest))) (s sign.CloseParen ∷ []) o.rest m.0 o.behind in
    let x = expression_step free (n + 1) a (of_further (argument b rest)) o.rest j.0 o.room j.1 in
    let c = token_step free (kind.Sign sign.Comma) (sign_spelling sign.Comma) (space ∷ (of_expression b ++ of_further rest)) x.rest j.0 x.room x.behind in
    let y = expression_step free (n + 1) b (of_further rest) c.rest j.0 c.room c.behind in
    let more = few_arguments free (n + 1) 2 rest (omega (arith, wide.1)) y.rest j.0 y.room y.behind in
    let q = token_step free (kind.Sign sign.CloseParen) (sign_spelling sign.CloseParen) [] j.0 m.0 (omega (arith, y.room, more.less)) j.2 in
    record {
      rest = m.0;
      said = by_rule free (row n) ts (a ∷ b ∷ list_of rest) m.0
          (second_of (andthen o.said (andthen x.said (andthen (by_rule free (next_argument (n + 1)) x.rest b y.rest (andthen c.said (andthen y.said done))) (andthen more (andthen q.said (done_at q.behind)))))));
      behind = m.2;
      room = omega (arith, q.room, ap length q.behind);
    }

few_names : (free most : ℕ) (xs : List (List ℕ)) → length xs ≤ most → (ts us : List Lexeme) → length ts ≤ free → Takes (of_further_names xs) ts us → Said free (few most next_parameter) ts xs us
few_names free zero [] wide ts us room t = by_rule free (few zero next_parameter) ts [] us (done_at t)
few_names free (suc most) [] wide ts us room t = by_rule free (few (suc most) next_parameter) ts [] us (first_of (done_at t))
few_names free zero (x ∷ xs) wide ts us room t = absurd (omega (arith, wide))
few_names free (suc most) (x ∷ xs) wide ts us room t =
    let c = token_step free (kind.Sign sign.Comma) (sign_spelling sign.Comma) (space ∷ name x ∷ of_further_names xs) ts us room t in
    let y = name_step free x (of_further_names xs) c.rest us c.room c.behind in
    let more = few_names free most xs (omega (arith, wide)) y.rest us y.room y.behind in
    by_rule free (few (suc most) next_parameter) ts (x ∷ xs) us
    (second_of (andthen (by_rule free next_parameter ts x y.rest (andthen c.said (andthen y.said done))) (andthen more done)))

pub names_step : (free n : ℕ) (xs : List (List ℕ)) (ps : List Piece) (ts us : List Lexeme) → IsWidth (length xs) → length ts ≤ free → Takes (of_carried xs ++ ps) ts us → Step free (names n) ps ts us xs
names_step free n [] ps ts us wide room t = absurd (omega (arith, wide.0))
names_step free n (x ∷ []) ps ts us wide room t =
    let y = name_step free x ps ts us room t in
    record { rest = y.rest; said = by_rule free (names n) ts (x ∷ []) y.rest (first_of (andthen y.said done)); behind = y.behind; room = y.room }
names_step free n (x ∷ z ∷ xs) ps ts us wide room taken =
    let t : Takes (enclosed true (of_names (x ∷ z ∷ xs)) ++ ps) ts us =
    subst (λ q. Takes (enclosed q (of_names (x ∷ z ∷ xs)) ++ ps) ts us) (several (length xs)) taken in
    let m = takes-append (s sign.OpenParen ∷ (of_names (x ∷ z ∷ xs) ++ s sign.CloseParen ∷ [])) ps ts us t in
    let o = opens_step free n sign.OpenParen (sign_spelling sign.OpenParen) (of_names (x ∷ z ∷ xs) ++ s sign.CloseParen ∷ []) ts m.0 room m.1 in
    let j = takes-append (of_names (x ∷ z ∷ xs)) (s sign.CloseParen ∷ []) o.rest m.0 o.behind in
    let y = name_step free x (of_further_names (z ∷ xs)) o.rest j.0 o.room j.1 in
    let c = token_step free (kind.Sign sign.Comma) (sign_spelling sign.Comma) (space ∷ name z ∷ of_further_names xs) y.rest j.0 y.room y.behind in
    let k = name_step free z (of_further_names xs) c.rest j.0 c.room c.behind in
    let more = few_names free 2 xs (omega (arith, wide.1)) k.rest j.0 k.room k.behind in
    let q = token_step free (kind.Sign sign.CloseParen) (sign_spelling sign.CloseParen) [] j.0 m.0 (omega (arith, k.room, more.less)) j.2 in
    record {
      rest = m.0;
      said = by_rule free (names n) ts (x ∷ z ∷ xs) m.0
          (second_of (andthen o.said (andthen y.said (andthen (by_rule free next_parameter y.rest z k.rest (andthen c.said (andthen k.said done))) (andthen more (andthen q.said (done_at q.behind)))))));
      behind = m.2;
      room = omega (arith, q.room, ap length q.behind);
    }

-- a predictor
predictor_step : (free n : ℕ) (p : RawPredictor) (ps : List Piece) (ts us : List Lexeme) → length ts ≤ free → Takes (of_predictor p ++ ps) ts us → Step free (predictor n) ps ts us p
predictor_step free n (By g) ps ts us room t =
    let x = expression_step free n g ps ts us room t in
    record { rest = x.rest; said = by_rule free (predictor n) ts (By g) x.rest (second_of (andthen x.said done)); behind = x.behind; room = x.room }
predictor_step free n (Host k) ps ts us room t =
    let h = token_step free (kind.Keyword word.Host) (word_spelling word.Host) (space ∷ count_piece k ∷ ps) ts us room t in
    let x = count_step free k _ ps h.rest us h.room h.behind in
    record { rest = x.rest; said = by_rule free (predictor n) ts (Host k) x.rest (first_of (andthen h.said (andthen x.said done))); behind = x.behind; room = x.room }

few_predictors : (free n most : ℕ) (gs : List RawPredictor) → length gs ≤ most → (ts us : List Lexeme) → length ts ≤ free → Takes (of_further_predictors gs) ts us → Said free (few most (next_predictor n)) ts gs us
few_predictors free n zero [] wide ts us room t = by_rule free (few zero (next_predictor n)) ts [] us (done_at t)
few_predictors free n (suc most) [] wide ts us room t = by_rule free (few (suc most) (next_predictor n)) ts [] us (first_of (done_at t))
few_predictors free n zero (g ∷ gs) wide ts us room t = absurd (omega (arith, wide))
few_predictors free n (suc most) (g ∷ gs) wide ts us room t =
    let c = token_step free (kind.Sign sign.Comma) (sign_spelling sign.Comma) (space ∷ (of_predictor g ++ of_further_predictors gs)) ts us room t in
    let x = predictor_step free n g (of_further_predictors gs) c.rest us c.room c.behind in
    let more = few_predictors free n most gs (omega (arith, wide)) x.rest us x.room x.behind in
    by_rule free (few (suc most) (next_predictor n)) ts (g ∷ gs) us
    (second_of (andthen (by_rule free (next_predictor n) ts g x.rest (andthen c.said (andthen x.said done))) (andthen more done)))

guess_step : (free n : ℕ) (gs : List RawPredictor) (ps : List Piece) (ts us : List Lexeme) → IsWidth (length gs) → length ts ≤ free → Takes (of_guess gs ++ ps) ts us → Step free (guess n) ps ts us gs
guess_step free n [] ps ts us wide room t = absurd (omega (arith, wide.0))
guess_step free n (g ∷ []) ps ts us wide room t =
    let m = takes-append (of_predictor g ++ []) ps ts us t in
    let x = predictor_step free n g [] ts m.0 room m.1 in
    record {
      rest = m.0;
      said = by_rule free (guess n) ts (g ∷ []) m.0 (first_of (andthen x.said (done_at x.behind)));
      behind = m.2;
      room = omega (arith, x.room, ap length x.behind);
    }
guess_step free n (g ∷ h ∷ gs) ps ts us wide room taken =
    let t : Takes (enclosed true (of_predictors (g ∷ h ∷ gs)) ++ ps) ts us =
    subst (λ q. Takes (enclosed q (of_predictors (g ∷ h ∷ gs)) ++ ps) ts us) (several (length gs)) taken in
    let m = takes-append (s sign.OpenParen ∷ (of_predictors (g ∷ h ∷ gs) ++ s sign.CloseParen ∷ [])) ps ts us t in
    let o = opens_step free n sign.OpenParen (sign_spelling sign.OpenParen) (of_predictors (g ∷ h ∷ gs) ++ s sign.CloseParen ∷ []) ts m.0 room m.1 in
    let j = takes-append (of_predictors (g ∷ h ∷ gs)) (s sign.CloseParen ∷ []) o.rest m.0 o.behind in
    let x = predictor_step free (n + 1) g (of_further_predictors (h ∷ gs)) o.rest j.0 o.room j.1 in
    let c = token_step free (kind.Sign sign.Comma) (sign_spelling sign.Comma) (space ∷ (of_predictor h ++ of_further_predictors gs)) x.rest j.0 x.room x.behind in
    let y = predictor_step free (n + 1) h (of_further_predictors gs) c.rest j.0 c.room c.behind in
    let more = few_predictors free (n + 1) 2 gs (omega (arith, wide.1)) y.rest j.0 y.room y.behind in
    let q = token_step free (kind.Sign sign.CloseParen) (sign_spelling sign.CloseParen) [] j.0 m.0 (omega (arith, y.room, more.less)) j.2 in
    record {
      rest = m.0;
      said = by_rule free (guess n) ts (g ∷ h ∷ gs) m.0
          (second_of (andthen o.said (andthen x.said (andthen (by_rule free (next_predictor (n + 1)) x.rest h y.rest (andthen c.said (andthen y.said done))) (andthen more (andthen q.said (done_at q.behind)))))));
      behind = m.2;
      room = omega (arith, q.room, ap length q.behind);
    }

-- ---- statements and blocks, apart from line numbers

-- a statement of every version is a statement of each
said_plain : (free : ℕ) (breaks : Bool) (n : ℕ) (ts : List Lexeme) (x : RawStatement) (us : List Lexeme) → Told free (plain_form breaks n) ts x us → Said free (form breaks n) ts x us
said_plain free true n ts x us h = by_rule free (form true n) ts x us (first_of h)
said_plain free false n ts x us h = by_rule free (form false n) ts x us h

-- `break` stands only where it is a statement
abbrev pub Allows : (breaks has : Bool) → Type 0
Allows breaks has = has ≡ true → breaks ≡ true

allows-first : (breaks a b : Bool) → Allows breaks (a || b) → Allows breaks a
allows-first breaks true b h e = h refl
allows-first breaks false b h e = cc

allows-second : (breaks a b : Bool) → Allows breaks (a || b) → Allows breaks b
allows-second breaks true b h e = h refl
allows-second breaks false b h e = h e

-- a statement is read
pub record Put (free : ℕ) (breaks : Bool) (n : ℕ) (x : RawStatement) (ts us : List Lexeme) : Type 0 where
  pub found : RawStatement
  pub said : Said free (form breaks n) ts found us
  pub same : without_lines found ≡ without_lines x

-- statements are read, one after another
pub record PutAll (free : ℕ) (breaks : Bool) (n : ℕ) (b : RawBlock) (ts us : List Lexeme) : Type 0 where
  pub found : List (ℕ × RawStatement)
  pub said : Said free (many (statement breaks n)) ts found us
  pub same : block_without_lines (block_of found) ≡ block_without_lines b

-- a block in braces is read
pub record Braced (free : ℕ) (breaks : Bool) (n : ℕ) (b : RawBlock) (ts us : List Lexeme) : Type 0 where
  pub found : RawBlock
  pub said : Said free (block breaks n) ts found us
  pub same : block_without_lines found ≡ block_without_lines b

abbrev pub IsPut : ℕ → RawStatement → Type 0
IsPut free x =
    (breaks : Bool) → Allows breaks (has_break x) → (n : ℕ) (indent : List ℕ) (ts us : List Lexeme)
    → length ts ≤ free → Takes (of_statement indent x) ts us → Put free breaks n x ts us

abbrev pub ArePut : ℕ → RawBlock → Type 0
ArePut free b =
    (breaks : Bool) → Allows breaks (holds_break b) → (n : ℕ) (indent : List ℕ) (ts us : List Lexeme)
    → length ts ≤ free → Takes (of_block indent b) ts us → PutAll free breaks n b ts us

-- a statement that is read as itself
itself : (free : ℕ) (breaks : Bool) (n : ℕ) (x : RawStatement) (ts us : List Lexeme) → Said free (form breaks n) ts x us → Put free breaks n x ts us
itself free breaks n x ts us h = record { found = x; said = h; same = refl }

let_put : (free : ℕ) (x : List ℕ) (e : RawExpression) → IsPut free (Let x e)
let_put free x e breaks allows n indent ts us room t =
    let k = token_step free (kind.Keyword word.Let) (word_spelling word.Let) (space ∷ name x ∷ space ∷ s sign.Assign ∷ space ∷ (of_expression e ++ s sign.Semicolon ∷ [])) ts us room (takes-line indent (let_line x e) ts us t) in
    let y = name_step free x (space ∷ s sign.Assign ∷ space ∷ (of_expression e ++ s sign.Semicolon ∷ [])) k.rest us k.room k.behind in
    let a = assigned free n e y.rest us y.room y.behind in
    itself free breaks n (Let x e) ts us (said_plain free breaks n ts (Let x e) us (first_of (andthen k.said (andthen y.said (andthen a.sign_said (andthen a.last_said.value (andthen a.last_said.semicolon done)))))))

assign_put : (free : ℕ) (x : List ℕ) (e : RawExpression) → IsPut free (Assign x e)
assign_put free x e breaks allows n indent ts us room t =
    let y = name_step free x (space ∷ s sign.Assign ∷ space ∷ (of_expression e ++ s sign.Semicolon ∷ [])) ts us room (takes-line indent (assign_line x e) ts us t) in
    let a = assigned free n e y.rest us y.room y.behind in
    itself free breaks n (Assign x e) ts us (said_plain free breaks n ts (Assign x e) us (second_of (first_of (andthen y.said (first_of (andthen a.sign_said (andthen a.last_said.value (andthen a.last_said.semicolon done))))))))

store_put : (free : ℕ) (x : List ℕ) (i e : RawExpression) → IsPut free (Store x i e)
store_put free x i e breaks allows n indent ts us room t =
    let y = name_step free x (s sign.OpenBracket ∷ (of_expression i ++ stored e)) ts us room (takes-line indent (store_line x i e) ts us t) in
    let j = indexed free n i (facts free i) (space ∷ s sign.Assign ∷ space ∷ (of_expression e ++ s sign.Semicolon ∷ [])) y.rest us y.room y.behind in
    let a = assigned free n e j.rest us j.room j.behind in
    itself free breaks n (Store x i e) ts us (said_plain free breaks n ts (Store x i e) us (second_of (first_of (andthen y.said (second_of (first_of (andthen j.opened (andthen j.index (andthen j.closed (andthen a.sign_said (andthen a.last_said.value (andthen a.last_said.semicolon done))))))))))))

do_put : (free : ℕ) (f : List ℕ) (given : RawArguments) → IsPut free (Do f given)
do_put free f given breaks allows n indent ts us room t =
    let y = name_step free f (s sign.OpenParen ∷ (of_arguments given ++ s sign.CloseParen ∷ s sign.Semicolon ∷ [])) ts us room (takes-line indent (do_line f given) ts us t) in
    let g = called free given n (s sign.Semicolon ∷ []) y.rest us y.room y.behind in
    let c = token_step free (kind.Sign sign.Semicolon) (sign_spelling sign.Semicolon) [] g.rest us g.room g.behind in
    let value = subst (λ v. Told free (give (Do f v)) c.rest (Do f given) us) (sym (same_arguments given)) (done_at c.behind) in
    itself free breaks n (Do f given) ts us (said_plain free breaks n ts (Do f given) us (second_of (first_of (andthen y.said (second_of (second_of (andthen g.opened (andthen g.all (andthen c.said value)))))))))

fill_put : (free : ℕ) (x : List ℕ) (i j e : RawExpression) → IsPut free (Fill x i j e)
fill_put free x i j e breaks allows n indent ts us room t =
    let k = token_step free (kind.Keyword word.Fill) (word_spelling word.Fill) (space ∷ name x ∷ s sign.OpenBracket ∷ (range i j ++ stored e)) ts us room (takes-line indent (fill_line x i j e) ts us t) in
    let y = name_step free x (s sign.OpenBracket ∷ (range i j ++ stored e)) k.rest us k.room k.behind in
    let o = opens_step free n sign.OpenBracket (sign_spelling sign.OpenBracket) (range i j ++ stored e) y.rest us y.room y.behind in
    let r = ranged free (n + 1) i j (stored e) o.rest us o.room o.behind in
    let c = token_step free (kind.Sign sign.CloseBracket) (sign_spelling sign.CloseBracket) (space ∷ s sign.Assign ∷ space ∷ (of_expression e ++ s sign.Semicolon ∷ [])) r.rest us r.room r.behind in
    let a = assigned free n e c.rest us c.room c.behind in
    itself free breaks n (Fill x i j e) ts us (said_plain free breaks n ts (Fill x i j e) us (second_of (second_of (first_of (andthen k.said (andthen y.said (andthen o.said (andthen r.low_said (andthen r.dots (andthen r.high_said (andthen c.said (andthen a.sign_said (andthen a.last_said.value (andthen a.last_said.semicolon done))))))))))))))

-- a word and an expression
pub record Worded (free n : ℕ) (k : Keyword) (e : RawExpression) (ts us : List Lexeme) : Type 0 where
  pub line : ℕ
  pub mid : List Lexeme
  pub word_said : Said free (token (kind.Keyword k)) ts line mid
  pub last_said : Last free n e mid us

pub worded : (free n : ℕ) (k : Keyword) (e : RawExpression) (indent : List ℕ) (ts us : List Lexeme) → length ts ≤ free → Takes (on_own_line indent (word_line k e)) ts us → Worded free n k e ts us
worded free n k e indent ts us room t =
    let x = token_step free (kind.Keyword k) (word_spelling k) (space ∷ (of_expression e ++ s sign.Semicolon ∷ [])) ts us room (takes-line indent (word_line k e) ts us t) in
    record { line = x.line; mid = x.rest; word_said = x.said; last_said = last free n e x.rest us x.room x.behind }

emit_put : (free : ℕ) (e : RawExpression) → IsPut free (Emit e)
emit_put free e breaks allows n indent ts us room t =
    let x = worded free n word.Emit e indent ts us room t in
    itself free breaks n (Emit e) ts us (said_plain free breaks n ts (Emit e) us (second_of (second_of (second_of (first_of (andthen x.word_said (andthen x.last_said.value (andthen x.last_said.semicolon done))))))))

fail_put : (free : ℕ) (k : ℤ) → IsPut free (Fail k)
fail_put free k breaks allows n indent ts us room t =
    let x = token_step free (kind.Keyword word.Fail) (word_spelling word.Fail) (space ∷ number k ∷ s sign.Semicolon ∷ []) ts us room (takes-line indent (fail_line k) ts us t) in
    let y = number_step free k _ (s sign.Semicolon ∷ []) x.rest us x.room x.behind in
    let c = token_step free (kind.Sign sign.Semicolon) (sign_spelling sign.Semicolon) [] y.rest us y.room y.behind in
    itself free breaks n (Fail k) ts us (said_plain free breaks n ts (Fail k) us (second_of (second_of (second_of (second_of (first_of (andthen x.said (andthen y.said (andthen c.said (done_at c.behind))))))))))

-- ---- statements with blocks

-- the brace that opens a block
pub opened : (free n : ℕ) (ts us : List Lexeme) → length ts ≤ free → Takes opening ts us → Said free (opens n sign.OpenBrace) ts tt us
opened free n ts us room t =
    let o = opens_step free n sign.OpenBrace (sign_spelling sign.OpenBrace) [] ts us room t in
    subst (λ x. Said free (opens n sign.OpenBrace) ts tt x) o.behind o.said

-- the brace that closes one, on a line of its own
pub closed : (free : ℕ) (indent : List ℕ) (ts us : List Lexeme) → length ts ≤ free → Takes (closing indent) ts us → (line : ℕ) × Said free (token (kind.Sign sign.CloseBrace)) ts line us
closed free indent ts us room t =
    let c = token_step free (kind.Sign sign.CloseBrace) (sign_spelling sign.CloseBrace) [] ts us room (takes-line indent close_line ts us t) in
    (c.line, subst (λ x. Said free (token (kind.Sign sign.CloseBrace)) ts c.line x) c.behind c.said)

braced : (free : ℕ) (breaks : Bool) (n : ℕ) (b : RawBlock) (line : ℕ) (ts ms ks us : List Lexeme) → Said free (opens n sign.OpenBrace) ts tt ms → PutAll free breaks (n + 1) b ms ks → Said free (token (kind.Sign sign.CloseBrace)) ks line us → Braced free breaks n b ts us
braced free breaks n b line ts ms ks us o inside c = record {
  found = block_of inside.found;
  said = by_rule free (block breaks n) ts (block_of inside.found) us (andthen o (andthen inside.said (andthen c done)));
  same = inside.same;
}

-- a block with its closing line
pub closed_block : (free : ℕ) (breaks : Bool) (n : ℕ) (b : RawBlock) → Allows breaks (holds_break b) → ArePut free b → (indent : List ℕ) (ts ms us : List Lexeme) → length ts ≤ free → Takes opening ts ms → Takes (of_block (deeper indent) b ++ closing indent) ms us → Braced free breaks n b ts us
closed_block free breaks n b allows h indent ts ms us room t k =
    let o = opened free n ts ms room t in
    let m = takes-append (of_block (deeper indent) b) (closing indent) ms us k in
    let inside = h breaks allows (n + 1) (deeper indent) ms m.0 (omega (arith, room, o.less)) m.1 in
    let c = closed free indent m.0 us (omega (arith, room, o.less, inside.said.less)) m.2 in
    braced free breaks n b c.0 ts ms m.0 us o inside c.1

for_put : (free : ℕ) (x : List ℕ) (i j : RawExpression) (b : RawBlock) → ArePut free b → IsPut free (For x i j b)
for_put free x i j b h breaks allows n indent ts us room t =
    let m = takes-append (on_own_line indent (for_line x i j)) (of_block (deeper indent) b ++ closing indent) ts us t in
    let k = token_step free (kind.Keyword word.For) (word_spelling word.For) (space ∷ name x ∷ space ∷ w word.In ∷ space ∷ (range i j ++ opening)) ts m.0 room (takes-line indent (for_line x i j) ts m.0 m.1) in
    let y = name_step free x (space ∷ w word.In ∷ space ∷ (range i j ++ opening)) k.rest m.0 k.room k.behind in
    let p = token_step free (kind.Keyword word.In) (word_spelling word.In) (space ∷ (range i j ++ opening)) y.rest m.0 y.room y.behind in
    let r = ranged free n i j opening p.rest m.0 p.room p.behind in
    let v = closed_block free breaks n b allows h indent r.rest m.0 us r.room r.behind m.2 in
    record {
      found = For x i j v.found;
      said = said_plain free breaks n ts (For x i j v.found) us (second_of (second_of (second_of (second_of (second_of (second_of (first_of (andthen k.said (andthen y.said (andthen p.said (andthen r.low_said (andthen r.dots (andthen r.high_said (andthen v.said done))))))))))))));
      same = ap (For x i j) v.same;
    }

while_put : (free : ℕ) (e : RawExpression) (most : ℕ) (b : RawBlock) → ArePut free b → IsPut free (While e most b)
while_put free e most b h breaks allows n indent ts us room t =
    let m = takes-append (on_own_line indent (while_line e most)) (of_block (deeper indent) b ++ closing indent) ts us t in
    let k = token_step free (kind.Keyword word.While) (word_spelling word.While) (space ∷ (of_expression e ++ space ∷ w word.Max ∷ space ∷ count_piece most ∷ opening)) ts m.0 room (takes-line indent (while_line e most) ts m.0 m.1) in
    let y = expression_step free n e (space ∷ w word.Max ∷ space ∷ count_piece most ∷ opening) k.rest m.0 k.room k.behind in
    let p = token_step free (kind.Keyword word.Max) (word_spelling word.Max) (space ∷ count_piece most ∷ opening) y.rest m.0 y.room y.behind in
    let c = count_step free most _ opening p.rest m.0 p.room p.behind in
    let v = closed_block free breaks n b allows h indent c.rest m.0 us c.room c.behind m.2 in
    record {
      found = While e most v.found;
      said = said_plain free breaks n ts (While e most v.found) us (second_of (second_of (second_of (second_of (second_of (second_of (second_of (first_of (andthen k.said (andthen y.said (andthen p.said (andthen c.said (andthen v.said done)))))))))))));
      same = ap (While e most) v.same;
    }

-- the two blocks of an `if`, from the first brace on
pub record Chosen (free : ℕ) (breaks : Bool) (n : ℕ) (a b : RawBlock) (ts us : List Lexeme) : Type 0 where
  pub first : RawBlock
  pub mid : List Lexeme
  pub first_said : Said free (block breaks n) ts first mid
  pub first_same : block_without_lines first ≡ block_without_lines a
  pub second : RawBlock
  pub second_said : Said free (otherwise breaks n) mid second us
  pub second_same : block_without_lines second ≡ block_without_lines b

chosen : (free : ℕ) (breaks : Bool) (n : ℕ) (a b : RawBlock) → Allows breaks (holds_break a) → Allows breaks (holds_break b) → ArePut free a → ArePut free b → (indent : List ℕ) (ts ms us : List Lexeme) → length ts ≤ free → Takes opening ts ms → Takes (of_block (deeper indent) a ++ of_otherwise indent b) ms us → Chosen free breaks n a b ts us
chosen free breaks n a end p q h k indent ts ms us room t u =
    let x = closed_block free breaks n a p h indent ts ms us room t u in
    record {
      first = x.found;
      mid = us;
      first_said = x.said;
      first_same = x.same;
      second = end;
      second_said = by_rule free (otherwise breaks n) us end us (first_of done);
      second_same = refl;
    }
chosen free breaks n a (on_line l x rest) p q h k indent ts ms us room t u =
    let o = opened free n ts ms room t in
    let m = takes-append (of_block (deeper indent) a) (of_otherwise indent (on_line l x rest)) ms us u in
    let inside = h breaks p (n + 1) (deeper indent) ms m.0 (omega (arith, room, o.less)) m.1 in
    let j = takes-append (on_own_line indent else_line) (of_block (deeper indent) (on_line l x rest) ++ closing indent) m.0 us m.2 in
    let c = token_step free (kind.Sign sign.CloseBrace) (sign_spelling sign.CloseBrace) (space ∷ w word.Else ∷ opening) m.0 j.0 (omega (arith, room, o.less, inside.said.less)) (takes-line indent else_line m.0 j.0 j.1) in
    let v = braced free breaks n a c.line ts ms m.0 c.rest o inside c.said in
    let z = token_step free (kind.Keyword word.Else) (word_spelling word.Else) opening c.rest j.0 c.room c.behind in
    let y = closed_block free breaks n (on_line l x rest) q k indent z.rest j.0 us z.room z.behind j.2 in
    record {
      first = v.found;
      mid = c.rest;
      first_said = v.said;
      first_same = v.same;
      second = y.found;
      second_said = by_rule free (otherwise breaks n) c.rest y.found us (second_of (andthen z.said (andthen y.said done)));
      second_same = y.same;
    }

if_put : (free : ℕ) (e : RawExpression) (a b : RawBlock) → ArePut free a → ArePut free b → IsPut free (If e a b)
if_put free e a b h k breaks allows n indent ts us room t =
    let m = takes-append (on_own_line indent (if_line e)) (of_block (deeper indent) a ++ of_otherwise indent b) ts us t in
    let p = token_step free (kind.Keyword word.If) (word_spelling word.If) (space ∷ (of_expression e ++ opening)) ts m.0 room (takes-line indent (if_line e) ts m.0 m.1) in
    let y = expression_step free n e opening p.rest m.0 p.room p.behind in
    let c = chosen free breaks n a b (allows-first breaks (holds_break a) (holds_break b) allows) (allows-second breaks (holds_break a) (holds_break b) allows) h k indent y.rest m.0 us y.room y.behind m.2 in
    record {
      found = If e c.first c.second;
      said = said_plain free breaks n ts (If e c.first c.second) us (second_of (second_of (second_of (second_of (second_of (first_of (andthen p.said (andthen y.said (andthen c.first_said (andthen c.second_said done))))))))));
      same = ap (λ v. If e v (block_without_lines c.second)) c.first_same ∙ ap (If e (block_without_lines a)) c.second_same;
    }

-- a word and a row
pub record Rowed (free n : ℕ) (k : Keyword) (given : RawArguments) (ts us : List Lexeme) : Type 0 where
  pub line : ℕ
  pub mid : List Lexeme
  pub word_said : Said free (token (kind.Keyword k)) ts line mid
  pub next : List Lexeme
  pub row_said : Said free (row n) mid (list_of given) next
  pub last : ℕ
  pub semicolon : Said free (token (kind.Sign sign.Semicolon)) next last us

rowed : (free n : ℕ) (k : Keyword) (given : RawArguments) → IsWidth (raw_count given) → (indent : List ℕ) (ts us : List Lexeme) → length ts ≤ free → Takes (on_own_line indent (row_line k given)) ts us → Rowed free n k given ts us
rowed free n k given wide indent ts us room t =
    let x = token_step free (kind.Keyword k) (word_spelling k) (space ∷ (of_row given ++ s sign.Semicolon ∷ [])) ts us room (takes-line indent (row_line k given) ts us t) in
    let y = row_step free n given (s sign.Semicolon ∷ []) x.rest us wide x.room x.behind in
    let c = token_step free (kind.Sign sign.Semicolon) (sign_spelling sign.Semicolon) [] y.rest us y.room y.behind in
    record {
      line = x.line;
      mid = x.rest;
      word_said = x.said;
      next = y.rest;
      row_said = y.said;
      last = c.line;
      semicolon = subst (λ l. Said free (token (kind.Sign sign.Semicolon)) y.rest c.line l) c.behind c.said;
    }

-- what stands on the last line of a block
abbrev pub Ending : Type 1
Ending = List Lexeme → List Lexeme → Type 0

-- a block that ends with such a line, to its closing line
pub record Answered (free : ℕ) (breaks : Bool) (n : ℕ) (b : RawBlock) (E : Ending) (ts us : List Lexeme) : Type 0 where
  pub mid : List Lexeme
  pub open_said : Said free (opens n sign.OpenBrace) ts tt mid
  pub next : List Lexeme
  pub inside : PutAll free breaks (n + 1) b mid next
  pub after : List Lexeme
  pub answer : E next after
  pub line : ℕ
  pub close_said : Said free (token (kind.Sign sign.CloseBrace)) after line us

-- these pieces are such a line
abbrev pub Ends : ℕ → List ℕ → List Piece → Ending → Type 0
Ends free indent ps E = (ts us : List Lexeme) → length ts ≤ free → Takes (on_own_line indent ps) ts us → E ts us × (length us ≤ length ts)

pub answered : (free : ℕ) (breaks : Bool) (n : ℕ) (b : RawBlock) (E : Ending) (ps : List Piece) → Allows breaks (holds_break b) → ArePut free b → (indent : List ℕ) → Ends free (deeper indent) ps E
    → (ts ms us : List Lexeme) → length ts ≤ free → Takes opening ts ms → Takes (of_block (deeper indent) b ++ (on_own_line (deeper indent) ps ++ closing indent)) ms us → Answered free breaks n b E ts us
answered free breaks n b E ps allows h indent ends ts ms us room t u =
    let j = takes-append (of_block (deeper indent) b) (on_own_line (deeper indent) ps ++ closing indent) ms us u in
    let i = takes-append (on_own_line (deeper indent) ps) (closing indent) j.0 us j.2 in
    let o = opened free n ts ms room t in
    let inside = h breaks allows (n + 1) (deeper indent) ms j.0 (omega (arith, room, o.less)) j.1 in
    let a = ends j.0 i.0 (omega (arith, room, o.less, inside.said.less)) i.1 in
    let c = closed free indent i.0 us (omega (arith, room, o.less, inside.said.less, a.1)) i.2 in
    record { mid = ms; open_said = o; next = j.0; inside = inside; after = i.0; answer = a.0; line = c.0; close_said = c.1 }

pub ends-worded : (free n : ℕ) (k : Keyword) (e : RawExpression) (indent : List ℕ) → Ends free indent (word_line k e) (Worded free n k e)
ends-worded free n k e indent ts us room t =
    let a = worded free n k e indent ts us room t in
    (a, omega (arith, a.word_said.less, a.last_said.value.less, a.last_said.semicolon.less))

ends-rowed : (free n : ℕ) (k : Keyword) (given : RawArguments) → IsWidth (raw_count given) → (indent : List ℕ) → Ends free indent (row_line k given) (Rowed free n k given)
ends-rowed free n k given wide indent ts us room t =
    let a = rowed free n k given wide indent ts us room t in
    (a, omega (arith, a.word_said.less, a.row_said.less, a.semicolon.less))

pub record Begun (free n : ℕ) (head : RawFoldHead) (ts us : List Lexeme) : Type 0 where
  pub line : ℕ
  pub mid : List Lexeme
  pub word_said : Said free (token (kind.Keyword word.Specfold)) ts line mid
  pub named : List Lexeme
  pub names_said : Said free (names n) mid head.carried named
  pub sign_line : ℕ
  pub next : List Lexeme
  pub sign_said : Said free (token (kind.Sign sign.Assign)) named sign_line next
  pub start : Step free (row n) (fold_range head) next us (list_of head.start)

begun : (free n : ℕ) (head : RawFoldHead) → IsWidth (length head.carried) → IsWidth (raw_count head.start) → (ts us : List Lexeme) → length ts ≤ free → Takes (fold_line head) ts us → Begun free n head ts us
begun free n head wc ws ts us room t =
    let k = token_step free (kind.Keyword word.Specfold) (word_spelling word.Specfold) (space ∷ (of_carried head.carried ++ fold_start head)) ts us room t in
    let x = names_step free n head.carried (fold_start head) k.rest us wc k.room k.behind in
    let q = token_step free (kind.Sign sign.Assign) (sign_spelling sign.Assign) (space ∷ (of_row head.start ++ fold_range head)) x.rest us x.room x.behind in
    record { line = k.line; mid = k.rest; word_said = k.said; named = x.rest; names_said = x.said; sign_line = q.line; next = q.rest; sign_said = q.said; start = row_step free n head.start (fold_range head) q.rest us ws q.room q.behind }

pub record Spanned (free n : ℕ) (head : RawFoldHead) (ts us : List Lexeme) : Type 0 where
  pub line : ℕ
  pub mid : List Lexeme
  pub word_said : Said free (token (kind.Keyword word.For)) ts line mid
  pub named : List Lexeme
  pub name_said : Said free name_part mid head.block named
  pub in_line : ℕ
  pub next : List Lexeme
  pub in_said : Said free (token (kind.Keyword word.In)) named in_line next
  pub numbers : Ranged free n head.low head.high (fold_guess head) next us

spanned : (free n : ℕ) (head : RawFoldHead) (ts us : List Lexeme) → length ts ≤ free → Takes (fold_range head) ts us → Spanned free n head ts us
spanned free n head ts us room t =
    let f = token_step free (kind.Keyword word.For) (word_spelling word.For) (space ∷ name head.block ∷ space ∷ w word.In ∷ space ∷ (range head.low head.high ++ fold_guess head)) ts us room t in
    let y = name_step free head.block (space ∷ w word.In ∷ space ∷ (range head.low head.high ++ fold_guess head)) f.rest us f.room f.behind in
    let p = token_step free (kind.Keyword word.In) (word_spelling word.In) (space ∷ (range head.low head.high ++ fold_guess head)) y.rest us y.room y.behind in
    record { line = f.line; mid = f.rest; word_said = f.said; named = y.rest; name_said = y.said; in_line = p.line; next = p.rest; in_said = p.said; numbers = ranged free n head.low head.high (fold_guess head) p.rest us p.room p.behind }

-- a guess after its word
pub record Guessed (free n : ℕ) (gs : List RawPredictor) (ts us : List Lexeme) : Type 0 where
  pub line : ℕ
  pub mid : List Lexeme
  pub word_said : Said free (token (kind.Keyword word.Predict)) ts line mid
  pub guess_said : Step free (guess n) opening mid us gs

guessed : (free n : ℕ) (gs : List RawPredictor) → IsWidth (length gs) → (ts us : List Lexeme) → length ts ≤ free → Takes (w word.Predict ∷ space ∷ (of_guess gs ++ opening)) ts us → Guessed free n gs ts us
guessed free n gs wg ts us room t =
    let z = token_step free (kind.Keyword word.Predict) (word_spelling word.Predict) (space ∷ (of_guess gs ++ opening)) ts us room t in
    record { line = z.line; mid = z.rest; word_said = z.said; guess_said = guess_step free n gs opening z.rest us wg z.room z.behind }

-- the head of a fold, as it is read
abbrev read_head : RawFoldHead → ℕ → RawFoldHead
read_head head line = record {
  carried = head.carried;
  start = arguments_of (list_of head.start);
  block = head.block;
  low = head.low;
  high = head.high;
  predict = head.predict;
  next = arguments_of (list_of head.next);
  next_line = line;
}

fold_same : (head : RawFoldHead) (line : ℕ) (found b : RawBlock) → block_without_lines found ≡ block_without_lines b → without_lines (Fold (read_head head line) found) ≡ without_lines (Fold head b)
fold_same head line found b e = λ j. Fold (record {
  carried = head.carried;
  start = same_arguments head.start j;
  block = head.block;
  low = head.low;
  high = head.high;
  predict = head.predict;
  next = same_arguments head.next j;
  next_line = 0;
}) (e j)

fold_whole : (free : ℕ) (breaks : Bool) (n : ℕ) (head : RawFoldHead) (b : RawBlock) (ts ms us : List Lexeme) (x : Begun free n head ts ms) (y : Spanned free n head x.start.rest ms) (z : Guessed free n head.predict y.numbers.rest ms) (v : Answered free breaks n b (Rowed free (n + 1) word.Next head.next) z.guess_said.rest us) → Put free breaks n (Fold head b) ts us
fold_whole free breaks n head b ts ms us x y z v = record {
  found = Fold (read_head head v.answer.line) (block_of v.inside.found);
  said = said_plain free breaks n ts (Fold (read_head head v.answer.line) (block_of v.inside.found)) us (second_of (second_of (second_of (second_of (second_of (second_of (second_of (second_of (first_of (andthen x.word_said (andthen x.names_said (andthen x.sign_said (andthen x.start.said (andthen y.word_said (andthen y.name_said (andthen y.in_said (andthen y.numbers.low_said (andthen y.numbers.dots (andthen y.numbers.high_said (andthen z.word_said (andthen z.guess_said.said (andthen v.open_said (andthen v.inside.said (andthen v.answer.word_said (andthen v.answer.row_said (andthen v.answer.semicolon (andthen v.close_said done)))))))))))))))))))))))))));
  same = fold_same head v.answer.line (block_of v.inside.found) b v.inside.same;
}

fold_put : (free : ℕ) (head : RawFoldHead) (b : RawBlock) → IsWidth (length head.carried) → FoldHasRows head → ArePut free b → IsPut free (Fold head b)
fold_put free head b wide rows h breaks allows n indent ts us room t =
    let m = takes-append (on_own_line indent (fold_line head)) (of_block (deeper indent) b ++ (on_own_line (deeper indent) (row_line word.Next head.next) ++ closing indent)) ts us t in
    let x = begun free n head wide rows.start ts m.0 room (takes-line indent (fold_line head) ts m.0 m.1) in
    let y = spanned free n head x.start.rest m.0 x.start.room x.start.behind in
    let z = guessed free n head.predict rows.predict y.numbers.rest m.0 y.numbers.room y.numbers.behind in
    fold_whole free breaks n head b ts m.0 us x y z
    (answered free breaks n b (Rowed free (n + 1) word.Next head.next) (row_line word.Next head.next) allows h indent (ends-rowed free (n + 1) word.Next head.next rows.next (deeper indent)) z.guess_said.rest m.0 us z.guess_said.room z.guess_said.behind m.2)

-- the line of a pair
pub record Paired (free n : ℕ) (xs : List (List ℕ)) (ts us : List Lexeme) : Type 0 where
  pub line : ℕ
  pub mid : List Lexeme
  pub word_said : Said free (token (kind.Keyword word.Spec)) ts line mid
  pub named : List Lexeme
  pub names_said : Said free (names n) mid xs named
  pub sign_line : ℕ
  pub next : List Lexeme
  pub sign_said : Said free (token (kind.Sign sign.Assign)) named sign_line next
  pub behind : Takes opening next us
  pub room : length next ≤ free

paired : (free n : ℕ) (xs : List (List ℕ)) → IsWidth (length xs) → (ts us : List Lexeme) → length ts ≤ free → Takes (pair_line xs) ts us → Paired free n xs ts us
paired free n xs wc ts us room t =
    let p = token_step free (kind.Keyword word.Spec) (word_spelling word.Spec) (space ∷ (of_carried xs ++ space ∷ s sign.Assign ∷ opening)) ts us room t in
    let x = names_step free n xs (space ∷ s sign.Assign ∷ opening) p.rest us wc p.room p.behind in
    let q = token_step free (kind.Sign sign.Assign) (sign_spelling sign.Assign) opening x.rest us x.room x.behind in
    record { line = p.line; mid = p.rest; word_said = p.said; named = x.rest; names_said = x.said; sign_line = q.line; next = q.rest; sign_said = q.said; behind = q.behind; room = q.room }

-- the head of a pair, as it is read
abbrev read_pair : RawPairHead → ℕ → RawPairHead
read_pair head line = record { carried = head.carried; give = arguments_of (list_of head.give); give_line = line; predict = head.predict }

pair_same : (head : RawPairHead) (line : ℕ) (first second a b : RawBlock) → block_without_lines first ≡ block_without_lines a → block_without_lines second ≡ block_without_lines b → without_lines (Pair (read_pair head line) first second) ≡ without_lines (Pair head a b)
pair_same head line first second a b e f = λ j. Pair (record { carried = head.carried; give = same_arguments head.give j; give_line = 0; predict = head.predict }) (e j) (f j)

pair_put : (free : ℕ) (head : RawPairHead) (a b : RawBlock) → IsWidth (length head.carried) → PairHasRows head → ArePut free a → ArePut free b → IsPut free (Pair head a b)
pair_put free head a b wide rows h k breaks allows n indent ts us room t =
    let first = allows-first breaks (holds_break a) (holds_break b) allows in
    let second = allows-second breaks (holds_break a) (holds_break b) allows in
    let m = takes-append (on_own_line indent (pair_line head.carried)) (of_block (deeper indent) a ++ (on_own_line (deeper indent) (row_line word.Give head.give) ++ (on_own_line indent (consumer_line head.predict) ++ (of_block (deeper indent) b ++ closing indent)))) ts us t in
    let x = paired free n head.carried wide ts m.0 room (takes-line indent (pair_line head.carried) ts m.0 m.1) in
    let o = opened free n x.next m.0 x.room x.behind in
    let j = takes-append (of_block (deeper indent) a) (on_own_line (deeper indent) (row_line word.Give head.give) ++ (on_own_line indent (consumer_line head.predict) ++ (of_block (deeper indent) b ++ closing indent))) m.0 us m.2 in
    let i = takes-append (on_own_line (deeper indent) (row_line word.Give head.give)) (on_own_line indent (consumer_line head.predict) ++ (of_block (deeper indent) b ++ closing indent)) j.0 us j.2 in
    let inside = h breaks first (n + 1) (deeper indent) m.0 j.0 (omega (arith, x.room, o.less)) j.1 in
    let r = rowed free (n + 1) word.Give head.give rows.give (deeper indent) j.0 i.0 (omega (arith, x.room, o.less, inside.said.less)) i.1 in
    let d = takes-append (on_own_line indent (consumer_line head.predict)) (of_block (deeper indent) b ++ closing indent) i.0 us i.2 in
    let c = token_step free (kind.Sign sign.CloseBrace) (sign_spelling sign.CloseBrace) (space ∷ w word.Predict ∷ space ∷ (of_guess head.predict ++ opening)) i.0 d.0 (omega (arith, x.room, o.less, inside.said.less, r.word_said.less, r.row_said.less, r.semicolon.less)) (takes-line indent (consumer_line head.predict) i.0 d.0 d.1) in
    let g = guessed free n head.predict rows.predict c.rest d.0 c.room c.behind in
    let v = closed_block free breaks n b second k indent g.guess_said.rest d.0 us g.guess_said.room g.guess_said.behind d.2 in
    record {
      found = Pair (read_pair head r.line) (block_of inside.found) v.found;
      said = said_plain free breaks n ts (Pair (read_pair head r.line) (block_of inside.found) v.found) us (second_of (second_of (second_of (second_of (second_of (second_of (second_of (second_of (second_of (andthen x.word_said (andthen x.names_said (andthen x.sign_said (andthen o (andthen inside.said (andthen r.word_said (andthen r.row_said (andthen r.semicolon (andthen c.said (andthen g.word_said (andthen g.guess_said.said (andthen v.said done)))))))))))))))))))));
      same = pair_same head r.line (block_of inside.found) v.found a b inside.same v.same;
    }

break_put : (free : ℕ) → IsPut free Break
break_put free breaks allows n indent ts us room t = by_version breaks (allows refl)
  where
    by_version : (breaks : Bool) → breaks ≡ true → Put free breaks n Break ts us
    by_version true e =
        let x = token_step free (kind.Keyword word.Break) (word_spelling word.Break) (s sign.Semicolon ∷ []) ts us room (takes-line indent break_line ts us t) in
        let c = token_step free (kind.Sign sign.Semicolon) (sign_spelling sign.Semicolon) [] x.rest us x.room x.behind in
        itself free true n Break ts us (by_rule free (form true n) ts Break us (second_of (andthen x.said (andthen c.said (done_at c.behind)))))
    by_version false e = cc

-- one statement after another
block_next : (free line : ℕ) (first : RawStatement) (rest : RawBlock) → IsPut free first → ArePut free rest → ArePut free (on_line line first rest)
block_next free line first rest h k breaks allows n indent ts us room t =
    let m = takes-append (of_statement indent first) (of_block indent rest) ts us t in
    let x = h breaks (allows-first breaks (has_break first) (holds_break rest) allows) n indent ts m.0 room m.1 in
    let more = k breaks (allows-second breaks (has_break first) (holds_break rest) allows) n indent m.0 us (omega (arith, room, x.said.less)) m.2 in
    record {
      found = (line_of ts, x.found) ∷ more.found;
      said = by_rule free (many (statement breaks n)) ts ((line_of ts, x.found) ∷ more.found) us (second_of (andthen (on_its_line free (form breaks n) ts x.found m.0 x.said) (andthen more.said done)));
      same = ap (λ y. on_line 0 y (block_without_lines (block_of more.found))) x.same ∙ ap (on_line 0 (without_lines first)) more.same;
    }

mutual
  pub put : (free : ℕ) (x : RawStatement) → IsWritableStatement x → HasRows x → IsPut free x
  put free (Let x value) can rows = let_put free x value
  put free (Assign x value) can rows = assign_put free x value
  put free (Store a index value) can rows = store_put free a index value
  put free (Fill a low high value) can rows = fill_put free a low high value
  put free (Emit value) can rows = emit_put free value
  put free (Fail k) can rows = fail_put free k
  put free (If test a b) can rows = if_put free test a b (put_all free a can.1 rows.0) (put_all free b can.2 rows.1)
  put free (For x low high body) can rows = for_put free x low high body (put_all free body can.3 rows)
  put free (While test most body) can rows = while_put free test most body (put_all free body can.2 rows)
  put free (Do f given) can rows = do_put free f given
  put free (Fold head body) can rows = fold_put free head body can.0.7 rows.0 (put_all free body can.1 rows.1)
  put free (Pair head producer consumer) can rows = pair_put free head producer consumer can.0.3 rows.0 (put_all free producer can.1 rows.1) (put_all free consumer can.2 rows.2)
  put free Break can rows = break_put free

  pub put_all : (free : ℕ) (b : RawBlock) → IsWritableBlock b → HoldRows b → ArePut free b
  put_all free end can rows = λ breaks allows n indent ts us room t. record { found = []; said = by_rule free (many (statement breaks n)) ts [] us (first_of (done_at t)); same = refl }
  put_all free (on_line line first rest) can rows = block_next free line first rest (put free first can.0 rows.0) (put_all free rest can.1 rows.1)
