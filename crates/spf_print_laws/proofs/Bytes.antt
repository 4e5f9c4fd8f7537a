-- The bytes of pieces are the canonical text.
use Rattle.std.proofs.Common.{◌≡◌, ℕ, zero, suc, ◌+◌, Bool, true, false, nat_lt, nat_eq, if◌then◌else◌, length, List, [], ◌∷◌, ◌++◌, codes, refl, sym, ap, ◌∙◌, append_assoc, ℤ, pos, negsuc}
use Rattle.std.proofs.lemmas.List.{append-nil}
use Rattle.std.specs.Fmt.{decimal, digits, signed_decimal}
use Rattle.spf_text.specs.Tokens.{Piece, bytes_of, sign_spelling}
use Rattle.spf_text.specs.declared.token.Keyword.TheVariants as word
use Rattle.spf_text.specs.declared.token.Sign.{Sign}
use Rattle.spf_text.specs.declared.token.Sign.TheVariants as sign
use Rattle.spf_ast.specs.declared.syntax.Op.{Op}
use Rattle.spf_ast.specs.declared.syntax.Op.TheVariants as op
use Rattle.spf_ast.specs.declared.syntax.Test.{Test}
use Rattle.spf_ast.specs.declared.syntax.Test.TheVariants as test
use Rattle.spf_ast.specs.Syntax.{Array}
use Rattle.spf_ast.specs.RawSyntax.{RawExpression, Number, Local, Len, Input, Load, Call, Neg, Binary, Compare, Both, Either, Not, RawArguments, no_more, argument}
use Rattle.spf_ast.specs.RawSyntax.{RawPredictor, By, Host, RawFoldHead}
use Rattle.spf_ast.specs.RawSyntax.{RawStatement, Let, Assign, Store, Fill, Emit, Fail, If, For, While, Do, Fold, Pair, Break, RawBlock, end, on_line}
use Rattle.spf_ast.specs.RawSyntax.{RawFunction, RawProgram}
use Rattle.spf_ast.specs.Spelling.{raw_count}
use Rattle.spf_print_forms.specs.Canonical as text
use Rattle.spf_print_forms.specs.Canonical.{joined, line, deeper, level, op_level, comparison_level, unary_level, expression_text, arguments_text, further_arguments_text, predictor_text, predictors_text, further_predictors_text, carried_text, row_text, guess_text, fold_line, statement_text, otherwise_text, block_text, size_text, array_text, names_text, further_names_text, function_text, arrays_text, functions_text, main_text, header_text, canonical_text}
use Rattle.spf_print_laws.proofs.Pieces.{fold_line as head_line}
use Rattle.spf_print_laws.proofs.Pieces.{w, s, count, space, newline, bytes, op_sign, test_sign, spaced, enclosed, of_expression, of_arguments, of_further, of_predictor, of_predictors, of_further_predictors, of_carried, of_row, of_guess, blanks, on_own_line, closing, close_line, range, let_line, assign_line, stored, store_line, fill_line, word_line, row_line, fail_line, break_line, opening, if_line, for_line, while_line, do_line, pair_line, consumer_line, else_line, array_line, function_line, of_statement, of_otherwise, of_block, of_size, of_array, of_names, of_further_names, of_function, of_arrays, of_functions, of_main, header_line, of_header, of_program}

pub bytes-append : (ps qs : List Piece) → bytes (ps ++ qs) ≡ bytes ps ++ bytes qs
bytes-append [] qs = refl
bytes-append (p ∷ ps) qs = ap (λ b. bytes_of p ++ b) (bytes-append ps qs) ∙ sym (append_assoc (bytes_of p) (bytes ps) (bytes qs))

-- pieces are written so
pub record Writes (ps : List Piece) (t : List ℕ) : Type 0 where
  pub is : bytes ps ≡ t

at_once : (ps : List Piece) (t : List ℕ) → bytes ps ≡ t → Writes ps t
at_once ps t e = record { is = e }

-- the same text, put together in another way
as_text : {ps : List Piece} {t : List ℕ} (u : List ℕ) → Writes ps t → t ≡ u → Writes ps u
as_text u h e = record { is = h.is ∙ e }

-- one list of pieces, and then another
seq : {ps qs : List Piece} {t u : List ℕ} → Writes ps t → Writes qs u → Writes (ps ++ qs) (t ++ u)
seq {ps} {qs} {t} {u} e f = record { is = bytes-append ps qs ∙ (λ i. e.is i ++ f.is i) }

-- pieces of these bytes before others
before : (ps : List Piece) {qs : List Piece} {u : List ℕ} → Writes qs u → Writes (ps ++ qs) (bytes ps ++ u)
before ps {qs} {u} f = record { is = bytes-append ps qs ∙ ap (λ b. bytes ps ++ b) f.is }

-- three of them
three : {ps qs rs : List Piece} {t u v : List ℕ} → Writes ps t → Writes qs u → Writes rs v → Writes (ps ++ (qs ++ rs)) (t ++ u ++ v)
three {ps} {qs} {rs} {t} {u} {v} e f g = record { is = (seq e (seq f g)).is ∙ sym (append_assoc t u v) }

-- four, and six
four : {ps qs rs zs : List Piece} {t u v x : List ℕ} → Writes ps t → Writes qs u → Writes rs v → Writes zs x → Writes (ps ++ (qs ++ (rs ++ zs))) (t ++ u ++ v ++ x)
four {ps} {qs} {rs} {zs} {t} {u} {v} {x} a b c d = as_text _ (three a b (seq c d)) (sym (append_assoc (t ++ u) v x))

six : {ps qs rs zs ls ms : List Piece} {t u v x y z : List ℕ} → Writes ps t → Writes qs u → Writes rs v → Writes zs x → Writes ls y → Writes ms z → Writes (ps ++ (qs ++ (rs ++ (zs ++ (ls ++ ms))))) (t ++ u ++ v ++ x ++ y ++ z)
six {ps} {qs} {rs} {zs} {ls} {ms} {t} {u} {v} {x} {y} {z} a b c d e f =
    as_text _ (four a b c (three d e f)) (sym (append_assoc (t ++ u ++ v) (x ++ y) z) ∙ ap (λ k. k ++ z) (sym (append_assoc (t ++ u ++ v) x y)))

-- two of them between two others
inner : {ps qs rs zs : List Piece} {t u v x : List ℕ} → Writes ps t → Writes qs u → Writes rs v → Writes zs x → Writes (ps ++ ((qs ++ rs) ++ zs)) (t ++ u ++ v ++ x)
inner {ps} {qs} {rs} {zs} {t} {u} {v} {x} a b c d =
    as_text _ (seq a (seq (seq b c) d)) (sym (append_assoc t (u ++ v) x) ∙ ap (λ k. k ++ x) (sym (append_assoc t u v)))

-- ---- expressions

spaced-op : (o : Op) → Writes (spaced (op_sign o)) (text.op_sign o)
spaced-op op.Add = record { is = refl }
spaced-op _ = record { is = refl }

spaced-test : (t : Test) → Writes (spaced (test_sign t)) (text.test_sign t)
spaced-test test.Eq = record { is = refl }
spaced-test _ = record { is = refl }

enclosed-bytes : (b : Bool) (ps : List Piece) (t : List ℕ) → Writes ps t → Writes (enclosed b ps) (text.enclosed b t)
enclosed-bytes true ps t e = record { is = ap (λ b. codes "(" ++ b) (seq e (at_once (s sign.CloseParen ∷ []) (codes ")" ++ []) refl)).is }
enclosed-bytes false ps t e = e

-- an operator between two operands
infix-bytes : (a b : Bool) (ps qs : List Piece) (x : Sign) (t u v : List ℕ) → Writes ps t → Writes (spaced x) v → Writes qs u → Writes (enclosed a ps ++ (spaced x ++ enclosed b qs)) (joined (text.enclosed a t ∷ v ∷ text.enclosed b u ∷ []))
infix-bytes a b ps qs x t u v e g f =
    as_text _ (seq (enclosed-bytes a ps t e) (seq g (enclosed-bytes b qs u f))) (ap (λ y. text.enclosed a t ++ (v ++ y)) (sym (append-nil (text.enclosed b u))))

-- a sign before an operand
prefix-bytes : (x : Sign) (a : Bool) (ps : List Piece) (t : List ℕ) → Writes ps t → bytes (s x ∷ enclosed a ps) ≡ joined (sign_spelling x ∷ text.enclosed a t ∷ [])
prefix-bytes x a ps t e = ap (λ b. sign_spelling x ++ b) ((enclosed-bytes a ps t e).is ∙ sym (append-nil (text.enclosed a t)))

-- what stands in brackets
bracketed : (close : Sign) (ps : List Piece) (t : List ℕ) → Writes ps t → bytes (ps ++ s close ∷ []) ≡ t ++ (sign_spelling close ++ [])
bracketed close ps t e = (seq e (at_once (s close ∷ []) (sign_spelling close ++ []) refl)).is

mutual
  pub expression-bytes : (e : RawExpression) → Writes (of_expression e) (expression_text e)
  expression-bytes (Number n) = record { is = append-nil (signed_decimal n) }
  expression-bytes (Local x) = record { is = append-nil x }
  expression-bytes Len = record { is = refl }
  expression-bytes (Input index) = record { is = ap (λ b. codes "input[" ++ b) (bracketed sign.CloseBracket (of_expression index) (expression_text index) (expression-bytes index)) }
  expression-bytes (Load a index) = record { is = ap (λ b. a ++ (codes "[" ++ b)) (bracketed sign.CloseBracket (of_expression index) (expression_text index) (expression-bytes index)) }
  expression-bytes (Call f given) = record { is = ap (λ b. f ++ (codes "(" ++ b)) (bracketed sign.CloseParen (of_arguments given) (arguments_text given) (arguments-bytes given)) }
  expression-bytes (Neg a) = record { is = prefix-bytes sign.Minus (nat_lt (level a) unary_level) (of_expression a) (expression_text a) (expression-bytes a) }
  expression-bytes (Not a) = record { is = prefix-bytes sign.Not (nat_lt (level a) unary_level) (of_expression a) (expression_text a) (expression-bytes a) }
  expression-bytes (Binary o a b) =
      infix-bytes (nat_lt (level a) (op_level o)) (nat_lt (level b) (op_level o + 1)) (of_expression a) (of_expression b) (op_sign o) (expression_text a) (expression_text b) (text.op_sign o) (expression-bytes a) (spaced-op o) (expression-bytes b)
  expression-bytes (Compare t a b) =
      infix-bytes (nat_lt (level a) (comparison_level + 1)) (nat_lt (level b) (comparison_level + 1)) (of_expression a) (of_expression b) (test_sign t) (expression_text a) (expression_text b) (text.test_sign t) (expression-bytes a) (spaced-test t) (expression-bytes b)
  expression-bytes (Both a b) =
      infix-bytes (nat_lt (level a) 2) (nat_lt (level b) 3) (of_expression a) (of_expression b) sign.AndAnd (expression_text a) (expression_text b) (codes " && ") (expression-bytes a) (at_once (spaced sign.AndAnd) (codes " && ") refl) (expression-bytes b)
  expression-bytes (Either a b) =
      infix-bytes (nat_lt (level a) 1) (nat_lt (level b) 2) (of_expression a) (of_expression b) sign.OrOr (expression_text a) (expression_text b) (codes " || ") (expression-bytes a) (at_once (spaced sign.OrOr) (codes " || ") refl) (expression-bytes b)

  pub arguments-bytes : (given : RawArguments) → Writes (of_arguments given) (arguments_text given)
  arguments-bytes no_more = record { is = refl }
  arguments-bytes (argument first rest) = seq (expression-bytes first) (further-bytes rest)

  further-bytes : (given : RawArguments) → Writes (of_further given) (further_arguments_text given)
  further-bytes no_more = record { is = refl }
  further-bytes (argument first rest) =
      record { is = ap (λ b. codes ", " ++ b) (seq (expression-bytes first) (further-bytes rest)).is ∙ sym (append_assoc (codes ", ") (expression_text first) (further_arguments_text rest)) }

pub predictor-bytes : (p : RawPredictor) → Writes (of_predictor p) (predictor_text p)
predictor-bytes (By guess) = expression-bytes guess
predictor-bytes (Host n) = record { is = refl }

further_predictors-bytes : (gs : List RawPredictor) → Writes (of_further_predictors gs) (further_predictors_text gs)
further_predictors-bytes [] = record { is = refl }
further_predictors-bytes (g ∷ gs) =
    record { is = ap (λ b. codes ", " ++ b) (seq (predictor-bytes g) (further_predictors-bytes gs)).is ∙ sym (append_assoc (codes ", ") (predictor_text g) (further_predictors_text gs)) }

predictors-bytes : (gs : List RawPredictor) → Writes (of_predictors gs) (predictors_text gs)
predictors-bytes [] = record { is = refl }
predictors-bytes (g ∷ gs) = seq (predictor-bytes g) (further_predictors-bytes gs)

further_names-bytes : (xs : List (List ℕ)) → Writes (of_further_names xs) (further_names_text xs)
further_names-bytes [] = record { is = refl }
further_names-bytes (x ∷ xs) = record { is = ap (λ b. codes ", " ++ (x ++ b)) (further_names-bytes xs).is ∙ sym (append_assoc (codes ", ") x (further_names_text xs)) }

names-bytes : (xs : List (List ℕ)) → Writes (of_names xs) (names_text xs)
names-bytes [] = record { is = refl }
names-bytes (x ∷ xs) = record { is = ap (λ b. x ++ b) (further_names-bytes xs).is }

-- ---- rows

carried-bytes : (xs : List (List ℕ)) → Writes (of_carried xs) (carried_text xs)
carried-bytes xs = enclosed-bytes (nat_lt 1 (length xs)) (of_names xs) (names_text xs) (names-bytes xs)

row-bytes : (given : RawArguments) → Writes (of_row given) (row_text given)
row-bytes given = enclosed-bytes (nat_lt 1 (raw_count given)) (of_arguments given) (arguments_text given) (arguments-bytes given)

guess-bytes : (gs : List RawPredictor) → Writes (of_guess gs) (guess_text gs)
guess-bytes gs = enclosed-bytes (nat_lt 1 (length gs)) (of_predictors gs) (predictors_text gs) (predictors-bytes gs)

-- a range of numbers
range-bytes : (low high : RawExpression) → Writes (range low high) (expression_text low ++ (codes ".." ++ expression_text high))
range-bytes low high = seq (expression-bytes low) (record { is = ap (λ b. codes ".." ++ b) (expression-bytes high).is })

-- and more
range-then : (low high : RawExpression) {ps : List Piece} {t : List ℕ} → Writes ps t → Writes (range low high ++ ps) (expression_text low ++ (codes ".." ++ (expression_text high ++ t)))
range-then low high {ps} {t} e =
    as_text _ (seq (range-bytes low high) e) (append_assoc (expression_text low) (codes ".." ++ expression_text high) t)

-- ---- lines

blanks-bytes : (indent : List ℕ) → Writes (blanks indent) indent
blanks-bytes [] = record { is = refl }
blanks-bytes (b ∷ rest) = record { is = ap (λ l. b ∷ l) (blanks-bytes rest).is }

line-bytes : (indent : List ℕ) (ps : List Piece) (pieces : List (List ℕ)) → bytes ps ≡ joined pieces → Writes (on_own_line indent ps) (line indent pieces)
line-bytes indent ps pieces e =
    as_text _ (seq (blanks-bytes indent) (seq (at_once ps (joined pieces) e) (at_once (newline ∷ []) (10 ∷ []) refl))) (sym (append_assoc indent (joined pieces) (10 ∷ [])))

closing-bytes : (indent : List ℕ) → Writes (closing indent) (line indent (codes "}" ∷ []))
closing-bytes indent = line-bytes indent close_line (codes "}" ∷ []) refl

-- an expression at the end of a line
ended : (e : RawExpression) → bytes (of_expression e ++ s sign.Semicolon ∷ []) ≡ joined (expression_text e ∷ codes ";" ∷ [])
ended e = bracketed sign.Semicolon (of_expression e) (expression_text e) (expression-bytes e)

stored-bytes : (e : RawExpression) → Writes (stored e) (joined (codes "] = " ∷ expression_text e ∷ codes ";" ∷ []))
stored-bytes e = record { is = ap (λ b. codes "] = " ++ b) (ended e) }

-- a block that begins at the end of a line
opened : {ps : List Piece} {t : List ℕ} → Writes ps t → bytes (ps ++ opening) ≡ joined (t ∷ codes " {" ∷ [])
opened e = (seq e (at_once opening (codes " {" ++ []) refl)).is

-- a row at the end of a line
row-ended : (given : RawArguments) → bytes (of_row given ++ s sign.Semicolon ∷ []) ≡ joined (row_text given ∷ codes ";" ∷ [])
row-ended given = bracketed sign.Semicolon (of_row given) (row_text given) (row-bytes given)

row_line-bytes : (indent : List ℕ) (given : RawArguments) → Writes (on_own_line indent (row_line word.Next given)) (line indent (codes "next " ∷ row_text given ∷ codes ";" ∷ []))
row_line-bytes indent given = line-bytes indent (row_line word.Next given) (codes "next " ∷ row_text given ∷ codes ";" ∷ []) (ap (λ b. codes "next " ++ b) (row-ended given))

give_line-bytes : (indent : List ℕ) (given : RawArguments) → Writes (on_own_line indent (row_line word.Give given)) (line indent (codes "give " ∷ row_text given ∷ codes ";" ∷ []))
give_line-bytes indent given = line-bytes indent (row_line word.Give given) (codes "give " ∷ row_text given ∷ codes ";" ∷ []) (ap (λ b. codes "give " ++ b) (row-ended given))

fold_line-bytes : (indent : List ℕ) (head : RawFoldHead) → Writes (on_own_line indent (head_line head)) (fold_line indent head)
fold_line-bytes indent head =
    line-bytes indent (head_line head)
    (codes "specfold " ∷ carried_text head.carried ∷ codes " = " ∷ row_text head.start ∷ codes " for " ∷ head.block ∷ codes " in " ∷ expression_text head.low ∷ codes ".." ∷ expression_text head.high ∷ codes " predict " ∷ guess_text head.predict ∷ codes " {" ∷ [])
    (ap (λ b. codes "specfold " ++ b)
    (seq (carried-bytes head.carried) (record {
      is = ap (λ b. codes " = " ++ b)
          (seq (row-bytes head.start) (record {
            is = ap (λ b. codes " for " ++ (head.block ++ (codes " in " ++ b)))
                (range-then head.low head.high (record { is = ap (λ b. codes " predict " ++ b) (opened (guess-bytes head.predict)) })).is;
          })).is;
    })).is)

pair_line-bytes : (indent : List ℕ) (xs : List (List ℕ)) → Writes (on_own_line indent (pair_line xs)) (line indent (codes "spec " ∷ carried_text xs ∷ codes " = {" ∷ []))
pair_line-bytes indent xs =
    line-bytes indent (pair_line xs) (codes "spec " ∷ carried_text xs ∷ codes " = {" ∷ [])
    (ap (λ b. codes "spec " ++ b) (seq (carried-bytes xs) (at_once (space ∷ s sign.Assign ∷ opening) (codes " = {" ++ []) refl)).is)

mutual
  pub statement-bytes : (indent : List ℕ) (x : RawStatement) → Writes (of_statement indent x) (statement_text indent x)
  statement-bytes indent (Let x value) = line-bytes indent (let_line x value) (codes "let " ∷ x ∷ codes " = " ∷ expression_text value ∷ codes ";" ∷ []) (ap (λ b. codes "let " ++ (x ++ (codes " = " ++ b))) (ended value))
  statement-bytes indent (Assign x value) = line-bytes indent (assign_line x value) (x ∷ codes " = " ∷ expression_text value ∷ codes ";" ∷ []) (ap (λ b. x ++ (codes " = " ++ b)) (ended value))
  statement-bytes indent (Store a index value) =
      line-bytes indent (store_line a index value) (a ∷ codes "[" ∷ expression_text index ∷ codes "] = " ∷ expression_text value ∷ codes ";" ∷ []) (ap (λ b. a ++ (codes "[" ++ b)) (seq (expression-bytes index) (stored-bytes value)).is)
  statement-bytes indent (Fill a low high value) =
      line-bytes indent (fill_line a low high value) (codes "fill " ∷ a ∷ codes "[" ∷ expression_text low ∷ codes ".." ∷ expression_text high ∷ codes "] = " ∷ expression_text value ∷ codes ";" ∷ []) (ap (λ b. codes "fill " ++ (a ++ (codes "[" ++ b))) (range-then low high (stored-bytes value)).is)
  statement-bytes indent (Emit value) = line-bytes indent (word_line word.Emit value) (codes "emit " ∷ expression_text value ∷ codes ";" ∷ []) (ap (λ b. codes "emit " ++ b) (ended value))
  statement-bytes indent (Fail n) = line-bytes indent (fail_line n) (codes "fail " ∷ signed_decimal n ∷ codes ";" ∷ []) refl
  statement-bytes indent (If test a b) =
      three (line-bytes indent (if_line test) (codes "if " ∷ expression_text test ∷ codes " {" ∷ []) (ap (λ b. codes "if " ++ b) (opened (expression-bytes test)))) (block-bytes (deeper indent) a) (otherwise-bytes indent b)
  statement-bytes indent (For x low high body) =
      three (line-bytes indent (for_line x low high) (codes "for " ∷ x ∷ codes " in " ∷ expression_text low ∷ codes ".." ∷ expression_text high ∷ codes " {" ∷ []) (ap (λ b. codes "for " ++ (x ++ (codes " in " ++ b))) (range-then low high (at_once opening (codes " {" ++ []) refl)).is)) (block-bytes (deeper indent) body) (closing-bytes indent)
  statement-bytes indent (While test most body) =
      three (line-bytes indent (while_line test most) (codes "while " ∷ expression_text test ∷ codes " max " ∷ decimal most ∷ codes " {" ∷ []) (ap (λ b. codes "while " ++ b) (seq (expression-bytes test) (at_once (space ∷ w word.Max ∷ space ∷ count most ∷ opening) (codes " max " ++ (decimal most ++ (codes " {" ++ []))) refl)).is)) (block-bytes (deeper indent) body) (closing-bytes indent)
  statement-bytes indent (Do f given) =
      line-bytes indent (do_line f given) (f ∷ codes "(" ∷ arguments_text given ∷ codes ");" ∷ []) (ap (λ b. f ++ (codes "(" ++ b)) (seq (arguments-bytes given) (at_once (s sign.CloseParen ∷ s sign.Semicolon ∷ []) (codes ");" ++ []) refl)).is)
  statement-bytes indent (Fold head body) =
      four (fold_line-bytes indent head) (block-bytes (deeper indent) body) (row_line-bytes (deeper indent) head.next) (closing-bytes indent)
  statement-bytes indent (Pair head producer consumer) =
      six (pair_line-bytes indent head.carried) (block-bytes (deeper indent) producer) (give_line-bytes (deeper indent) head.give)
      (line-bytes indent (consumer_line head.predict) (codes "} predict " ∷ guess_text head.predict ∷ codes " {" ∷ []) (ap (λ b. codes "} predict " ++ b) (opened (guess-bytes head.predict))))
      (block-bytes (deeper indent) consumer) (closing-bytes indent)
  statement-bytes indent Break = line-bytes indent break_line (codes "break;" ∷ []) refl

  otherwise-bytes : (indent : List ℕ) (b : RawBlock) → Writes (of_otherwise indent b) (otherwise_text indent b)
  otherwise-bytes indent end = closing-bytes indent
  otherwise-bytes indent (on_line n first rest) =
      inner (line-bytes indent else_line (codes "} else {" ∷ []) refl) (statement-bytes (deeper indent) first) (block-bytes (deeper indent) rest) (closing-bytes indent)

  pub block-bytes : (indent : List ℕ) (b : RawBlock) → Writes (of_block indent b) (block_text indent b)
  block-bytes indent end = record { is = refl }
  block-bytes indent (on_line n first rest) = seq (statement-bytes indent first) (block-bytes indent rest)

-- ---- programs

size-bytes : (factor offset : ℤ) → Writes (of_size factor offset) (size_text factor offset)
size-bytes (pos zero) offset = record { is = append-nil (signed_decimal offset) }
size-bytes (pos (suc f)) (pos zero) = record { is = refl }
size-bytes (negsuc f) (pos zero) = record { is = refl }
size-bytes (pos (suc f)) (pos (suc o)) = record { is = refl }
size-bytes (pos (suc f)) (negsuc o) = record { is = refl }
size-bytes (negsuc f) (pos (suc o)) = record { is = refl }
size-bytes (negsuc f) (negsuc o) = record { is = refl }

array-bytes : (a : Array) → Writes (of_array a) (array_text a)
array-bytes a =
    line-bytes [] (array_line a) (codes "array " ∷ a.name ∷ codes "[" ∷ size_text a.factor a.offset ∷ codes "];" ∷ [])
    (ap (λ b. codes "array " ++ (a.name ++ (codes "[" ++ b))) (seq (size-bytes a.factor a.offset) (at_once (s sign.CloseBracket ∷ s sign.Semicolon ∷ []) (codes "];" ++ []) refl)).is)

function-bytes : (f : RawFunction) → Writes (of_function f) (function_text f)
function-bytes f =
    four (line-bytes [] (function_line f) (codes "fn " ∷ f.name ∷ codes "(" ∷ names_text f.params ∷ codes ") {" ∷ [])
    (ap (λ b. codes "fn " ++ (f.name ++ (codes "(" ++ b))) (seq (names-bytes f.params) (at_once (s sign.CloseParen ∷ opening) (codes ") {" ++ []) refl)).is))
    (block-bytes (deeper []) f.body) (line-bytes (deeper []) (word_line word.Return f.answer) (codes "return " ∷ expression_text f.answer ∷ codes ";" ∷ []) (ap (λ b. codes "return " ++ b) (ended f.answer))) (closing-bytes [])

arrays-bytes : (as_ : List Array) → Writes (of_arrays as_) (arrays_text as_)
arrays-bytes [] = record { is = refl }
arrays-bytes (a ∷ rest) = seq (array-bytes a) (arrays-bytes rest)

functions-bytes : (fs : List RawFunction) → Writes (of_functions fs) (functions_text fs)
functions-bytes [] = record { is = refl }
functions-bytes (f ∷ rest) = seq (function-bytes f) (functions-bytes rest)

main-bytes : (body : RawBlock) → Writes (of_main body) (main_text body)
main-bytes body = three (line-bytes [] (w word.Main ∷ opening) (codes "main {" ∷ []) refl) (block-bytes (deeper []) body) (closing-bytes [])

header_line-bytes : bytes header_line ≡ joined (codes "version 2;" ∷ [])
unfolding digits
header_line-bytes = refl

header-bytes : (version : ℕ) → Writes (of_header version) (header_text version)
header-bytes version = go (nat_eq version 2)
  where
    go : (b : Bool) → Writes (if b then on_own_line [] header_line else []) (if b then line [] (codes "version 2;" ∷ []) else [])
    go true = line-bytes [] header_line (codes "version 2;" ∷ []) header_line-bytes
    go false = record { is = refl }

-- the bytes of a program's pieces are its canonical text
pub program-bytes : (p : RawProgram) → bytes (of_program p) ≡ canonical_text p
program-bytes p = (four (header-bytes p.version) (arrays-bytes p.arrays) (functions-bytes p.functions) (main-bytes p.main)).is
