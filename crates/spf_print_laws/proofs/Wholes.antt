-- The pieces of each form are whole.
use Rattle.std.proofs.Common.{◌≡◌, ℕ, zero, suc, ◌+◌, ◌<◌, ◌^◌, Bool, true, false, nat_lt, nat_eq, if◌then◌else◌, List, [], ◌∷◌, ◌++◌, length, refl, sym, append_assoc, append-nil, subst, arith, inl, inr, ℤ, pos, negsuc}
use Rattle.std.specs.Fmt.{decimal, signed_decimal}
use Rattle.std.specs.List.{All, AllByRecursion}
use Rattle.std.proofs.lemmas.Fmt.{digits_decimal, decimal_nonempty}
use Rattle.std.proofs.lemmas.Int.{ints}
use Rattle.std.proofs.lemmas.List.Elements.{recursion_from_All}
use Rattle.spf_text.specs.declared.token.Keyword.{Keyword}
use Rattle.spf_text.specs.declared.token.Keyword.TheVariants as word
use Rattle.spf_text.specs.declared.token.Sign.{Sign}
use Rattle.spf_text.specs.declared.token.Sign.TheVariants as sign
use Rattle.spf_text.specs.Tokens.{Piece, IsPiece, IsLetter, IsDigit, IsWordByte}
use Rattle.spf_ast.specs.Syntax.{Array}
use Rattle.spf_ast.specs.RawSyntax.{RawExpression, Number, Local, Len, Input, Load, Call, Neg, Binary, Compare, Both, Either, Not, RawArguments, no_more, argument}
use Rattle.spf_ast.specs.RawSyntax.{RawPredictor, By, Host, RawFoldHead}
use Rattle.spf_ast.specs.RawSyntax.{RawStatement, Let, Assign, Store, Fill, Emit, Fail, If, For, While, Do, Fold, Pair, Break, RawBlock, end, on_line}
use Rattle.spf_ast.specs.RawSyntax.{RawFunction, RawProgram}
use Rattle.spf_ast.specs.Lawful.{IsName, IsNumber}
use Rattle.spf_ast.specs.Carried.{IsWidth}
use Rattle.spf_ast.specs.Spelling.{raw_count, FoldHasRows, PairHasRows, HasRows, HoldRows, IsWritable, IsWritableExpression, AreWritableArguments, IsWritablePredictor, IsWritableStatement, IsWritableBlock, IsWritableArray, IsWritableFunction}
use Rattle.spf_print_forms.specs.Canonical.{level, op_level, comparison_level, unary_level, deeper}
use Rattle.spf_print_laws.proofs.Pieces.{several, fold_line, fold_start, fold_range, fold_guess}
use Rattle.spf_print_laws.proofs.Pieces.{w, s, name, space, newline, bytes, op_sign, test_sign, spaced, enclosed, of_expression, of_arguments, of_further, of_predictor, of_predictors, of_further_predictors, of_carried, of_row, of_guess, blanks, on_own_line, closing, close_line, range, let_line, assign_line, stored, store_line, fill_line, word_line, row_line, fail_line, break_line, opening, if_line, for_line, while_line, do_line, pair_line, consumer_line, else_line, of_statement, of_otherwise, of_block, of_size, of_array, array_line, of_names, of_further_names, function_line, of_function, of_arrays, of_functions, of_main, header_line, of_header, count, of_program}
use Rattle.spf_print_laws.proofs.Bytes.{bytes-append}
use Rattle.spf_print_laws.proofs.Cuts.{AreWhole, whole-append, is_second, NoSecond, NoWord, no_word, no_word-semicolon, no_word-open, no_word-close, sign_spells, paren_spells, bracket_spells, word_spells, name_spells, count_spells, number_spells, numeral_model}

-- pieces that are whole where no word goes on, and that make no sign before them longer
pub record Sound (ps : List Piece) : Type 0 where
  pub whole : (after : List ℕ) → NoWord after → AreWhole ps after
  pub head : (after : List ℕ) → NoSecond (bytes ps ++ after)

-- pieces that are whole whatever comes after
pub record Ended (ps : List Piece) : Type 0 where
  pub whole : (after : List ℕ) → AreWhole ps after

-- ---- first bytes

digit_head : (d : ℕ) → IsDigit d → is_second d ≡ false
digit_head d h = grind (arith, h)

letter_head : (d : ℕ) → IsLetter d → is_second d ≡ false
letter_head d (inl h) = grind (arith, h)
letter_head d (inr (inl h)) = grind (arith, h)
letter_head d (inr (inr h)) = grind (arith, h)

digits_head : (ds after : List ℕ) → 0 < length ds → AllByRecursion IsDigit ds → NoSecond (ds ++ after)
digits_head [] after some h = absurd (omega (arith, some))
digits_head (d ∷ ds) after some h = digit_head d h.0

count_head : (n : ℕ) (after : List ℕ) → n < 2 ^ 63 → NoSecond (decimal n ++ after)
count_head n after l = let small : n < 2 ^ 64 = omega (arith, l) in digits_head (decimal n) after (decimal_nonempty n small) (digits_decimal numeral_model n small)

number_head : (n : ℤ) (after : List ℕ) → IsNumber n → NoSecond (signed_decimal n ++ after)
number_head (pos n) after h = count_head n after (omega (arith, ints, h))
number_head (negsuc n) after h = absurd (omega (arith, ints, h))

name_head : (x after : List ℕ) → IsName x → NoSecond (x ++ after)
name_head [] after h = absurd h.0
name_head (b ∷ rest) after h = letter_head b h.0.0

-- the same of more text after
regroup : (t u after : List ℕ) → NoSecond (t ++ (u ++ after)) → NoSecond (t ++ u ++ after)
regroup t u after h = subst NoSecond (sym (append_assoc t u after)) h

-- ---- expressions

no_word-space : IsWordByte 32 → ⊥
no_word-space = no_word 32 (omega arith)

enclosed-sound : (b : Bool) (ps : List Piece) → Sound ps → Sound (enclosed b ps)
enclosed-sound false ps h = h
enclosed-sound true ps h = record {
  whole = λ after no_. (sign_spells sign.OpenParen _ (headed after), whole-append ps (s sign.CloseParen ∷ []) after (h.whole (41 ∷ after) (no_word 41 (omega arith))) (paren_spells after, tt));
  head = λ after. refl;
}
  where
    headed : (after : List ℕ) → NoSecond (bytes (ps ++ s sign.CloseParen ∷ []) ++ after)
    headed after = subst (λ t. NoSecond (t ++ after)) (sym (bytes-append ps (s sign.CloseParen ∷ []))) (regroup (bytes ps) (41 ∷ []) after (h.head (41 ∷ after)))

-- pieces, a sign between spaces, and further pieces
infix-sound : (ps qs : List Piece) (x : Sign) → Sound ps → Sound qs → Sound (ps ++ (spaced x ++ qs))
infix-sound ps qs x h k = record {
  whole = λ after no_. whole-append ps (spaced x ++ qs) after (h.whole (bytes (spaced x ++ qs) ++ after) no_word-space) (inl refl, (sign_spells x _ refl, (inl refl, k.whole after no_)));
  head = λ after. subst (λ t. NoSecond (t ++ after)) (sym (bytes-append ps (spaced x ++ qs))) (regroup (bytes ps) (bytes (spaced x ++ qs)) after (h.head (bytes (spaced x ++ qs) ++ after)));
}

-- an index in its brackets, after a word
bracketed : (p : Piece) (ps : List Piece) → ((after : List ℕ) → IsPiece p (91 ∷ after)) → Sound ps → (after : List ℕ) → AreWhole (p ∷ s sign.OpenBracket ∷ (ps ++ s sign.CloseBracket ∷ [])) after
bracketed p ps first h after = (
  first _,
  (
    sign_spells sign.OpenBracket _ (subst (λ t. NoSecond (t ++ after)) (sym (bytes-append ps (s sign.CloseBracket ∷ []))) (regroup (bytes ps) (93 ∷ []) after (h.head (93 ∷ after)))),
    whole-append ps (s sign.CloseBracket ∷ []) after (h.whole (93 ∷ after) no_word-close) (bracket_spells after, tt),
  ),
)

-- a word, and a list in parentheses
called : (p : Piece) (ps : List Piece) → ((after : List ℕ) → IsPiece p (40 ∷ after)) → ((after : List ℕ) → AreWhole ps (41 ∷ after)) → ((after : List ℕ) → NoSecond (bytes ps ++ 41 ∷ after)) → (qs : List Piece) (after : List ℕ) → AreWhole qs after → AreWhole (p ∷ s sign.OpenParen ∷ (ps ++ s sign.CloseParen ∷ qs)) after
called p ps first whole head qs after h = (
  first _,
  (
    sign_spells sign.OpenParen _ (subst (λ t. NoSecond (t ++ after)) (sym (bytes-append ps (s sign.CloseParen ∷ qs))) (regroup (bytes ps) (41 ∷ bytes qs) after (head (bytes qs ++ after)))),
    whole-append ps (s sign.CloseParen ∷ qs) after (whole (bytes qs ++ after)) (paren_spells _, h),
  ),
)

mutual
  pub expression-sound : (e : RawExpression) → IsWritableExpression e → Sound (of_expression e)
  expression-sound (Number n) h = record {
    whole = λ after no_. (number_spells n after h no_, tt);
    head = λ after. regroup (signed_decimal n) [] after (number_head n after h);
  }
  expression-sound (Local x) h = record {
    whole = λ after no_. (name_spells x after h no_, tt);
    head = λ after. regroup x [] after (name_head x after h);
  }
  expression-sound Len h = record { whole = λ after no_. (word_spells word.Len after no_, tt); head = λ after. refl }
  expression-sound (Input index) h = record {
    whole = λ after no_. bracketed (w word.Input) (of_expression index) (λ rest. word_spells word.Input (91 ∷ rest) no_word-open) (expression-sound index h) after;
    head = λ after. refl;
  }
  expression-sound (Load a index) h = record {
    whole = λ after no_. bracketed (name a) (of_expression index) (λ rest. name_spells a (91 ∷ rest) h.0 no_word-open) (expression-sound index h.1) after;
    head = λ after. regroup a _ after (name_head a _ h.0);
  }
  expression-sound (Call f given) h = record {
    whole = λ after no_. called (name f) (of_arguments given) (λ rest. name_spells f (40 ∷ rest) h.0 (no_word 40 (omega arith))) (arguments-whole given h.1) (arguments-head given h.1) [] after tt;
    head = λ after. regroup f _ after (name_head f _ h.0);
  }
  expression-sound (Neg a) h =
      let inner = enclosed-sound (nat_lt (level a) unary_level) (of_expression a) (expression-sound a h) in
      record { whole = λ after no_. (sign_spells sign.Minus _ (inner.head after), inner.whole after no_); head = λ after. refl }
  expression-sound (Not a) h =
      let inner = enclosed-sound (nat_lt (level a) unary_level) (of_expression a) (expression-sound a h) in
      record { whole = λ after no_. (sign_spells sign.Not _ (inner.head after), inner.whole after no_); head = λ after. refl }
  expression-sound (Binary o a b) h =
      infix-sound _ _ (op_sign o) (enclosed-sound (nat_lt (level a) (op_level o)) (of_expression a) (expression-sound a h.0)) (enclosed-sound (nat_lt (level b) (op_level o + 1)) (of_expression b) (expression-sound b h.1))
  expression-sound (Compare t a b) h =
      infix-sound _ _ (test_sign t) (enclosed-sound (nat_lt (level a) (comparison_level + 1)) (of_expression a) (expression-sound a h.0)) (enclosed-sound (nat_lt (level b) (comparison_level + 1)) (of_expression b) (expression-sound b h.1))
  expression-sound (Both a b) h =
      infix-sound _ _ sign.AndAnd (enclosed-sound (nat_lt (level a) 2) (of_expression a) (expression-sound a h.0)) (enclosed-sound (nat_lt (level b) 3) (of_expression b) (expression-sound b h.1))
  expression-sound (Either a b) h =
      infix-sound _ _ sign.OrOr (enclosed-sound (nat_lt (level a) 1) (of_expression a) (expression-sound a h.0)) (enclosed-sound (nat_lt (level b) 2) (of_expression b) (expression-sound b h.1))

  -- arguments, before a closing parenthesis
  pub arguments-whole : (given : RawArguments) → AreWritableArguments given → (after : List ℕ) → AreWhole (of_arguments given) (41 ∷ after)
  arguments-whole no_more h after = tt
  arguments-whole (argument first rest) h after =
      whole-append (of_expression first) (of_further rest) (41 ∷ after) ((expression-sound first h.0).whole _ (further-stops rest after)) (further-whole rest h.1 after)

  pub arguments-head : (given : RawArguments) → AreWritableArguments given → (after : List ℕ) → NoSecond (bytes (of_arguments given) ++ 41 ∷ after)
  arguments-head no_more h after = refl
  arguments-head (argument first rest) h after =
      subst (λ t. NoSecond (t ++ 41 ∷ after)) (sym (bytes-append (of_expression first) (of_further rest))) (regroup (bytes (of_expression first)) (bytes (of_further rest)) (41 ∷ after) ((expression-sound first h.0).head _))

  further-whole : (given : RawArguments) → AreWritableArguments given → (after : List ℕ) → AreWhole (of_further given) (41 ∷ after)
  further-whole no_more h after = tt
  further-whole (argument first rest) h after =
      (sign_spells sign.Comma _ refl, (inl refl, whole-append (of_expression first) (of_further rest) (41 ∷ after) ((expression-sound first h.0).whole _ (further-stops rest after)) (further-whole rest h.1 after)))

  further-stops : (given : RawArguments) (after : List ℕ) → NoWord (bytes (of_further given) ++ 41 ∷ after)
  further-stops no_more after = no_word 41 (omega arith)
  further-stops (argument first rest) after = no_word 44 (omega arith)

pub predictor-sound : (p : RawPredictor) → IsWritablePredictor p → Sound (of_predictor p)
predictor-sound (By guess) h = expression-sound guess h
predictor-sound (Host n) h = record {
  whole = λ after no_. (word_spells word.Host (32 ∷ []) no_word-space, (inl refl, (count_spells n after h no_, tt)));
  head = λ after. refl;
}

-- predictors, before a closing parenthesis
further_predictors-stop : (gs : List RawPredictor) (after : List ℕ) → NoWord (bytes (of_further_predictors gs) ++ 41 ∷ after)
further_predictors-stop [] after = no_word 41 (omega arith)
further_predictors-stop (g ∷ gs) after = no_word 44 (omega arith)

further_predictors-whole : (gs : List RawPredictor) → AllByRecursion IsWritablePredictor gs → (after : List ℕ) → AreWhole (of_further_predictors gs) (41 ∷ after)
further_predictors-whole [] h after = tt
further_predictors-whole (g ∷ gs) h after =
    (sign_spells sign.Comma _ refl, (inl refl, whole-append (of_predictor g) (of_further_predictors gs) (41 ∷ after) ((predictor-sound g h.0).whole _ (further_predictors-stop gs after)) (further_predictors-whole gs h.1 after)))

predictors-whole : (gs : List RawPredictor) → AllByRecursion IsWritablePredictor gs → (after : List ℕ) → AreWhole (of_predictors gs) (41 ∷ after)
predictors-whole [] h after = tt
predictors-whole (g ∷ gs) h after =
    whole-append (of_predictor g) (of_further_predictors gs) (41 ∷ after) ((predictor-sound g h.0).whole _ (further_predictors-stop gs after)) (further_predictors-whole gs h.1 after)

predictors-head : (gs : List RawPredictor) → AllByRecursion IsWritablePredictor gs → (after : List ℕ) → NoSecond (bytes (of_predictors gs) ++ 41 ∷ after)
predictors-head [] h after = refl
predictors-head (g ∷ gs) h after =
    subst (λ t. NoSecond (t ++ 41 ∷ after)) (sym (bytes-append (of_predictor g) (of_further_predictors gs))) (regroup (bytes (of_predictor g)) (bytes (of_further_predictors gs)) (41 ∷ after) ((predictor-sound g h.0).head _))

further_names-stop : (xs : List (List ℕ)) (after : List ℕ) → NoWord (bytes (of_further_names xs) ++ 41 ∷ after)
further_names-stop [] after = no_word 41 (omega arith)
further_names-stop (x ∷ xs) after = no_word 44 (omega arith)

-- names, before a closing parenthesis
further_names-whole : (xs : List (List ℕ)) → AllByRecursion IsName xs → (after : List ℕ) → AreWhole (of_further_names xs) (41 ∷ after)
further_names-whole [] h after = tt
further_names-whole (x ∷ xs) h after = (sign_spells sign.Comma _ refl, (inl refl, (name_spells x _ h.0 (further_names-stop xs after), further_names-whole xs h.1 after)))

names-whole : (xs : List (List ℕ)) → AllByRecursion IsName xs → (after : List ℕ) → AreWhole (of_names xs) (41 ∷ after)
names-whole [] h after = tt
names-whole (x ∷ xs) h after = (name_spells x _ h.0 (further_names-stop xs after), further_names-whole xs h.1 after)

names-head : (xs : List (List ℕ)) → AllByRecursion IsName xs → (after : List ℕ) → NoSecond (bytes (of_names xs) ++ 41 ∷ after)
names-head [] h after = refl
names-head (x ∷ xs) h after = regroup x (bytes (of_further_names xs)) (41 ∷ after) (name_head x _ h.0)

-- ---- rows

-- a list in parentheses
listed-sound : (ps : List Piece) → ((after : List ℕ) → AreWhole ps (41 ∷ after)) → ((after : List ℕ) → NoSecond (bytes ps ++ 41 ∷ after)) → Sound (enclosed true ps)
listed-sound ps whole head = record {
  whole = λ after no_. (sign_spells sign.OpenParen _ (headed after), whole-append ps (s sign.CloseParen ∷ []) after (whole after) (paren_spells after, tt));
  head = λ after. refl;
}
  where
    headed : (after : List ℕ) → NoSecond (bytes (ps ++ s sign.CloseParen ∷ []) ++ after)
    headed after = subst (λ t. NoSecond (t ++ after)) (sym (bytes-append ps (s sign.CloseParen ∷ []))) (regroup (bytes ps) (41 ∷ []) after (head after))

-- pieces, and no more
alone-sound : (ps : List Piece) → Sound ps → Sound (ps ++ [])
alone-sound ps h = subst Sound (sym (append-nil ps)) h

carried-sound : (xs : List (List ℕ)) → AllByRecursion IsName xs → IsWidth (length xs) → Sound (of_carried xs)
carried-sound [] h w = absurd (omega (arith, w.0))
carried-sound (x ∷ []) h w = record {
  whole = λ after no_. (name_spells x after h.0 no_, tt);
  head = λ after. regroup x [] after (name_head x after h.0);
}
carried-sound (x ∷ y ∷ xs) h w =
    subst (λ b. Sound (enclosed b (of_names (x ∷ y ∷ xs)))) (sym (several (length xs)))
    (listed-sound (of_names (x ∷ y ∷ xs)) (names-whole (x ∷ y ∷ xs) h) (names-head (x ∷ y ∷ xs) h))

row-sound : (given : RawArguments) → AreWritableArguments given → IsWidth (raw_count given) → Sound (of_row given)
row-sound no_more h w = absurd (omega (arith, w.0))
row-sound (argument a no_more) h w = alone-sound (of_expression a) (expression-sound a h.0)
row-sound (argument a (argument b rest)) h w =
    subst (λ t. Sound (enclosed t (of_arguments (argument a (argument b rest))))) (sym (several (raw_count rest)))
    (listed-sound (of_arguments (argument a (argument b rest))) (arguments-whole (argument a (argument b rest)) h) (arguments-head (argument a (argument b rest)) h))

guess-sound : (gs : List RawPredictor) → AllByRecursion IsWritablePredictor gs → IsWidth (length gs) → Sound (of_guess gs)
guess-sound [] h w = absurd (omega (arith, w.0))
guess-sound (g ∷ []) h w = alone-sound (of_predictor g) (predictor-sound g h.0)
guess-sound (g ∷ k ∷ gs) h w =
    subst (λ b. Sound (enclosed b (of_predictors (g ∷ k ∷ gs)))) (sym (several (length gs)))
    (listed-sound (of_predictors (g ∷ k ∷ gs)) (predictors-whole (g ∷ k ∷ gs) h) (predictors-head (g ∷ k ∷ gs) h))

-- ---- lines

-- spaces alone
abbrev pub AreSpaces : List ℕ → Type 0
AreSpaces indent = AllByRecursion (λ b. b ≡ 32) indent

blanks-whole : (indent : List ℕ) (after : List ℕ) → AreSpaces indent → AreWhole (blanks indent) after
blanks-whole [] after h = tt
blanks-whole (b ∷ rest) after h = (inl h.0, blanks-whole rest after h.1)

-- a line, whose pieces are whole before its end
line-ended : (indent : List ℕ) (ps : List Piece) → AreSpaces indent → ((after : List ℕ) → AreWhole ps (10 ∷ after)) → Ended (on_own_line indent ps)
line-ended indent ps h whole = record {
  whole = λ after. whole-append (blanks indent) (ps ++ newline ∷ []) after (blanks-whole indent _ h) (whole-append ps (newline ∷ []) after (whole after) (inr (inr (inl refl)), tt));
}

both-ended : {ps qs : List Piece} → Ended ps → Ended qs → Ended (ps ++ qs)
both-ended {ps} {qs} h k = record { whole = λ after. whole-append ps qs after (h.whole _) (k.whole after) }

deeper-spaces : (indent : List ℕ) → AreSpaces indent → AreSpaces (deeper indent)
deeper-spaces [] h = (refl, (refl, tt))
deeper-spaces (b ∷ rest) h = (h.0, deeper-spaces rest h.1)

-- an expression at the end of a line
finished : (e : RawExpression) → IsWritableExpression e → (after : List ℕ) → AreWhole (of_expression e ++ s sign.Semicolon ∷ []) (10 ∷ after)
finished e h after = whole-append (of_expression e) (s sign.Semicolon ∷ []) (10 ∷ after) ((expression-sound e h).whole _ no_word-semicolon) (sign_spells sign.Semicolon (10 ∷ after) refl, tt)

-- a row at the end of a line
row-finished : (given : RawArguments) → AreWritableArguments given → IsWidth (raw_count given) → (after : List ℕ) → AreWhole (of_row given ++ s sign.Semicolon ∷ []) (10 ∷ after)
row-finished given h w after = whole-append (of_row given) (s sign.Semicolon ∷ []) (10 ∷ after) ((row-sound given h w).whole _ no_word-semicolon) (sign_spells sign.Semicolon (10 ∷ after) refl, tt)

-- a block that begins at the end of a line
opens : (after : List ℕ) → AreWhole opening (10 ∷ after)
opens after = (inl refl, (sign_spells sign.OpenBrace (10 ∷ after) refl, tt))

opened : (ps : List Piece) → Sound ps → (after : List ℕ) → AreWhole (ps ++ opening) (10 ∷ after)
opened ps h after = whole-append ps opening (10 ∷ after) (h.whole _ no_word-space) (opens after)

-- a range of numbers
range-sound : (low high : RawExpression) → IsWritableExpression low → IsWritableExpression high → Sound (range low high)
range-sound low high h k = record {
  whole = λ after no_. whole-append (of_expression low) (s sign.DotDot ∷ of_expression high) after ((expression-sound low h).whole _ (no_word 46 (omega arith))) (sign_spells sign.DotDot _ ((expression-sound high k).head after), (expression-sound high k).whole after no_);
  head = λ after. subst (λ t. NoSecond (t ++ after)) (sym (bytes-append (of_expression low) (s sign.DotDot ∷ of_expression high))) (regroup (bytes (of_expression low)) _ after ((expression-sound low h).head _));
}

-- a name before a space
named : (x : List ℕ) → IsName x → IsPiece (name x) (32 ∷ [])
named x h = name_spells x (32 ∷ []) h no_word-space

-- a word before a space
worded : (k : Keyword) → IsPiece (w k) (32 ∷ [])
worded k = word_spells k (32 ∷ []) no_word-space

assigned : (e : RawExpression) → IsWritableExpression e → (after : List ℕ) → AreWhole (space ∷ s sign.Assign ∷ space ∷ (of_expression e ++ s sign.Semicolon ∷ [])) (10 ∷ after)
assigned e h after = (inl refl, (sign_spells sign.Assign _ refl, (inl refl, finished e h after)))

-- the index or the range of an assignment, and the value
indexed : (a : List ℕ) (ps : List Piece) (e : RawExpression) → IsName a → Sound ps → IsWritableExpression e → (after : List ℕ) → AreWhole (name a ∷ s sign.OpenBracket ∷ (ps ++ stored e)) (10 ∷ after)
indexed a ps e n h k after = (
  name_spells a (91 ∷ []) n no_word-open,
  (
    sign_spells sign.OpenBracket _ (subst (λ t. NoSecond (t ++ 10 ∷ after)) (sym (bytes-append ps (stored e))) (regroup (bytes ps) (bytes (stored e)) (10 ∷ after) (h.head _))),
    whole-append ps (stored e) (10 ∷ after) (h.whole _ no_word-close) (bracket_spells _, assigned e k after),
  ),
)

closing-ended : (indent : List ℕ) → AreSpaces indent → Ended (closing indent)
closing-ended indent h = line-ended indent close_line h (λ after. (sign_spells sign.CloseBrace (10 ∷ after) refl, tt))

word_line-ended : (indent : List ℕ) (k : Keyword) (e : RawExpression) → AreSpaces indent → IsWritableExpression e → Ended (on_own_line indent (word_line k e))
word_line-ended indent k e h v = line-ended indent (word_line k e) h (λ after. (worded k, (inl refl, finished e v after)))

row_line-ended : (indent : List ℕ) (k : Keyword) (given : RawArguments) → AreSpaces indent → AreWritableArguments given → IsWidth (raw_count given) → Ended (on_own_line indent (row_line k given))
row_line-ended indent k given h v w = line-ended indent (row_line k given) h (λ after. (worded k, (inl refl, row-finished given v w after)))

-- a guess that ends a line
guess-opened : (gs : List RawPredictor) → All IsWritablePredictor gs → IsWidth (length gs) → (after : List ℕ) → AreWhole (w word.Predict ∷ space ∷ (of_guess gs ++ opening)) (10 ∷ after)
guess-opened gs h k after = (worded word.Predict, (inl refl, opened (of_guess gs) (guess-sound gs (recursion_from_All IsWritablePredictor gs h) k) after))

-- the line of a fold from its range on, from its start on, and whole
range-whole : (head : RawFoldHead) (body : RawBlock) → IsWritableStatement (Fold head body) → FoldHasRows head → (after : List ℕ) → AreWhole (fold_range head) (10 ∷ after)
range-whole head body h rows after =
    let guess : AreWhole (fold_guess head) (10 ∷ after) = (inl refl, guess-opened head.predict h.0.5 rows.predict after) in
    let numbers = whole-append (range head.low head.high) _ (10 ∷ after) ((range-sound head.low head.high h.0.3 h.0.4).whole _ no_word-space) guess in
    (inl refl, (worded word.For, (inl refl, (named head.block h.0.2, (inl refl, (worded word.In, (inl refl, numbers)))))))

start-whole : (head : RawFoldHead) (body : RawBlock) → IsWritableStatement (Fold head body) → FoldHasRows head → (after : List ℕ) → AreWhole (fold_start head) (10 ∷ after)
start-whole head body h rows after =
    (inl refl, (sign_spells sign.Assign _ refl, (inl refl, whole-append (of_row head.start) _ (10 ∷ after) ((row-sound head.start h.0.1 rows.start).whole _ no_word-space) (range-whole head body h rows after))))

fold_line-whole : (head : RawFoldHead) (body : RawBlock) → IsWritableStatement (Fold head body) → FoldHasRows head → (after : List ℕ) → AreWhole (fold_line head) (10 ∷ after)
fold_line-whole head body h rows after =
    (worded word.Specfold, (inl refl, whole-append (of_carried head.carried) _ (10 ∷ after) ((carried-sound head.carried (recursion_from_All IsName head.carried h.0.0) h.0.7).whole _ no_word-space) (start-whole head body h rows after)))

pair_line-whole : (xs : List (List ℕ)) → All IsName xs → IsWidth (length xs) → (after : List ℕ) → AreWhole (pair_line xs) (10 ∷ after)
pair_line-whole xs h k after =
    (worded word.Spec, (inl refl, whole-append (of_carried xs) _ (10 ∷ after) ((carried-sound xs (recursion_from_All IsName xs h) k).whole _ no_word-space) (inl refl, (sign_spells sign.Assign _ refl, opens after))))

mutual
  pub statement-ended : (indent : List ℕ) (x : RawStatement) → AreSpaces indent → IsWritableStatement x → HasRows x → Ended (of_statement indent x)
  statement-ended indent (Let x value) i h rows = line-ended indent (let_line x value) i (λ after. (worded word.Let, (inl refl, (named x h.0, assigned value h.1 after))))
  statement-ended indent (Assign x value) i h rows = line-ended indent (assign_line x value) i (λ after. (named x h.0, assigned value h.1 after))
  statement-ended indent (Store a index value) i h rows =
      line-ended indent (store_line a index value) i (λ after. indexed a (of_expression index) value h.0 (expression-sound index h.1) h.2 after)
  statement-ended indent (Fill a low high value) i h rows =
      line-ended indent (fill_line a low high value) i (λ after. (worded word.Fill, (inl refl, indexed a (range low high) value h.0 (range-sound low high h.1 h.2) h.3 after)))
  statement-ended indent (Emit value) i h rows = word_line-ended indent word.Emit value i h
  statement-ended indent (Fail n) i h rows =
      line-ended indent (fail_line n) i (λ after. (worded word.Fail, (inl refl, (number_spells n (59 ∷ []) h no_word-semicolon, (sign_spells sign.Semicolon (10 ∷ after) refl, tt)))))
  statement-ended indent (If test a b) i h rows =
      both-ended (line-ended indent (if_line test) i (λ after. (worded word.If, (inl refl, opened (of_expression test) (expression-sound test h.0) after))))
      (both-ended (block-ended (deeper indent) a (deeper-spaces indent i) h.1 rows.0) (otherwise-ended indent b i h.2 rows.1))
  statement-ended indent (For x low high body) i h rows =
      both-ended (line-ended indent (for_line x low high) i (λ after. (worded word.For, (inl refl, (named x h.0, (inl refl, (worded word.In, (inl refl, opened (range low high) (range-sound low high h.1 h.2) after))))))))
      (both-ended (block-ended (deeper indent) body (deeper-spaces indent i) h.3 rows) (closing-ended indent i))
  statement-ended indent (While test most body) i h rows =
      both-ended (line-ended indent (while_line test most) i (λ after. (
        worded word.While,
        (
          inl refl,
          whole-append (of_expression test) _ (10 ∷ after) ((expression-sound test h.0).whole _ no_word-space)
              (inl refl, (worded word.Max, (inl refl, (count_spells most (32 ∷ []) h.1 no_word-space, opens after)))),
        ),
      )))
      (both-ended (block-ended (deeper indent) body (deeper-spaces indent i) h.2 rows) (closing-ended indent i))
  statement-ended indent (Do f given) i h rows =
      line-ended indent (do_line f given) i (λ after. called (name f) (of_arguments given) (λ rest. name_spells f (40 ∷ rest) h.0 (no_word 40 (omega arith))) (arguments-whole given h.1) (arguments-head given h.1) (s sign.Semicolon ∷ []) (10 ∷ after) (sign_spells sign.Semicolon (10 ∷ after) refl, tt))
  statement-ended indent (Fold head body) i h rows =
      both-ended (line-ended indent (fold_line head) i (fold_line-whole head body h rows.0))
      (both-ended (block-ended (deeper indent) body (deeper-spaces indent i) h.1 rows.1) (both-ended (row_line-ended (deeper indent) word.Next head.next (deeper-spaces indent i) h.0.6 rows.0.next) (closing-ended indent i)))
  statement-ended indent (Pair head producer consumer) i h rows =
      both-ended (line-ended indent (pair_line head.carried) i (pair_line-whole head.carried h.0.0 h.0.3))
      (both-ended (block-ended (deeper indent) producer (deeper-spaces indent i) h.1 rows.1)
      (both-ended (row_line-ended (deeper indent) word.Give head.give (deeper-spaces indent i) h.0.1 rows.0.give)
      (both-ended (line-ended indent (consumer_line head.predict) i (λ after. (sign_spells sign.CloseBrace _ refl, (inl refl, guess-opened head.predict h.0.2 rows.0.predict after))))
      (both-ended (block-ended (deeper indent) consumer (deeper-spaces indent i) h.2 rows.2) (closing-ended indent i)))))
  statement-ended indent Break i h rows = line-ended indent break_line i (λ after. (word_spells word.Break (59 ∷ []) no_word-semicolon, (sign_spells sign.Semicolon (10 ∷ after) refl, tt)))

  otherwise-ended : (indent : List ℕ) (b : RawBlock) → AreSpaces indent → IsWritableBlock b → HoldRows b → Ended (of_otherwise indent b)
  otherwise-ended indent end i h rows = closing-ended indent i
  otherwise-ended indent (on_line n first rest) i h rows =
      both-ended (line-ended indent else_line i (λ after. (sign_spells sign.CloseBrace _ refl, (inl refl, (worded word.Else, opens after)))))
      (both-ended (both-ended (statement-ended (deeper indent) first (deeper-spaces indent i) h.0 rows.0) (block-ended (deeper indent) rest (deeper-spaces indent i) h.1 rows.1)) (closing-ended indent i))

  pub block-ended : (indent : List ℕ) (b : RawBlock) → AreSpaces indent → IsWritableBlock b → HoldRows b → Ended (of_block indent b)
  block-ended indent end i h rows = record { whole = λ after. tt }
  block-ended indent (on_line n first rest) i h rows = both-ended (statement-ended indent first i h.0 rows.0) (block-ended indent rest i h.1 rows.1)

-- ---- programs

-- a size, before a closing bracket
size-whole : (factor offset : ℤ) → IsNumber factor → IsNumber offset → (after : List ℕ) → AreWhole (of_size factor offset) (93 ∷ after)
size-whole (pos zero) offset h k after = (number_spells offset (93 ∷ []) k no_word-close, tt)
size-whole (pos (suc f)) (pos zero) h k after = (number_spells (pos (suc f)) (42 ∷ []) h (no_word 42 (omega arith)), (sign_spells sign.Star _ refl, (word_spells word.Len (93 ∷ []) no_word-close, tt)))
size-whole (pos (suc f)) (pos (suc o)) h k after =
    (number_spells (pos (suc f)) (42 ∷ []) h (no_word 42 (omega arith)), (sign_spells sign.Star _ refl, (worded word.Len, (inl refl, (sign_spells sign.Plus _ refl, (inl refl, (number_spells (pos (suc o)) (93 ∷ []) k no_word-close, tt)))))))
size-whole (pos (suc f)) (negsuc o) h k after = absurd (omega (arith, ints, k))
size-whole (negsuc f) offset h k after = absurd (omega (arith, ints, h))

size-head : (factor offset : ℤ) → IsNumber factor → IsNumber offset → (after : List ℕ) → NoSecond (bytes (of_size factor offset) ++ after)
size-head (pos zero) offset h k after = regroup (signed_decimal offset) [] after (number_head offset after k)
size-head (pos (suc f)) (pos zero) h k after = regroup (decimal (suc f)) _ after (number_head (pos (suc f)) _ h)
size-head (pos (suc f)) (pos (suc o)) h k after = regroup (decimal (suc f)) _ after (number_head (pos (suc f)) _ h)
size-head (pos (suc f)) (negsuc o) h k after = absurd (omega (arith, ints, k))
size-head (negsuc f) offset h k after = absurd (omega (arith, ints, h))

array-ended : (a : Array) → IsWritableArray a → Ended (of_array a)
array-ended a h =
    line-ended [] (array_line a) tt (λ after. (
      worded word.Array,
      (
        inl refl,
        (
          name_spells a.name (91 ∷ []) h.0 no_word-open,
          (
            sign_spells sign.OpenBracket _ (headed after),
            whole-append (of_size a.factor a.offset) (s sign.CloseBracket ∷ s sign.Semicolon ∷ []) (10 ∷ after) (size-whole a.factor a.offset h.1 h.2 _) (bracket_spells _, (sign_spells sign.Semicolon (10 ∷ after) refl, tt)),
          ),
        ),
      ),
    ))
  where
    headed : (after : List ℕ) → NoSecond (bytes (of_size a.factor a.offset ++ s sign.CloseBracket ∷ s sign.Semicolon ∷ []) ++ 10 ∷ after)
    headed after = subst (λ t. NoSecond (t ++ 10 ∷ after)) (sym (bytes-append (of_size a.factor a.offset) (s sign.CloseBracket ∷ s sign.Semicolon ∷ []))) (regroup (bytes (of_size a.factor a.offset)) (93 ∷ 59 ∷ []) (10 ∷ after) (size-head a.factor a.offset h.1 h.2 _))

function-ended : (f : RawFunction) → IsWritableFunction f → HoldRows f.body → Ended (of_function f)
function-ended f h rows =
    both-ended (line-ended [] (function_line f) tt (λ after. (
      worded word.Fn,
      (
        inl refl,
        called (name f.name) (of_names f.params) (λ rest. name_spells f.name (40 ∷ rest) h.0 (no_word 40 (omega arith))) (names-whole f.params (recursion_from_All IsName f.params h.1)) (names-head f.params (recursion_from_All IsName f.params h.1)) opening (10 ∷ after) (opens after),
      ),
    )))
    (both-ended (block-ended (deeper []) f.body (deeper-spaces [] tt) h.2 rows) (both-ended (word_line-ended (deeper []) word.Return f.answer (deeper-spaces [] tt) h.3) (closing-ended [] tt)))

arrays-ended : (as_ : List Array) → AllByRecursion IsWritableArray as_ → Ended (of_arrays as_)
arrays-ended [] h = record { whole = λ after. tt }
arrays-ended (a ∷ rest) h = both-ended (array-ended a h.0) (arrays-ended rest h.1)

functions-ended : (fs : List RawFunction) → AllByRecursion IsWritableFunction fs → AllByRecursion (λ (f : RawFunction). HoldRows f.body) fs → Ended (of_functions fs)
functions-ended [] h rows = record { whole = λ after. tt }
functions-ended (f ∷ rest) h rows = both-ended (function-ended f h.0 rows.0) (functions-ended rest h.1 rows.1)

main-ended : (body : RawBlock) → IsWritableBlock body → HoldRows body → Ended (of_main body)
main-ended body h rows =
    both-ended (line-ended [] (w word.Main ∷ opening) tt (λ after. (worded word.Main, opens after))) (both-ended (block-ended (deeper []) body (deeper-spaces [] tt) h rows) (closing-ended [] tt))

header-ended : (version : ℕ) → Ended (of_header version)
header-ended version = go (nat_eq version 2)
  where
    go : (b : Bool) → Ended (if b then on_own_line [] header_line else [])
    go true = line-ended [] header_line tt (λ after. (worded word.Version, (inl refl, (count_spells 2 (59 ∷ []) (omega arith) no_word-semicolon, (sign_spells sign.Semicolon (10 ∷ after) refl, tt)))))
    go false = record { whole = λ after. tt }

-- the pieces of a program are whole
pub program-ended : (p : RawProgram) → IsWritable p → Ended (of_program p)
program-ended p h =
    let f = h.well_formed in
    both-ended (header-ended p.version)
    (both-ended (arrays-ended p.arrays (recursion_from_All IsWritableArray p.arrays f.arrays))
    (both-ended (functions-ended p.functions (recursion_from_All IsWritableFunction p.functions f.functions) (recursion_from_All (λ (f : RawFunction). HoldRows f.body) p.functions h.functions)) (main-ended p.main f.main h.main)))
