-- What is read from lexemes whose names and numbers can be written can be written.
use Rattle.std.proofs.Common.{◌≡◌, ℕ, zero, suc, ◌<◌, ◌^◌, Bool, true, false, List, [], ◌∷◌, refl, sym, ◌∙◌, ap, subst, arith, inl, inr, ℤ, pos, nat_eq}
use Rattle.std.specs.Prelude.{if◌then◌else◌, ◌⊎◌, ◌≤◌, ◌||◌}
use Rattle.std.proofs.Math.Facts.{yes_leb, yes_ltb, ltb_yes}
use Rattle.std.specs.List.{All}
use Rattle.std.proofs.lemmas.List.Elements.{All-cons, All-nil}
use Rattle.std.specs.Prelude.{length, slice_index_or, slice_range, drop}
use Rattle.spf_text.specs.declared.token.Token.{Token}
use Rattle.spf_text.specs.declared.token.Keyword.{Keyword}
use Rattle.spf_text.specs.declared.token.Keyword.TheVariants as word
use Rattle.spf_text.specs.Tokens.{Spells, IsSpelledIn, Begins, IsLetter, IsWordByte, word_spelling, number_from}
use Rattle.spf_text.specs.declared.token.TokenKind.TheVariants as kind
use Rattle.spf_text.specs.declared.token.Sign.{Sign}
use Rattle.spf_text.specs.declared.token.Sign.TheVariants as sign
use Rattle.spf_ast.specs.RawSyntax.{RawExpression, RawStatement, RawBlock, RawFunction, RawProgram, arguments_of}
use Rattle.spf_ast.specs.Lawful.{IsName, IsNumber, IsWord, reserved_words}
use Rattle.spf_ast.specs.Carried.{IsWidth}
use Rattle.spf_ast.specs.Spelling.{has_break, holds_break, raw_count, IsWritableExpression, AreWritableArguments, IsWritablePredictor, IsWritableStatement, IsWritableBlock, IsWritableArray, IsWritableFunction, HasRows, HoldRows, IsWritable}
use Rattle.spf_parse_grammar.specs.Lexemes.{Lexeme, lexeme_of, lexemes_of}
use Rattle.spf_parse_grammar.specs.Parts.{Part, token, opens, operator, name, number, count, many, few, lined, expression, level, further, compared, operand, arguments, next_argument, names, row, guess, predictor, next_predictor, form, block, otherwise, header, size, array, parameters, next_parameter, function, program, Value, Rule, give, part, either}
use Rattle.spf_parse_grammar.specs.Rules.{rule, joined, block_of, few_rule, plain_form, has_breaks}
use Rattle.spf_parse_grammar.specs.Reading.{reads, says}
use Rattle.spf_parse_grammar.proofs.Derivations.{Parts}

-- a name is a name, and a number a number that a text can hold
pub record IsWritableLexeme (t : Lexeme) : Type 0 where
  pub name : t.kind ≡ kind.Name → IsName t.bytes
  pub number : (n : ℤ) → t.kind ≡ kind.Number n → IsNumber n

abbrev pub AreWritableLexemes : List Lexeme → Type 0
AreWritableLexemes [] = Unit {0}
AreWritableLexemes (t ∷ ts) = IsWritableLexeme t × AreWritableLexemes ts

abbrev W : RawExpression → Type 0
W = IsWritableExpression

-- all of a list
abbrev Every : {A : Type 0} → (A → Type 0) → List A → Type 0
Every P [] = Unit {0}
Every P (x ∷ xs) = P x × Every P xs

-- without `break`, where it is no statement
abbrev Unbroken : (breaks broken : Bool) → Type 0
Unbroken breaks broken = breaks ≡ false → broken ≡ false

-- a statement and a block can be written
abbrev GoodForm : Bool → RawStatement → Type 0
GoodForm breaks x = IsWritableStatement x × HasRows x × Unbroken breaks (has_break x)

abbrev GoodBlock : Bool → RawBlock → Type 0
GoodBlock breaks x = IsWritableBlock x × HoldRows x × Unbroken breaks (holds_break x)

-- what a part says can be written
abbrev Good : (p : Part) → Value p → Type 0
Good (token k) x = Unit {0}
Good (opens n s) x = Unit {0}
Good (operator rank used) x = Unit {0}
Good name x = IsName x
Good number n = IsNumber n
Good count n = n < 2 ^ 63
Good (many p) xs = Every (Good p) xs
Good (few most p) xs = Every (Good p) xs × (length xs ≤ most)
Good (lined p) x = Good p x.1
Good (expression n) x = W x
Good (level n rank used) x = W x.0
Good (further n rank a used) x = W a → W x.0
Good (compared n rank a used) x = W a → W x.0
Good (operand n) x = W x
Good (arguments n) xs = Every W xs
Good (next_argument n) x = W x
Good (names n) xs = Every IsName xs × IsWidth (length xs)
Good (row n) xs = Every W xs × IsWidth (length xs)
Good (guess n) xs = Every IsWritablePredictor xs × IsWidth (length xs)
Good (predictor n) x = IsWritablePredictor x
Good (next_predictor n) x = IsWritablePredictor x
Good (form breaks n) x = GoodForm breaks x
Good (block breaks n) x = GoodBlock breaks x
Good (otherwise breaks n) x = GoodBlock breaks x
Good header v = (v ≡ 1) ⊎ (v ≡ 2)
Good size x = IsNumber x.0 × IsNumber x.1
Good array x = IsWritableArray x
Good parameters xs = Every IsName xs
Good next_parameter x = IsName x
Good (function breaks) x = IsWritableFunction x × HoldRows x.body × Unbroken breaks (holds_break x.body)
Good program x = IsWritable x

-- from parts that can be written
abbrev Fine : {A : Type 0} → (A → Type 0) → Rule A → Type 0
Fine P (give a) = P a
Fine P (part p r) = (x : Value p) → Good p x → Fine P (r x)
Fine P (either r s) = Fine P r × Fine P s

every_all : {A : Type 0} (P : A → Type 0) (xs : List A) → Every P xs → All P xs
every_all P [] e = All-nil P
every_all P (x ∷ xs) e = All-cons P x xs e.0 (every_all P xs e.1)

good_arguments : (xs : List RawExpression) → Every W xs → AreWritableArguments (arguments_of xs)
good_arguments [] e = tt
good_arguments (x ∷ xs) e = (e.0, good_arguments xs e.1)

no_breaks : (a b : Bool) → a ≡ false → b ≡ false → (a || b) ≡ false
no_breaks true b h k = let f : true ≡ false = h in absurd cc
no_breaks false b h k = k

good_block : (breaks : Bool) (ss : List (ℕ × RawStatement)) → Every (λ s. GoodForm breaks s.1) ss → GoodBlock breaks (block_of ss)
good_block breaks [] e = (tt, tt, λ h. refl)
good_block breaks (s ∷ ss) e =
    let r = good_block breaks ss e.1 in
    ((e.0.0, r.0), (e.0.1, r.1), λ h. no_breaks (has_break s.1) (holds_break (block_of ss)) (e.0.2 h) (r.2 h))

count_of : (xs : List RawExpression) → raw_count (arguments_of xs) ≡ length xs
count_of [] = refl
count_of (x ∷ xs) = ap suc (count_of xs)

-- one, or two to four
one_wide : IsWidth 1
one_wide = (omega arith, omega arith)

some_wide : (n : ℕ) → n ≤ 2 → IsWidth (suc (suc n))
some_wide n h = (omega arith, omega (arith, h))

wide_row : (xs : List RawExpression) → IsWidth (length xs) → IsWidth (raw_count (arguments_of xs))
wide_row xs w = subst IsWidth (sym (count_of xs)) w

good_few : {A : Type 0} (P : A → Type 0) (x y : A) (xs : List A) → P x → P y → Every P xs × (length xs ≤ 2) → Every P (x ∷ y ∷ xs) × IsWidth (suc (suc (length xs)))
good_few P x y xs g h e = ((g, (h, e.0)), some_wide (length xs) e.1)

good_joined : (s : Sign) (a b : RawExpression) → W a → W b → W (joined s a b)
good_joined sign.Star a b g h = (g, h)
good_joined s a b g h = (g, h)

pos_number : (n : ℕ) → n < 2 ^ 63 → IsNumber (pos n)
pos_number n h = (record { le = yes_leb {a = 0} {b = n} (omega arith) }, record { lt = yes_ltb {a = n} {b = 2 ^ 63} h })

zero_number : IsNumber (pos 0)
zero_number = pos_number 0 (omega arith)

fine_level : (n rank used : ℕ) → Fine (Good (level n rank used)) (rule (level n rank used))
fine_level n zero used = λ a g. g
fine_level n (suc rank) used = by_rank (nat_eq rank 6)
  where
    by_rank : (b : Bool) → Fine (λ (x : RawExpression × ℕ). W x.0) (if b then part (level n rank used) (λ x. part (compared n rank x.0 x.1) (λ y. give y)) else part (level n rank used) (λ x. part (further n rank x.0 x.1) (λ y. give y)))
    by_rank true = λ x g y h. h g
    by_rank false = λ x g y h. h g

fine_few : (most : ℕ) (p : Part) → Fine (Good (few most p)) (few_rule most p)
fine_few zero p = (tt, omega arith)
fine_few (suc most) p = ((tt, omega arith), (λ x g xs gs. ((g, gs.0), omega (arith, gs.1))))

fine_plain : (breaks : Bool) (n : ℕ) → Fine (GoodForm breaks) (plain_form breaks n)
fine_plain breaks n = (
  (λ _ _ x gx _ _ a g _ _. ((gx, g), tt, λ h. refl)),
  (
    (λ x gx. ((λ _ _ a g _ _. ((gx, g), tt, λ h. refl)), ((λ _ _ i gi _ _ _ _ a g _ _. ((gx, gi, g), tt, λ h. refl)), (λ _ _ xs gs _ _. ((gx, good_arguments xs gs), tt, λ h. refl))))),
    (
      (λ _ _ x gx _ _ i gi _ _ j gj _ _ _ _ a g _ _. ((gx, gi, gj, g), tt, λ h. refl)),
      (
        (λ _ _ a g _ _. (g, tt, λ h. refl)),
        (
          (λ _ _ k g _ _. (g, tt, λ h. refl)),
          (
            (λ _ _ _ g a ga b gb. ((g, ga.0, gb.0), (ga.1, gb.1), λ h. no_breaks (holds_break a) (holds_break b) (ga.2 h) (gb.2 h))),
            (
              (λ _ _ x gx _ _ i gi _ _ j gj b gb. ((gx, gi, gj, gb.0), gb.1, gb.2)),
              (
                (λ _ _ _ g _ _ k gk b gb. ((g, gk, gb.0), gb.1, gb.2)),
                (
                  (λ _ _ s gs _ _ e ge _ _ k gk _ _ i gi _ _ j gj _ _ g gg _ _ inside gb _ _ a ga _ _ _ _.
                      let r = good_block breaks inside gb in (
                        ((every_all IsName s gs.0, good_arguments e ge.0, gk, gi, gj, every_all IsWritablePredictor g gg.0, good_arguments a ga.0, gs.1), r.0),
                        (record { start = wide_row e ge.1; predict = gg.1; next = wide_row a ga.1 }, r.1),
                        r.2,
                      )),
                  (λ _ _ x gx _ _ _ _ inside gb _ _ a ga _ _ _ _ _ _ g gg c gc.
                      let r = good_block breaks inside gb in (
                        ((every_all IsName x gx.0, good_arguments a ga.0, every_all IsWritablePredictor g gg.0, gx.1), r.0, gc.0),
                        (record { give = wide_row a ga.1; predict = gg.1 }, r.1, gc.1),
                        λ h. no_breaks (holds_break (block_of inside)) (holds_break c) (r.2 h) (gc.2 h),
                      )),
                ),
              ),
            ),
          ),
        ),
      ),
    ),
  ),
)

every_map : {A : Type 0} {P Q : A → Type 0} → ((x : A) → P x → Q x) → (xs : List A) → Every P xs → Every Q xs
every_map h [] e = tt
every_map h (x ∷ xs) e = (h x e.0, every_map h xs e.1)

no_breaks_in : (v : ℕ) → v ≡ 1 → has_breaks v ≡ false
no_breaks_in v h = subst (λ n. has_breaks n ≡ false) (sym h) refl

fine : (p : Part) → Fine (Good p) (rule p)
fine (many p) = (tt, λ x g xs gs. (g, gs))
fine (expression n) = λ x g. g
fine (level n rank used) = fine_level n rank used
fine (further n rank a used) = (λ g. g, λ o _ x gx y h ga. h (good_joined o a x.0 ga gx))
fine (compared n rank a used) = (λ g. g, λ o _ x gx ga. good_joined o a x.0 ga gx)
fine (operand n) = (λ k g. g, ((λ x gx. (gx, ((λ _ _ i gi _ _. (gx, gi)), (λ _ _ xs gs. (gx, good_arguments xs gs))))), ((λ _ _. tt), ((λ _ _ _ _ i gi _ w. gi), ((λ _ _ a g. g), ((λ _ _ a g. g), (λ _ _ a g _ _. g)))))))
fine (arguments n) = ((λ _ _. tt), (λ a g more gs _ _. (g, gs)))
fine (next_argument n) = λ _ _ a g. g
fine (few most p) = fine_few most p
fine (names n) = ((λ x g. ((g, tt), one_wide)), (λ _ _ x gx y gy xs gs _ _. good_few IsName x y xs gx gy gs))
fine (row n) = ((λ x g. ((g, tt), one_wide)), (λ _ _ x gx y gy xs gs _ _. good_few W x y xs gx gy gs))
fine (guess n) = ((λ x g. ((g, tt), one_wide)), (λ _ _ x gx y gy xs gs _ _. good_few IsWritablePredictor x y xs gx gy gs))
fine (predictor n) = ((λ _ _ k g. g), (λ e g. g))
fine (next_predictor n) = λ _ _ x g. g
fine (form true n) = (fine_plain true n, (λ _ _ _ _. (tt, tt, λ h. let f : true ≡ false = h in absurd cc)))
fine (form false n) = fine_plain false n
fine (block breaks n) = λ _ _ inside g _ _. good_block breaks inside g
fine (otherwise breaks n) = ((tt, tt, λ h. refl), λ _ _ b g. g)
fine header = (inl refl, λ _ _. ((λ _ _ _ _. inl refl), (λ _ _ _ _. inr refl)))
fine size = λ k g. ((zero_number, g), (λ _ _ _ _. ((g, zero_number), (λ _ _ _ h. (g, h)))))
fine array = λ _ _ x gx _ _ s gs _ _ _ _. (gx, gs.0, gs.1)
fine parameters = ((λ _ _. tt), (λ x g more gs _ _. (g, gs)))
fine next_parameter = λ _ _ x g. g
fine (function breaks) = λ _ _ f gf _ _ xs gs _ _ inside gb _ _ a ga _ _ _ _. let r = good_block breaks inside gb in ((gf, every_all IsName xs gs, r.0, ga), r.1, r.2)
fine program = λ v gv found ga fs gf _ _ b gb. record {
  well_formed = record {
    version = gv;
    breaks = record { main = λ h. gb.2 (no_breaks_in v h); functions = λ h. every_all (λ (f : RawFunction). holds_break f.body ≡ false) fs (every_map (λ f g. g.2 (no_breaks_in v h)) fs gf) };
    arrays = every_all IsWritableArray found ga;
    functions = every_all IsWritableFunction fs (every_map (λ f g. g.0) fs gf);
    main = gb.0;
  };
  functions = every_all (λ (f : RawFunction). HoldRows f.body) fs (every_map (λ f g. g.1) fs gf);
  main = gb.1;
}
fine p = λ x g. g

-- a relation of parts that gives what can be written, and leaves what can be written
abbrev Keeps : Parts → Type 0
Keeps R = (p : Part) (ts : List Lexeme) (x : Value p) (us : List Lexeme) → AreWritableLexemes ts → R p ts x us → Good p x × AreWritableLexemes us

reads_good : {R : Parts} → Keeps R → {A : Type 0} (P : A → Type 0) (r : Rule A) → Fine P r → (ts : List Lexeme) (b : A) (us : List Lexeme) → AreWritableLexemes ts → reads R r ts b us → P b × AreWritableLexemes us
reads_good k P (give a) f ts b us w d = (subst P (sym d.0) f, subst AreWritableLexemes (sym d.1) w)
reads_good k P (part p r) f ts b us w d =
    let g = k p ts d.0 d.1 w d.2 in
    reads_good k P (r d.0) (f d.0 g.0) d.1 b us g.1 d.3
reads_good k P (either r s) f ts b us w (inl d) = reads_good k P r f.0 ts b us w d
reads_good k P (either r s) f ts b us w (inr d) = reads_good k P s f.1 ts b us w d

count_good : (n : ℕ) → IsNumber (pos n) → n < 2 ^ 63
count_good n h = ltb_yes {a = n} {b = 2 ^ 63} h.1.lt

says_good : (depth free : ℕ) → Keeps (says depth free)
says_good depth free (token k) [] x us w d = elim d [ ]
says_good depth free (token k) (t ∷ ts) x us w d = (tt, subst AreWritableLexemes (sym d.1) w.1)
says_good depth free (opens n s) [] x us w d = elim d.1 [ ]
says_good depth free (opens n s) (t ∷ ts) x us w d = (tt, subst AreWritableLexemes (sym d.1.1) w.1)
says_good depth free (operator rank used) [] x us w d = elim d.1 [ ]
says_good depth free (operator rank used) (t ∷ ts) x us w d = (tt, subst AreWritableLexemes (sym d.1.1) w.1)
says_good depth free name [] x us w d = elim d [ ]
says_good depth free name (t ∷ ts) x us w d = (subst IsName (sym d.0.1) (w.0.name d.0.0), subst AreWritableLexemes (sym d.1) w.1)
says_good depth free number [] x us w d = elim d [ ]
says_good depth free number (t ∷ ts) x us w d = (w.0.number x d.0, subst AreWritableLexemes (sym d.1) w.1)
says_good depth free count [] x us w d = elim d [ ]
says_good depth free count (t ∷ ts) x us w d = (count_good x (w.0.number (pos x) d.0), subst AreWritableLexemes (sym d.1) w.1)
says_good zero free p ts x us w d = elim d [ ]
says_good (suc depth) free (lined p) ts x us w d = says_good depth free p ts x.1 us w d.1
says_good (suc depth) free p ts x us w d = reads_good (says_good depth free) (Good p) (rule p) (fine p) ts x us w d

-- a program of such lexemes can be written
pub writable : (free : ℕ) (ts : List Lexeme) (p : RawProgram) → AreWritableLexemes ts → (depth : ℕ) × says depth free program ts p [] → IsWritable p
writable free ts p w d = (says_good d.0 free program ts p [] w d.1).0

-- ---- the tokens of a text

every_at : {A : Type 0} (P : A → Type 0) (xs : List A) → Every P xs → (k : ℕ) (d : A) → k < length xs → P (slice_index_or xs k d)
every_at P xs e k d h = every_all P xs e k d h

spelled_words : Every (λ x. (w : Keyword) × (x ≡ word_spelling w)) reserved_words
spelled_words = ((word.Array, refl), ((word.Fn, refl), ((word.Main, refl), ((word.Let, refl), ((word.Fill, refl), ((word.Emit, refl), ((word.Fail, refl), ((word.If, refl), ((word.Else, refl), ((word.For, refl), ((word.In, refl), ((word.While, refl), ((word.Max, refl), ((word.Specfold, refl), ((word.Spec, refl), ((word.Predict, refl), ((word.Host, refl), ((word.Give, refl), ((word.Next, refl), ((word.Return, refl), ((word.Len, refl), ((word.Input, refl), ((word.Break, refl), ((word.Version, refl), tt))))))))))))))))))))))))

word_is : (bytes : List ℕ) → Begins IsLetter IsWordByte bytes → IsWord bytes
word_is [] h = h
word_is (b ∷ bytes) h = (h.0, h.1)

name_is : (bytes after : List ℕ) → Spells kind.Name bytes after → IsName bytes
name_is bytes after h = (
  word_is bytes h.0,
  λ c.
      let w = every_at (λ x. (w : Keyword) × (x ≡ word_spelling w)) reserved_words spelled_words c.0 bytes c.1 in
      h.2 w.0 (sym c.2 ∙ w.1),
)

number_is : (n : ℤ) (bytes after : List ℕ) → Spells (kind.Number n) bytes after → IsNumber n
number_is n bytes after h = subst IsNumber (sym h.2) (pos_number (number_from 0 bytes) (omega (arith, h.3)))

lexeme_writable : (text : List ℕ) (t : Token) → IsSpelledIn text t → IsWritableLexeme (lexeme_of text t)
lexeme_writable text t s = record {
  name = λ is. name_is (slice_range text t.from t.to) (drop t.to text) (subst (λ k. Spells k (slice_range text t.from t.to) (drop t.to text)) is s);
  number = λ n is. number_is n (slice_range text t.from t.to) (drop t.to text) (subst (λ k. Spells k (slice_range text t.from t.to) (drop t.to text)) is s);
}

pub tokens_writable : (text : List ℕ) (ts : List Token) → All (IsSpelledIn text) ts → AreWritableLexemes (lexemes_of text ts)
tokens_writable text [] a = tt
tokens_writable text (t ∷ ts) a = (lexeme_writable text t (a 0 t (omega arith)), tokens_writable text ts (λ k d h. a (suc k) d (omega (arith, h))))
