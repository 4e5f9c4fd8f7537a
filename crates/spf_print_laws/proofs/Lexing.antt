-- From pieces to lexemes, and single lexemes as the grammar reads them.
use Rattle.std.proofs.Common.{◌≡◌, ℕ, ◌+◌, ◌≤◌, List, [], ◌∷◌, ◌++◌, length, slice_range, refl, sym, ap, ◌∙◌, append_assoc, length-append, subst, arith, inl, inr, ℤ, pos}
use Rattle.std.proofs.lemmas.Grind.{common_steps}
use Rattle.spf_text.specs.declared.token.Sign.{Sign}
use Rattle.spf_text.specs.declared.token.TokenKind.{TokenKind}
use Rattle.spf_text.specs.declared.token.TokenKind.TheVariants as kind
use Rattle.spf_text.specs.Tokens.{Piece, Blank, Comment, Lexeme, IsCut, tokens_at}
use Rattle.spf_parse_grammar.specs.Lexemes.{line_at, lexeme_of, lexemes_of}
use Rattle.spf_parse_grammar.specs.Lexemes as l
use Rattle.spf_parse_grammar.specs.Parts.{Part, token, opens, operator, name, number, count, lined, Value, Rule, give, part, either}
use Rattle.spf_parse_grammar.specs.Rules.{rule, rank_of}
use Rattle.spf_parse_grammar.specs.Reading.{line_of, one}
use Rattle.spf_parse_grammar.specs.Derivations.{Says, Reading}
use Rattle.spf_parse_grammar.proofs.Derivations.{from_rule, with_line}
use Rattle.spf_print_laws.proofs.Pieces.{blanks, on_own_line, newline}

-- these lexemes begin with those of the pieces, and the others come after them
abbrev pub Takes : List Piece → List l.Lexeme → List l.Lexeme → Type 0
Takes [] ts us = ts ≡ us
Takes (Blank b ∷ ps) ts us = Takes ps ts us
Takes (Comment bs ∷ ps) ts us = Takes ps ts us
Takes (Lexeme k bs ∷ ps) ts us = (t : l.Lexeme) × (rest : List l.Lexeme) × (ts ≡ t ∷ rest) × (t.kind ≡ k) × (t.bytes ≡ bs) × Takes ps rest us

-- ---- lexemes of a text

slice_of : (before bs after : List ℕ) → slice_range (before ++ (bs ++ after)) (length before) (length before + length bs) ≡ bs
slice_of before bs after = grind (arith, common_steps)

-- the lexemes of a text that is cut into pieces
pub lexed : (text before rest : List ℕ) (ps : List Piece) → text ≡ before ++ rest → IsCut rest ps [] → Takes ps (lexemes_of text (tokens_at (length before) ps)) []
lexed text before rest [] e cut = refl
lexed text before rest (Blank b ∷ ps) e cut =
    subst (λ n. Takes ps (lexemes_of text (tokens_at n ps)) []) (length-append before (b ∷ []) ∙ refl)
    (lexed text (before ++ b ∷ []) cut.0 ps (e ∙ ap (λ r. before ++ r) cut.1 ∙ sym (append_assoc before (b ∷ []) cut.0)) cut.3)
lexed text before rest (Comment bs ∷ ps) e cut =
    subst (λ n. Takes ps (lexemes_of text (tokens_at n ps)) []) (length-append before bs)
    (lexed text (before ++ bs) cut.0 ps (e ∙ ap (λ r. before ++ r) cut.1 ∙ sym (append_assoc before bs cut.0)) cut.3)
lexed text before rest (Lexeme k bs ∷ ps) e cut =
    let here = e ∙ ap (λ r. before ++ r) cut.1 in (
      lexeme_of text (record { kind = k; from = length before; to = length before + length bs }),
      lexemes_of text (tokens_at (length before + length bs) ps),
      refl,
      refl,
      ap (λ t. slice_range t (length before) (length before + length bs)) here ∙ slice_of before bs cut.0,
      subst (λ n. Takes ps (lexemes_of text (tokens_at n ps)) []) (length-append before bs)
          (lexed text (before ++ bs) cut.0 ps (here ∙ sym (append_assoc before bs cut.0)) cut.3),
    )

-- ---- taking one after another

pub takes-append : (ps qs : List Piece) (ts us : List l.Lexeme) → Takes (ps ++ qs) ts us → (ms : List l.Lexeme) × Takes ps ts ms × Takes qs ms us
takes-append [] qs ts us h = (ts, refl, h)
takes-append (Blank b ∷ ps) qs ts us h = takes-append ps qs ts us h
takes-append (Comment bs ∷ ps) qs ts us h = takes-append ps qs ts us h
takes-append (Lexeme k bs ∷ ps) qs ts us h = let m = takes-append ps qs h.1 us h.5 in (m.0, (h.0, h.1, h.2, h.3, h.4, m.1), m.2)

takes-blanks : (indent : List ℕ) (ts us : List l.Lexeme) → Takes (blanks indent) ts us → ts ≡ us
takes-blanks [] ts us h = h
takes-blanks (b ∷ rest) ts us h = takes-blanks rest ts us h

-- a line has the lexemes of its pieces
pub takes-line : (indent : List ℕ) (ps : List Piece) (ts us : List l.Lexeme) → Takes (on_own_line indent ps) ts us → Takes ps ts us
takes-line indent ps ts us h =
    let m = takes-append (blanks indent) (ps ++ newline ∷ []) ts us h in
    let k = takes-append ps (newline ∷ []) m.0 us m.2 in
    subst (λ x. Takes ps x us) (sym (takes-blanks indent ts m.0 m.1)) (subst (λ x. Takes ps m.0 x) k.2 k.1)

-- ---- parts that are said

pub record Said (free : ℕ) (p : Part) (ts : List l.Lexeme) (x : Value p) (us : List l.Lexeme) : Type 0 where
  pub says : Says free p ts x us
  pub less : length us ≤ length ts

pub record Told (free : ℕ) {A : Type 0} (r : Rule A) (ts : List l.Lexeme) (b : A) (us : List l.Lexeme) : Type 0 where
  pub reading : Reading free r ts b us
  pub less : length us ≤ length ts

pub done : {free : ℕ} {A : Type 0} {a : A} {ts : List l.Lexeme} → Told free (give a) ts a ts
done = record { reading = (refl, refl); less = omega arith }

pub andthen : {free : ℕ} {A : Type 0} {p : Part} {r : Value p → Rule A} {ts us vs : List l.Lexeme} {x : Value p} {b : A} → Said free p ts x us → Told free (r x) us b vs → Told free (part p r) ts b vs
andthen {free} {A} {p} {r} {ts} {us} {vs} {x} {b} h k = record { reading = (x, us, h.says, k.reading); less = omega (arith, h.less, k.less) }

pub first_of : {free : ℕ} {A : Type 0} {r s : Rule A} {ts us : List l.Lexeme} {b : A} → Told free r ts b us → Told free (either r s) ts b us
first_of h = record { reading = inl h.reading; less = h.less }

pub second_of : {free : ℕ} {A : Type 0} {r s : Rule A} {ts us : List l.Lexeme} {b : A} → Told free s ts b us → Told free (either r s) ts b us
second_of h = record { reading = inr h.reading; less = h.less }

-- a part says what its production says
pub by_rule : (free : ℕ) (p : Part) (ts : List l.Lexeme) (x : Value p) (us : List l.Lexeme) → Told free (rule p) ts x us → Said free p ts x us
by_rule free p ts x us h = record { says = from_rule free p ts x us h.reading; less = h.less }

pub on_its_line : (free : ℕ) (p : Part) (ts : List l.Lexeme) (x : Value p) (us : List l.Lexeme) → Said free p ts x us → Said free (lined p) ts (line_of ts, x) us
on_its_line free p ts x us h = record { says = with_line free p ts x us h.says; less = h.less }

-- ---- single lexemes

-- a lexeme was read, and these pieces come next
pub record Step (free : ℕ) (p : Part) (ps : List Piece) (ts us : List l.Lexeme) (x : Value p) : Type 0 where
  pub rest : List l.Lexeme
  pub said : Said free p ts x rest
  pub behind : Takes ps rest us
  pub room : length rest ≤ free

-- a lexeme whose value is its line
pub record Lines (free : ℕ) (k : TokenKind) (ps : List Piece) (ts us : List l.Lexeme) : Type 0 where
  pub line : ℕ
  pub rest : List l.Lexeme
  pub said : Said free (token k) ts line rest
  pub behind : Takes ps rest us
  pub room : length rest ≤ free

shorter : (t : l.Lexeme) (ts rest : List l.Lexeme) → ts ≡ t ∷ rest → length rest ≤ length ts
shorter t ts rest e = omega (arith, ap length e)

pub token_step : (free : ℕ) (k : TokenKind) (bs : List ℕ) (ps : List Piece) (ts us : List l.Lexeme) → length ts ≤ free → Takes (Lexeme k bs ∷ ps) ts us → Lines free k ps ts us
token_step free k bs ps ts us room h = record {
  line = h.0.line;
  rest = h.1;
  said = record { says = subst (λ x. Says free (token k) x h.0.line h.1) (sym h.2) (0, ((h.3, refl), refl)); less = shorter h.0 ts h.1 h.2 };
  behind = h.5;
  room = omega (arith, room, shorter h.0 ts h.1 h.2);
}

pub opens_step : (free n : ℕ) (x : Sign) (bs : List ℕ) (ps : List Piece) (ts us : List l.Lexeme) → length ts ≤ free → Takes (Lexeme (kind.Sign x) bs ∷ ps) ts us → Step free (opens n x) ps ts us tt
opens_step free n x bs ps ts us room h = record {
  rest = h.1;
  said = record { says = (0, ((λ bound. absurd (omega (arith, room, bound))), subst (λ y. one (λ t v. t.kind ≡ kind.Sign x) y tt h.1) (sym h.2) (h.3, refl))); less = shorter h.0 ts h.1 h.2 };
  behind = h.5;
  room = omega (arith, room, shorter h.0 ts h.1 h.2);
}

pub operator_step : (free rank used : ℕ) (x : Sign) (bs : List ℕ) (ps : List Piece) (ts us : List l.Lexeme) → rank_of x ≡ rank → length ts ≤ free → Takes (Lexeme (kind.Sign x) bs ∷ ps) ts us → Step free (operator rank used) ps ts us x
operator_step free rank used x bs ps ts us r room h = record {
  rest = h.1;
  said = record { says = (0, ((λ bound. absurd (omega (arith, room, bound))), subst (λ y. one (λ t v. (t.kind ≡ kind.Sign v) × (rank_of v ≡ rank)) y x h.1) (sym h.2) ((h.3, r), refl))); less = shorter h.0 ts h.1 h.2 };
  behind = h.5;
  room = omega (arith, room, shorter h.0 ts h.1 h.2);
}

pub name_step : (free : ℕ) (x : List ℕ) (ps : List Piece) (ts us : List l.Lexeme) → length ts ≤ free → Takes (Lexeme kind.Name x ∷ ps) ts us → Step free name ps ts us x
name_step free x ps ts us room h = record {
  rest = h.1;
  said = record { says = subst (λ y. Says free name y x h.1) (sym h.2) (0, ((h.3, sym h.4), refl)); less = shorter h.0 ts h.1 h.2 };
  behind = h.5;
  room = omega (arith, room, shorter h.0 ts h.1 h.2);
}

pub number_step : (free : ℕ) (n : ℤ) (bs : List ℕ) (ps : List Piece) (ts us : List l.Lexeme) → length ts ≤ free → Takes (Lexeme (kind.Number n) bs ∷ ps) ts us → Step free number ps ts us n
number_step free n bs ps ts us room h = record {
  rest = h.1;
  said = record { says = subst (λ y. Says free number y n h.1) (sym h.2) (0, (h.3, refl)); less = shorter h.0 ts h.1 h.2 };
  behind = h.5;
  room = omega (arith, room, shorter h.0 ts h.1 h.2);
}

pub count_step : (free n : ℕ) (bs : List ℕ) (ps : List Piece) (ts us : List l.Lexeme) → length ts ≤ free → Takes (Lexeme (kind.Number (pos n)) bs ∷ ps) ts us → Step free count ps ts us n
count_step free n bs ps ts us room h = record {
  rest = h.1;
  said = record { says = subst (λ y. Says free count y n h.1) (sym h.2) (0, (h.3, refl)); less = shorter h.0 ts h.1 h.2 };
  behind = h.5;
  room = omega (arith, room, shorter h.0 ts h.1 h.2);
}
