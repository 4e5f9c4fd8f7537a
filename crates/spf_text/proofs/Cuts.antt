-- A text is cut into pieces in one way only, and not at all where no piece begins.
use Rattle.std.proofs.Common.{◌≡◌, ℕ, ◌+◌, ◌≤◌, true, cond, eqb, leb, List, [], ◌∷◌, ◌++◌, length, refl, sym, ap, subst, ◌∙◌, pos, arith}
use Rattle.std.specs.List.{AllByRecursion}
use Rattle.std.proofs.lemmas.List.Elements.{recursion_from_All}
use Rattle.std.proofs.lemmas.Bool.Decides.{nat_tests}
use Rattle.spf_text.specs.declared.token.Keyword.{Keyword}
use Rattle.spf_text.specs.declared.token.Sign.{Sign}
use Rattle.spf_text.specs.declared.token.TokenKind.{TokenKind}
use Rattle.spf_text.specs.declared.token.TokenKind.TheVariants as kind
use Rattle.spf_text.specs.Tokens.{IsBlank, IsDigit, IsLetter, IsWordByte, EndsBefore, EndsLine, Begins, Piece, Blank, Comment, Lexeme, bytes_of, IsPiece, IsCut, Spells, number_from, word_spelling, sign_spelling}
use Rattle.spf_text.proofs.Spellings.{word-Begins, sign-first, is_sign_byte, word_spelling-injective, sign_spelling-injective}

-- ---- two runs at the start of one text

-- two runs of one kind, each ended by the end or by another byte, are the same
run_unique : (P : ℕ → Type 0) (xs ys a b : List ℕ) → AllByRecursion P xs → AllByRecursion P ys → EndsBefore P a → EndsBefore P b → xs ++ a ≡ ys ++ b → (xs ≡ ys) × (a ≡ b)
run_unique P [] [] a b hx hy ea eb e = (refl, e)
run_unique P [] (y ∷ ys) a b hx hy ea eb e = absurd ((subst (EndsBefore P) e ea) hy.0)
run_unique P (x ∷ xs) [] a b hx hy ea eb e = absurd ((subst (EndsBefore P) (sym e) eb) hx.0)
run_unique P (x ∷ xs) (y ∷ ys) a b hx hy ea eb e =
    let heads : x ≡ y = cc in
    let tails : xs ++ a ≡ ys ++ b = cc in
    let same = run_unique P xs ys a b hx.1 hy.1 ea eb tails in
    (λ i. heads i ∷ same.0 i, same.1)

-- two longest runs at the start of one text are the same
pub Begins-unique : (First Rest : ℕ → Type 0) (xs ys a b : List ℕ) → Begins First Rest xs → Begins First Rest ys → EndsBefore Rest a → EndsBefore Rest b → xs ++ a ≡ ys ++ b → (xs ≡ ys) × (a ≡ b)
Begins-unique First Rest [] ys a b hx hy ea eb e = absurd hx
Begins-unique First Rest (x ∷ xs) [] a b hx hy ea eb e = absurd hy
Begins-unique First Rest (x ∷ xs) (y ∷ ys) a b hx hy ea eb e =
    let heads : x ≡ y = cc in
    let tails : xs ++ a ≡ ys ++ b = cc in
    let same = run_unique Rest xs ys a b (recursion_from_All Rest xs hx.1) (recursion_from_All Rest ys hy.1) ea eb tails in
    (λ i. heads i ∷ same.0 i, same.1)

-- two fronts of one text that have as many bytes are the same
same_length : (xs ys a b : List ℕ) → length xs ≡ length ys → xs ++ a ≡ ys ++ b → (xs ≡ ys) × (a ≡ b)
same_length [] [] a b l e = (refl, e)
same_length [] (y ∷ ys) a b l e = absurd (omega arith)
same_length (x ∷ xs) [] a b l e = absurd (omega arith)
same_length (x ∷ xs) (y ∷ ys) a b l e =
    let heads : x ≡ y = cc in
    let tails : xs ++ a ≡ ys ++ b = cc in
    let same = same_length xs ys a b (omega arith) tails in
    (λ i. heads i ∷ same.0 i, same.1)

-- ---- the first byte of a piece tells what kind of piece it is

-- what the first byte of this piece may be
abbrev pub BeginsPiece : Piece → ℕ → Type 0
BeginsPiece (Blank c) b = IsBlank b
BeginsPiece (Comment bytes) b = b ≡ 35
BeginsPiece (Lexeme kind.Name bytes) b = IsLetter b
BeginsPiece (Lexeme (kind.Keyword w) bytes) b = IsLetter b
BeginsPiece (Lexeme (kind.Number n) bytes) b = IsDigit b
BeginsPiece (Lexeme (kind.Sign s) bytes) b = is_sign_byte b ≡ true

-- a piece has a first byte, and one of its own kind
pub first_byte : (p : Piece) (after : List ℕ) → IsPiece p after → (b : ℕ) × (rest : List ℕ) × (bytes_of p ≡ b ∷ rest) × BeginsPiece p b
first_byte (Blank b) after h = (b, [], refl, h)
first_byte (Comment []) after h = absurd h.0
first_byte (Comment (b ∷ bytes)) after h = (b, bytes, refl, h.0.0)
first_byte (Lexeme kind.Name []) after h = absurd h.0
first_byte (Lexeme kind.Name (b ∷ bytes)) after h = (b, bytes, refl, h.0.0)
first_byte (Lexeme (kind.Keyword w) []) after h = absurd (subst (Begins IsLetter IsWordByte) (sym h.0) (word-Begins w))
first_byte (Lexeme (kind.Keyword w) (b ∷ bytes)) after h = (b, bytes, refl, (subst (Begins IsLetter IsWordByte) (sym h.0) (word-Begins w)).0)
first_byte (Lexeme (kind.Number n) []) after h = absurd h.0
first_byte (Lexeme (kind.Number n) (b ∷ bytes)) after h = (b, bytes, refl, h.0.0)
first_byte (Lexeme (kind.Sign s) bytes) after h =
    let f = sign-first s in
    (f.0, f.1, h.0 ∙ f.2, f.3)

-- the kinds of pieces that their first bytes tell apart
abbrev pub class_of_kind : TokenKind → ℕ
class_of_kind kind.Name = 0
class_of_kind (kind.Keyword w) = 0
class_of_kind (kind.Number n) = 1
class_of_kind (kind.Sign s) = 2

-- the kinds of pieces that their first bytes tell apart
abbrev pub class_of : Piece → ℕ
class_of (Blank c) = 0
class_of (Comment bytes) = 1
class_of (Lexeme kind bytes) = 2 + class_of_kind kind

-- the kind of piece that a byte may begin
abbrev pub class_from : ℕ → ℕ
class_from b = cond (is_sign_byte b) 4 (cond (leb b 32) 0 (cond (eqb b 35) 1 (cond (leb b 57) 3 2)))

-- a blank begins a blank only
class_blank : (b : ℕ) → IsBlank b → class_from b ≡ 0
class_blank b h = grind (arith, nat_tests)

-- `#` begins a comment only
class_comment : (b : ℕ) → b ≡ 35 → class_from b ≡ 1
class_comment b h = grind (arith, nat_tests)

-- a letter begins a word only
class_letter : (b : ℕ) → IsLetter b → class_from b ≡ 2
class_letter b h = grind (arith, nat_tests)

-- a digit begins a number only
pub class_digit : (b : ℕ) → IsDigit b → class_from b ≡ 3
class_digit b h = grind (arith, nat_tests)

-- a sign's first byte begins a sign only
class_sign : (b : ℕ) → is_sign_byte b ≡ true → class_from b ≡ 4
class_sign b h = ap (λ t. cond t 4 (cond (leb b 32) 0 (cond (eqb b 35) 1 (cond (leb b 57) 3 2)))) h

-- a piece's first byte begins pieces of its kind only
pub class-BeginsPiece : (p : Piece) (b : ℕ) → BeginsPiece p b → class_from b ≡ class_of p
class-BeginsPiece (Blank c) b h = class_blank b h
class-BeginsPiece (Comment bytes) b h = class_comment b h
class-BeginsPiece (Lexeme kind.Name bytes) b h = class_letter b h
class-BeginsPiece (Lexeme (kind.Keyword w) bytes) b h = class_letter b h
class-BeginsPiece (Lexeme (kind.Number n) bytes) b h = class_digit b h
class-BeginsPiece (Lexeme (kind.Sign s) bytes) b h = class_sign b h

-- two pieces at the start of one text are of one kind
same_class : (p q : Piece) (a b : List ℕ) → IsPiece p a → IsPiece q b → bytes_of p ++ a ≡ bytes_of q ++ b → class_of p ≡ class_of q
same_class p q a b hp hq e =
    let f = first_byte p a hp in
    let g = first_byte q b hq in
    let texts : f.0 ∷ (f.1 ++ a) ≡ g.0 ∷ (g.1 ++ b) = sym (ap (λ l. l ++ a) f.2) ∙ e ∙ ap (λ l. l ++ b) g.2 in
    let firsts : f.0 ≡ g.0 = cc in
    sym (class-BeginsPiece p f.0 f.3) ∙ ap class_from firsts ∙ class-BeginsPiece q g.0 g.3

-- ---- two pieces at the start of one text are the same

-- what ends a line ends a run of bytes other than 0A
line_end : (rest : List ℕ) → EndsLine rest → EndsBefore (λ b. b ≡ 10 → ⊥) rest
line_end [] h = tt
line_end (b ∷ rest) h = λ other. other h

-- the bytes of a reserved word could be a name
word_bytes : (w : Keyword) (bytes : List ℕ) → bytes ≡ word_spelling w → Begins IsLetter IsWordByte bytes
word_bytes w bytes e = subst (Begins IsLetter IsWordByte) (sym e) (word-Begins w)

-- two longest signs at the start of one text are the same
sign_unique : (s t : Sign) (xs ys a b : List ℕ) → Spells (kind.Sign s) xs a → Spells (kind.Sign t) ys b → xs ++ a ≡ ys ++ b → (s ≡ t) × (xs ≡ ys) × (a ≡ b)
sign_unique s t xs ys a b hx hy e =
    let no_longer : length (sign_spelling t) ≤ length xs = hx.1 t (b, e ∙ ap (λ l. l ++ b) hy.0) in
    let no_shorter : length (sign_spelling s) ≤ length ys = hy.1 s (a, sym e ∙ ap (λ l. l ++ a) hx.0) in
    let lengths : length xs ≡ length ys = omega (arith, ap length hx.0, ap length hy.0) in
    let same = same_length xs ys a b lengths e in
    (sign_spelling-injective s t (sym hx.0 ∙ same.0 ∙ hy.0), same.0, same.1)

-- two whole pieces at the start of one text are the same, and so is what comes after
piece_unique : (p q : Piece) (a b : List ℕ) → IsPiece p a → IsPiece q b → bytes_of p ++ a ≡ bytes_of q ++ b → (p ≡ q) × (a ≡ b)
piece_unique (Blank x) (Blank y) a b hp hq e =
    let heads : x ≡ y = cc in
    let tails : a ≡ b = cc in
    (ap Blank heads, tails)
piece_unique (Comment xs) (Comment ys) a b hp hq e =
    let same = Begins-unique (λ c. c ≡ 35) (λ c. c ≡ 10 → ⊥) xs ys a b hp.0 hq.0 (line_end a hp.1) (line_end b hq.1) e in
    (ap Comment same.0, same.1)
piece_unique (Lexeme kind.Name xs) (Lexeme kind.Name ys) a b hp hq e =
    let same = Begins-unique IsLetter IsWordByte xs ys a b hp.0 hq.0 hp.1 hq.1 e in
    (ap (Lexeme kind.Name) same.0, same.1)
piece_unique (Lexeme kind.Name xs) (Lexeme (kind.Keyword w) ys) a b hp hq e =
    let same = Begins-unique IsLetter IsWordByte xs ys a b hp.0 (word_bytes w ys hq.0) hp.1 hq.1 e in
    absurd (hp.2 w (same.0 ∙ hq.0))
piece_unique (Lexeme (kind.Keyword v) xs) (Lexeme kind.Name ys) a b hp hq e =
    let same = Begins-unique IsLetter IsWordByte xs ys a b (word_bytes v xs hp.0) hq.0 hp.1 hq.1 e in
    absurd (hq.2 v (sym same.0 ∙ hp.0))
piece_unique (Lexeme (kind.Keyword v) xs) (Lexeme (kind.Keyword w) ys) a b hp hq e =
    let same = Begins-unique IsLetter IsWordByte xs ys a b (word_bytes v xs hp.0) (word_bytes w ys hq.0) hp.1 hq.1 e in
    let words = word_spelling-injective v w (sym hp.0 ∙ same.0 ∙ hq.0) in
    (λ i. Lexeme (kind.Keyword (words i)) (same.0 i), same.1)
piece_unique (Lexeme (kind.Number m) xs) (Lexeme (kind.Number n) ys) a b hp hq e =
    let same = Begins-unique IsDigit IsDigit xs ys a b hp.0 hq.0 hp.1 hq.1 e in
    let numbers = hp.2 ∙ ap (λ l. pos (number_from 0 l)) same.0 ∙ sym hq.2 in
    (λ i. Lexeme (kind.Number (numbers i)) (same.0 i), same.1)
piece_unique (Lexeme (kind.Sign s) xs) (Lexeme (kind.Sign t) ys) a b hp hq e =
    let same = sign_unique s t xs ys a b hp hq e in
    (λ i. Lexeme (kind.Sign (same.0 i)) (same.1 i), same.2)
piece_unique p q a b hp hq e = let classes = same_class p q a b hp hq e in absurd (omega arith)

-- ---- where no piece begins, every cut ends

-- no piece begins here
abbrev pub NoPiece : List ℕ → Type 0
NoPiece text = (p : Piece) (after : List ℕ) → text ≡ bytes_of p ++ after → IsPiece p after → ⊥

-- no piece begins at the end
pub NoPiece-nil : NoPiece []
NoPiece-nil p after e h =
    let f = first_byte p after h in
    let begins : [] ≡ f.0 ∷ (f.1 ++ after) = e ∙ ap (λ l. l ++ after) f.2 in
    absurd (cc)

-- two cuts of one text that end where no piece begins are the same
pub cut_unique : (text : List ℕ) (ps qs : List Piece) (r s : List ℕ) → NoPiece r → NoPiece s → IsCut text ps r → IsCut text qs s → (ps ≡ qs) × (r ≡ s)
cut_unique text [] [] r s nr ns cp cq = (refl, sym cp ∙ cq)
cut_unique text [] (q ∷ qs) r s nr ns cp cq = absurd (nr q cq.0 (sym cp ∙ cq.1) cq.2)
cut_unique text (p ∷ ps) [] r s nr ns cp cq = absurd (ns p cp.0 (sym cq ∙ cp.1) cp.2)
cut_unique text (p ∷ ps) (q ∷ qs) r s nr ns cp cq =
    let same = piece_unique p q cp.0 cq.0 cp.2 cq.2 (sym cp.1 ∙ cq.1) in
    let more = cut_unique cp.0 ps qs r s nr ns cp.3 (subst (λ t. IsCut t qs s) (sym same.1) cq.3) in
    (λ i. same.0 i ∷ more.0 i, more.1)
