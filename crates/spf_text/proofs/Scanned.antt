-- A text that is cut into pieces up to an offset, and what the next piece makes of it.
use Rattle.std.proofs.Common.{◌≡◌, ℕ, ◌+◌, ◌-◌, ◌≤◌, List, [], ◌∷◌, ◌++◌, length, take, drop, refl, sym, ap, subst, ◌∙◌, arith, length-append, length-drop, take-append-drop, drop-drop, append-nil, length-take-le}
use Rattle.std.proofs.lemmas.List.{drop_all, take_rest}
use Rattle.spf_text.specs.declared.token.Token.{Token}
use Rattle.spf_text.specs.declared.token.TokenKind.{TokenKind}
use Rattle.spf_text.specs.Tokens.{Piece, Blank, Comment, Lexeme, bytes_of, IsCut, IsFaultyAt, AreTokensOf, tokens_at}
use Rattle.spf_text.specs.declared.front.Front.{Front}
use Rattle.spf_text.specs.Fronts.{IsFirst, IsFront}

-- these are the tokens of the first `at` bytes of the text, which are cut into whole pieces
pub record ScannedUpTo (text : List ℕ) (tokens : List Token) (at : ℕ) : Type 0 where
  pub pieces : List Piece
  pub within : at ≤ length text
  pub cut : IsCut text pieces (drop at text)
  pub are : tokens ≡ tokens_at 0 pieces

-- at the start there are no tokens
pub scanned_none : (text : List ℕ) → ScannedUpTo text [] 0
scanned_none text = record { pieces = []; within = omega arith; cut = refl; are = refl }

-- pieces after pieces
IsCut-append : (text : List ℕ) (ps qs : List Piece) (middle rest : List ℕ) → IsCut text ps middle → IsCut middle qs rest → IsCut text (ps ++ qs) rest
IsCut-append text [] qs middle rest front back = subst (λ t. IsCut t qs rest) (sym front) back
IsCut-append text (p ∷ ps) qs middle rest front back = (front.0, front.1, front.2, IsCut-append front.0 ps qs middle rest front.3 back)

-- their tokens, one after another
tokens_at-append : (text rest : List ℕ) (ps qs : List Piece) (offset end : ℕ) → IsCut text ps rest → offset + length text ≡ end + length rest → tokens_at offset (ps ++ qs) ≡ tokens_at offset ps ++ tokens_at end qs
tokens_at-append text rest [] qs offset end cut e =
    let same : offset ≡ end = omega (arith, ap length cut) in
    ap (λ at. tokens_at at qs) same
tokens_at-append text rest (Blank b ∷ ps) qs offset end cut e = tokens_at-append cut.0 rest ps qs (offset + 1) end cut.3 (omega (arith, ap length cut.1))
tokens_at-append text rest (Comment bytes ∷ ps) qs offset end cut e = tokens_at-append cut.0 rest ps qs (offset + length bytes) end cut.3 (omega (arith, ap length cut.1, length-append bytes cut.0))
tokens_at-append text rest (Lexeme kind bytes ∷ ps) qs offset end cut e =
    ap (λ ts. record { kind = kind; from = offset; to = offset + length bytes } ∷ ts)
    (tokens_at-append cut.0 rest ps qs (offset + length bytes) end cut.3 (omega (arith, ap length cut.1, length-append bytes cut.0)))

-- the next piece follows
pub scanned_more : (text : List ℕ) (tokens : List Token) (at : ℕ) (p : Piece) (n : ℕ) → ScannedUpTo text tokens at → IsFirst p (drop at text) n → ScannedUpTo text (tokens ++ tokens_at at (p ∷ [])) (at + n)
scanned_more text tokens at p n before first =
    let rest = drop at text in
    let whole : rest ≡ bytes_of p ++ drop n rest = sym (take-append-drop n rest) ∙ ap (λ l. l ++ drop n rest) (sym first.spelled) in
    let further : drop n rest ≡ drop (at + n) text = drop-drop n at text in
    record {
      pieces = before.pieces ++ p ∷ [];
      within = omega (arith, length-drop at text, first.within, before.within);
      cut = IsCut-append text before.pieces (p ∷ []) rest (drop (at + n) text) before.cut (drop n rest, whole, first.piece, further);
      are = ap (λ ts. ts ++ tokens_at at (p ∷ [])) before.are ∙ sym (tokens_at-append text rest before.pieces (p ∷ []) 0 at before.cut (omega (arith, length-drop at text, before.within)));
    }

-- a blank or a comment follows, and adds no token
pub scanned_blank : (text : List ℕ) (tokens : List Token) (at : ℕ) (b : ℕ) → ScannedUpTo text tokens at → IsFirst (Blank b) (drop at text) 1 → ScannedUpTo text tokens (at + 1)
scanned_blank text tokens at b before first = subst (λ ts. ScannedUpTo text ts (at + 1)) (append-nil tokens) (scanned_more text tokens at (Blank b) 1 before first)

-- the same of a comment
pub scanned_comment : (text : List ℕ) (tokens : List Token) (at n : ℕ) (bytes : List ℕ) → ScannedUpTo text tokens at → IsFirst (Comment bytes) (drop at text) n → ScannedUpTo text tokens (at + n)
scanned_comment text tokens at n bytes before first = subst (λ ts. ScannedUpTo text ts (at + n)) (append-nil tokens) (scanned_more text tokens at (Comment bytes) n before first)

-- a token follows
pub scanned_lexeme : (text : List ℕ) (tokens : List Token) (at n : ℕ) (kind : TokenKind) → ScannedUpTo text tokens at → IsFirst (Lexeme kind (take n (drop at text))) (drop at text) n → ScannedUpTo text (tokens ++ record { kind = kind; from = at; to = at + n } ∷ []) (at + n)
scanned_lexeme text tokens at n kind before first =
    let size : length (take n (drop at text)) ≡ n = length-take-le n (drop at text) first.within in
    subst (λ k. ScannedUpTo text (tokens ++ record { kind = kind; from = at; to = at + k } ∷ []) (at + n)) size
    (scanned_more text tokens at (Lexeme kind (take n (drop at text))) n before first)

-- the whole text is cut
pub scanned_all : (text : List ℕ) (tokens : List Token) (at : ℕ) → length text ≤ at → ScannedUpTo text tokens at → AreTokensOf text tokens
scanned_all text tokens at end before =
    record {
      pieces = before.pieces;
      cut = subst (IsCut text before.pieces) (drop_all at text end) before.cut;
      are = before.are;
    }

-- the text is cut up to a fault
pub scanned_fault : (Fault : List ℕ → Type 0) (text : List ℕ) (tokens : List Token) (at : ℕ) → ScannedUpTo text tokens at → Fault (drop at text) → IsFaultyAt Fault text at
scanned_fault Fault text tokens at before fault =
    record {
      pieces = before.pieces;
      rest = drop at text;
      cut = before.cut;
      offset = omega (arith, length-drop at text, before.within);
      fault = fault;
    }

-- what stands at the start of the rest of a text, as a slice of it
pub IsFront-rest : (text : List ℕ) (at : ℕ) (front : Front) → IsFront (take (length text - at) (drop at text)) front → IsFront (drop at text) front
IsFront-rest text at front found = subst (λ bytes. IsFront bytes front) (take_rest text at) found
