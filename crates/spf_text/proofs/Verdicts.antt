-- A text has tokens or one first fault, and no more than one of these.
use Rattle.std.proofs.Common.{drop, take, drop_at, take_at, drop-drop, slice_range, subst₂, All, ◌-◌, ◌≡◌, ℕ, ◌+◌, ◌<◌, ◌≤◌, ◌⊎◌, inl, inr, List, [], ◌∷◌, ◌++◌, length, refl, sym, ap, subst, ◌∙◌, arith, length-append, Result, Ok, Err, MatchResult, IfOk, IsOkUnless}
use Rattle.std.specs.List.{AllByRecursion}
use Rattle.std.proofs.lemmas.List.Elements.{All-from_recursion}
use Rattle.spf_text.specs.declared.token.Token.{Token}
use Rattle.spf_text.specs.declared.token.TokenKind.TheVariants as kind
use Rattle.spf_text.specs.declared.scanner.ScanError.{ScanError}
use Rattle.spf_text.specs.declared.scanner.ScanError.TheVariants as error
use Rattle.spf_text.specs.Tokens.{IsDigit, EndsBefore, Begins, BeginsNothing, BeginsTooLarge, AreTokensOf, AreInOrder, IsFaultyAt, Piece, Blank, Comment, Lexeme, bytes_of, IsPiece, IsCut, tokens_at, IsSpelledIn, Spells, number_from, max_number}
use Rattle.spf_text.specs.Refusals.{IsRefusedWith}
use Rattle.spf_text.specs.Laws.{HasOneFault}
use Rattle.spf_text.proofs.Cuts.{Begins-unique, BeginsPiece, first_byte, class_of, class_digit, class-BeginsPiece, NoPiece, NoPiece-nil, cut_unique}

-- ---- no piece begins at a fault

-- a piece begins with the text's first byte
first_is : (p : Piece) (b : ℕ) (rest after : List ℕ) → b ∷ rest ≡ bytes_of p ++ after → IsPiece p after → BeginsPiece p b
first_is p b rest after e h =
    let f = first_byte p after h in
    let texts : b ∷ rest ≡ f.0 ∷ (f.1 ++ after) = e ∙ ap (λ l. l ++ after) f.2 in
    let firsts : b ≡ f.0 = cc in
    subst (BeginsPiece p) (sym firsts) f.3

-- a byte that begins nothing begins no piece
nothing_excludes : (p : Piece) (b : ℕ) (rest after : List ℕ) → BeginsNothing (b ∷ rest) → b ∷ rest ≡ bytes_of p ++ after → IsPiece p after → ⊥
nothing_excludes (Blank c) b rest after n e h = n.0 (first_is (Blank c) b rest after e h)
nothing_excludes (Comment bytes) b rest after n e h = n.1 (first_is (Comment bytes) b rest after e h)
nothing_excludes (Lexeme kind.Name bytes) b rest after n e h = n.2 (inl (first_is (Lexeme kind.Name bytes) b rest after e h))
nothing_excludes (Lexeme (kind.Keyword w) bytes) b rest after n e h = n.2 (inl (first_is (Lexeme (kind.Keyword w) bytes) b rest after e h))
nothing_excludes (Lexeme (kind.Number v) bytes) b rest after n e h = n.2 (inr (first_is (Lexeme (kind.Number v) bytes) b rest after e h))
nothing_excludes (Lexeme (kind.Sign s) bytes) b rest after n e h = n.3 s (after, e ∙ ap (λ l. l ++ after) h.0)

-- the same of a whole rest
NoPiece-nothing : (rest : List ℕ) → BeginsNothing rest → NoPiece rest
NoPiece-nothing [] n = absurd n
NoPiece-nothing (b ∷ rest) n = λ p after e h. nothing_excludes p b rest after n e h

-- a piece that begins with a digit is a number
digit_class : (p : Piece) (d : ℕ) (rest after : List ℕ) → IsDigit d → d ∷ rest ≡ bytes_of p ++ after → IsPiece p after → class_of p ≡ 3
digit_class p d rest after digit e h = sym (class-BeginsPiece p d (first_is p d rest after e h)) ∙ class_digit d digit

-- a number that is too large begins no piece
large_excludes : (digits rest : List ℕ) (p : Piece) (after : List ℕ) → Begins IsDigit IsDigit digits → EndsBefore IsDigit rest → max_number < number_from 0 digits → digits ++ rest ≡ bytes_of p ++ after → IsPiece p after → ⊥
large_excludes [] rest p after begins ends large e h = begins
large_excludes (d ∷ ds) rest (Lexeme (kind.Number v) bytes) after begins ends large e h =
    let same = Begins-unique IsDigit IsDigit (d ∷ ds) bytes rest after begins h.0 ends h.1 e in
    let numbers : number_from 0 (d ∷ ds) ≡ number_from 0 bytes = ap (number_from 0) same.0 in
    omega (arith, numbers, h.3, large)
large_excludes (d ∷ ds) rest (Blank b) after begins ends large e h = let class = digit_class (Blank b) d (ds ++ rest) after begins.0 e h in omega arith
large_excludes (d ∷ ds) rest (Comment bytes) after begins ends large e h = let class = digit_class (Comment bytes) d (ds ++ rest) after begins.0 e h in omega arith
large_excludes (d ∷ ds) rest (Lexeme kind bytes) after begins ends large e h = let class = digit_class (Lexeme kind bytes) d (ds ++ rest) after begins.0 e h in omega arith

-- the same of a whole rest
NoPiece-too_large : (rest : List ℕ) → BeginsTooLarge rest → NoPiece rest
NoPiece-too_large rest t = λ p after e h. large_excludes t.0 t.1 p after t.3 t.4 t.5 (sym t.2 ∙ e) h

-- ---- one verdict

-- a text has no more than one list of tokens
pub tokens_unique : (text : List ℕ) (ts us : List Token) → AreTokensOf text ts → AreTokensOf text us → ts ≡ us
tokens_unique text ts us t u =
    let same = cut_unique text t.pieces u.pieces [] [] NoPiece-nil NoPiece-nil t.cut u.cut in
    t.are ∙ ap (tokens_at 0) same.0 ∙ sym u.are

-- what is a fault has no piece, and is somewhere
abbrev IsFault : (List ℕ → Type 0) → Type 0
IsFault F = ((rest : List ℕ) → F rest → NoPiece rest) × (F [] → ⊥)

-- a byte that begins nothing is a fault
nothing_fault : IsFault BeginsNothing
nothing_fault = (NoPiece-nothing, λ n. n)

-- at the end begins no number
large_nil : BeginsTooLarge [] → ⊥
large_nil t = large_nil_at t.0 t.1 t.3 t.2
  where
    large_nil_at : (digits after : List ℕ) → Begins IsDigit IsDigit digits → [] ≡ digits ++ after → ⊥
    large_nil_at [] after begins e = begins
    large_nil_at (d ∷ ds) after begins e = absurd (cc)

-- a number that is too large is a fault
large_fault : IsFault BeginsTooLarge
large_fault = (NoPiece-too_large, large_nil)

-- a text with a fault has no tokens
fault_without_tokens : (F : List ℕ → Type 0) (text : List ℕ) (at : ℕ) (ts : List Token) → IsFault F → IsFaultyAt F text at → AreTokensOf text ts → ⊥
fault_without_tokens F text at ts is fault tokens =
    let same = cut_unique text fault.pieces tokens.pieces fault.rest [] (is.0 fault.rest fault.fault) NoPiece-nil fault.cut tokens.cut in
    is.1 (subst F same.1 fault.fault)

-- two faults are at one offset, before the same rest
same_rest : (F G : List ℕ → Type 0) (text : List ℕ) (at to : ℕ) → IsFault F → IsFault G → (f : IsFaultyAt F text at) (g : IsFaultyAt G text to) → f.rest ≡ g.rest
same_rest F G text at to is_f is_g f g = (cut_unique text f.pieces g.pieces f.rest g.rest (is_f.0 f.rest f.fault) (is_g.0 g.rest g.fault) f.cut g.cut).1

-- two faults are at one offset
same_offset : (F G : List ℕ → Type 0) (text : List ℕ) (at to : ℕ) → IsFault F → IsFault G → IsFaultyAt F text at → IsFaultyAt G text to → at ≡ to
same_offset F G text at to is_f is_g f g =
    let rests : length f.rest ≡ length g.rest = ap length (same_rest F G text at to is_f is_g f g) in
    omega (arith, f.offset, g.offset, rests)

-- a byte that begins nothing begins no number
not_both : (rest : List ℕ) → BeginsNothing rest → BeginsTooLarge rest → ⊥
not_both [] n t = n
not_both (b ∷ rest) n t = not_both_at t.0 t.1 t.3 t.2
  where
    not_both_at : (digits after : List ℕ) → Begins IsDigit IsDigit digits → b ∷ rest ≡ digits ++ after → ⊥
    not_both_at [] after begins e = begins
    not_both_at (d ∷ ds) after begins e = let firsts : d ≡ b = cc in n.2 (inr (subst IsDigit firsts begins.0))

-- a text has one fault only
one_fault : (text : List ℕ) (at to : ℕ) → IsFaultyAt BeginsNothing text at → IsFaultyAt BeginsTooLarge text to → ⊥
one_fault text at to f g = not_both g.rest (subst BeginsNothing (same_rest BeginsNothing BeginsTooLarge text at to nothing_fault large_fault f g) f.fault) g.fault

pub one_fault_alone : (text : List ℕ) → HasOneFault text
one_fault_alone text = record {
  bad_byte = λ at to f g. same_offset BeginsNothing BeginsNothing text at to nothing_fault nothing_fault f g;
  too_large = λ at to f g. same_offset BeginsTooLarge BeginsTooLarge text at to large_fault large_fault f g;
  not_both = λ at to f g. one_fault text at to f g;
  no_tokens = λ at h ts t. elim h [
    | inl f ↦ fault_without_tokens BeginsNothing text at ts nothing_fault f t
    | inr f ↦ fault_without_tokens BeginsTooLarge text at ts large_fault f t
  ];
}

-- ---- tokens stand in order

-- tokens that stand after an offset stand after each offset before it
AreInOrder-lower : (low offset end : ℕ) (ts : List Token) → low ≤ offset → AreInOrder offset end ts → AreInOrder low end ts
AreInOrder-lower low offset end [] h order = omega (arith, order)
AreInOrder-lower low offset end (t ∷ ts) h order = (omega (arith, order.0), order.1, order.2)

-- the tokens of pieces stand one after another
AreInOrder-tokens_at : (text rest : List ℕ) (ps : List Piece) (offset end : ℕ) → offset + length text ≡ end → IsCut text ps rest → AreInOrder offset end (tokens_at offset ps)
AreInOrder-tokens_at text rest [] offset end e cut = omega (arith, e)
AreInOrder-tokens_at text rest (Blank b ∷ ps) offset end e cut = AreInOrder-lower offset (offset + 1) end (tokens_at (offset + 1) ps) (omega arith) (AreInOrder-tokens_at cut.0 rest ps (offset + 1) end (omega (arith, e, ap length cut.1)) cut.3)
AreInOrder-tokens_at text rest (Comment bytes ∷ ps) offset end e cut =
    let next = offset + length bytes in
    AreInOrder-lower offset next end (tokens_at next ps) (omega arith) (AreInOrder-tokens_at cut.0 rest ps next end (omega (arith, e, ap length cut.1, length-append bytes cut.0)) cut.3)
AreInOrder-tokens_at text rest (Lexeme kind bytes ∷ ps) offset end e cut =
    let next = offset + length bytes in
    let f = first_byte (Lexeme kind bytes) cut.0 cut.2 in
    (omega arith, omega (arith, ap length f.2), AreInOrder-tokens_at cut.0 rest ps next end (omega (arith, e, ap length cut.1, length-append bytes cut.0)) cut.3)

-- the tokens of a text stand in order
pub AreInOrder-tokens : (text : List ℕ) (ts : List Token) → AreTokensOf text ts → AreInOrder 0 (length text) ts
AreInOrder-tokens text ts tokens =
    subst (AreInOrder 0 (length text)) (sym tokens.are) (AreInOrder-tokens_at text [] tokens.pieces 0 (length text) (omega arith) tokens.cut)

-- ---- each token's slice spells it

-- what comes after the first bytes
after_is : (whole text bytes after : List ℕ) (offset : ℕ) → text ≡ drop offset whole → text ≡ bytes ++ after → after ≡ drop (offset + length bytes) whole
after_is whole text bytes after offset is cut =
    sym (drop_at bytes after (length bytes) refl) ∙ ap (drop (length bytes)) (sym cut ∙ is) ∙ drop-drop (length bytes) offset whole

-- the first bytes, as a slice of the whole text
slice_is : (whole text bytes after : List ℕ) (offset : ℕ) → text ≡ drop offset whole → text ≡ bytes ++ after → bytes ≡ slice_range whole offset (offset + length bytes)
slice_is whole text bytes after offset is cut =
    let size : length bytes ≡ offset + length bytes - offset = omega arith in
    sym (take_at bytes after (length bytes) refl) ∙ ap (take (length bytes)) (sym cut ∙ is) ∙ ap (λ n. take n (drop offset whole)) size

-- the tokens of pieces are spelled by their slices of the whole text
IsSpelledIn-tokens_at : (whole text rest : List ℕ) (ps : List Piece) (offset : ℕ) → text ≡ drop offset whole → IsCut text ps rest → AllByRecursion (IsSpelledIn whole) (tokens_at offset ps)
IsSpelledIn-tokens_at whole text rest [] offset is cut = tt
IsSpelledIn-tokens_at whole text rest (Blank b ∷ ps) offset is cut = IsSpelledIn-tokens_at whole cut.0 rest ps (offset + 1) (after_is whole text (b ∷ []) cut.0 offset is cut.1) cut.3
IsSpelledIn-tokens_at whole text rest (Comment bytes ∷ ps) offset is cut = IsSpelledIn-tokens_at whole cut.0 rest ps (offset + length bytes) (after_is whole text bytes cut.0 offset is cut.1) cut.3
IsSpelledIn-tokens_at whole text rest (Lexeme kind bytes ∷ ps) offset is cut =
    let next = after_is whole text bytes cut.0 offset is cut.1 in
    let slice = slice_is whole text bytes cut.0 offset is cut.1 in
    (subst₂ (Spells kind) slice next cut.2, IsSpelledIn-tokens_at whole cut.0 rest ps (offset + length bytes) next cut.3)

-- the tokens of a text are spelled by their slices
pub IsSpelledIn-tokens : (text : List ℕ) (ts : List Token) → AreTokensOf text ts → All (IsSpelledIn text) ts
IsSpelledIn-tokens text ts tokens =
    subst (All (IsSpelledIn text)) (sym tokens.are) (All-from_recursion (IsSpelledIn text) (tokens_at 0 tokens.pieces) (IsSpelledIn-tokens_at text text [] tokens.pieces 0 refl tokens.cut))

-- ---- what a scan gives

module _ {V : Type 0} (items : V → List Token) (text : List ℕ) where
  -- the text's tokens, or why it has none
  abbrev Gives : Result V ScanError → Type 0
  Gives r = MatchResult r (λ v. AreTokensOf text (items v)) (λ e. IsRefusedWith text e)

  -- no other tokens
  pub only_from : (r : Result V ScanError) → Gives r → IfOk r (λ v. (ts : List Token) → AreTokensOf text ts → ts ≡ items v)
  only_from (Ok v) given = λ ts tokens. tokens_unique text ts (items v) tokens given
  only_from (Err e) given = tt

  -- tokens in order
  pub in_order_from : (r : Result V ScanError) → Gives r → IfOk r (λ v. AreInOrder 0 (length text) (items v))
  in_order_from (Ok v) given = AreInOrder-tokens text (items v) given
  in_order_from (Err e) given = tt

  -- tokens spelled by their slices
  pub slices_from : (r : Result V ScanError) → Gives r → IfOk r (λ v. All (IsSpelledIn text) (items v))
  slices_from (Ok v) given = IsSpelledIn-tokens text (items v) given
  slices_from (Err e) given = tt

  -- a text that has tokens is not refused for a fault
  pub given_from : (r : Result V ScanError) → Gives r → (ts : List Token) → AreTokensOf text ts → IsOkUnless r error.OutOfMemory
  given_from (Ok v) given ts tokens = tt
  given_from (Err (error.BadByte at)) given ts tokens = absurd (fault_without_tokens BeginsNothing text at ts nothing_fault given tokens)
  given_from (Err (error.NumberTooLarge at)) given ts tokens = absurd (fault_without_tokens BeginsTooLarge text at ts large_fault given tokens)
  given_from (Err (error.TooLong at)) given ts tokens = absurd given
  given_from (Err error.OutOfMemory) given ts tokens = refl

  -- a text with a bad byte is refused for it
  pub bad_from : (r : Result V ScanError) → Gives r → (at : ℕ) → IsFaultyAt BeginsNothing text at → (r ≡ Err (error.BadByte at)) ⊎ (r ≡ Err error.OutOfMemory)
  bad_from (Ok v) given at fault = absurd (fault_without_tokens BeginsNothing text at (items v) nothing_fault fault given)
  bad_from (Err (error.BadByte to)) given at fault = inl (ap (λ k. Err (error.BadByte k)) (same_offset BeginsNothing BeginsNothing text to at nothing_fault nothing_fault given fault))
  bad_from (Err (error.NumberTooLarge to)) given at fault = absurd (one_fault text at to fault given)
  bad_from (Err (error.TooLong to)) given at fault = absurd given
  bad_from (Err error.OutOfMemory) given at fault = inr refl

  -- a text with too large a number is refused for it
  pub large_from : (r : Result V ScanError) → Gives r → (at : ℕ) → IsFaultyAt BeginsTooLarge text at → (r ≡ Err (error.NumberTooLarge at)) ⊎ (r ≡ Err error.OutOfMemory)
  large_from (Ok v) given at fault = absurd (fault_without_tokens BeginsTooLarge text at (items v) large_fault fault given)
  large_from (Err (error.BadByte to)) given at fault = absurd (one_fault text to at given fault)
  large_from (Err (error.NumberTooLarge to)) given at fault = inl (ap (λ k. Err (error.NumberTooLarge k)) (same_offset BeginsTooLarge BeginsTooLarge text to at large_fault large_fault given fault))
  large_from (Err (error.TooLong to)) given at fault = absurd given
  large_from (Err error.OutOfMemory) given at fault = inr refl
