-- Each text has tokens, or an offset at which none begins.
use Rattle.std.proofs.Common.{◌≡◌, ◌⊎◌, inl, inr, ℕ, zero, suc, ◌-◌, ◌<◌, ◌≤◌, Bool, true, false, bytes_eq, List, [], ◌∷◌, ◌++◌, length, refl, sym, ap, subst, ◌∙◌, pos, arith, length-append}
use Rattle.std.specs.List.{AllByRecursion}
use Rattle.std.proofs.lemmas.List.Elements.{All-from_recursion}
use Rattle.std.proofs.lemmas.Slice.Eq.{bytes_eq-Decides}
use Rattle.spf_text.specs.declared.token.Keyword.{Keyword}
use Rattle.spf_text.specs.declared.token.Keyword.TheVariants as word
use Rattle.spf_text.specs.declared.token.Sign.{Sign}
use Rattle.spf_text.specs.declared.token.Sign.TheVariants as sign
use Rattle.spf_text.specs.declared.token.Token.{Token}
use Rattle.spf_text.specs.declared.token.TokenKind.TheVariants as kind
use Rattle.spf_text.specs.Tokens.{IsBlank, IsDigit, IsLetter, IsWordByte, EndsBefore, BeginsWith, BeginsNothing, BeginsTooLarge, Piece, Blank, Comment, Lexeme, bytes_of, IsPiece, IsCut, IsFaultyAt, AreTokensOf, tokens_at, number_from, max_number, word_spelling, sign_spelling}
use Rattle.spf_text.proofs.Spellings.{spelled_so, words, signs, word_again, sign_again, sign-first}
use Rattle.spf_text.proofs.Pieces.{line_ends}
use Rattle.spf_text.proofs.Cuts.{first_byte}

-- ---- what can be told of a byte

abbrev Decided : Type 0 → Type 0
Decided P = P ⊎ (P → ⊥)

either_way : {P Q : Type 0} → Decided P → Decided Q → Decided (P ⊎ Q)
either_way (inl p) q = inl (inl p)
either_way (inr never) (inl q) = inl (inr q)
either_way (inr first) (inr second) = inr (λ h. elim h [ inl p ↦ first p | inr q ↦ second q ])

both_ways : {P Q : Type 0} → Decided P → Decided Q → Decided (P × Q)
both_ways (inl p) (inl q) = inl (p, q)
both_ways (inl p) (inr never) = inr (λ h. never h.1)
both_ways (inr never) q = inr (λ h. never h.0)

order : (a b : ℕ) → (a ≤ b) ⊎ (b < a)
order a b = grind arith

at_most : (a b : ℕ) → Decided (a ≤ b)
at_most a b = elim (order a b) [ inl l ↦ inl l | inr l ↦ inr (λ h. omega (arith, h, l)) ]

same : (a b : ℕ) → Decided (a ≡ b)
same a b = elim (order a b) [
  | inl l ↦ elim (order b a) [ inl m ↦ inl (omega (arith, l, m)) | inr m ↦ inr (λ e. omega (arith, e, m)) ]
  | inr l ↦ inr (λ e. omega (arith, e, l))
]

blank : (b : ℕ) → Decided (IsBlank b)
blank b = either_way (same b 32) (either_way (same b 9) (either_way (same b 10) (same b 13)))

digit : (b : ℕ) → Decided (IsDigit b)
digit b = both_ways (at_most 48 b) (at_most b 57)

letter : (b : ℕ) → Decided (IsLetter b)
letter b = either_way (both_ways (at_most 65 b) (at_most b 90)) (either_way (both_ways (at_most 97 b) (at_most b 122)) (same b 95))

word_byte : (b : ℕ) → Decided (IsWordByte b)
word_byte b = either_way (letter b) (digit b)

not_line_feed : (b : ℕ) → Decided (b ≡ 10 → ⊥)
not_line_feed b = elim (same b 10) [ inl e ↦ inr (λ differs. differs e) | inr differs ↦ inl differs ]

-- ---- the longest run

-- the bytes are a run of this kind, and what comes after it
pub record Run (P : ℕ → Type 0) (bytes : List ℕ) : Type 0 where
  pub run : List ℕ
  pub after : List ℕ
  pub split : bytes ≡ run ++ after
  pub all : AllByRecursion P run
  pub ends : EndsBefore P after

longest : (P : ℕ → Type 0) → ((b : ℕ) → Decided (P b)) → (bytes : List ℕ) → Run P bytes
longest P decide [] = record { run = []; after = []; split = refl; all = tt; ends = tt }
longest P decide (b ∷ bytes) = with_first (decide b) (longest P decide bytes)
  where
    with_first : Decided (P b) → Run P bytes → Run P (b ∷ bytes)
    with_first (inl h) r = record { run = b ∷ r.run; after = r.after; split = ap (λ l. b ∷ l) r.split; all = (h, r.all); ends = r.ends }
    with_first (inr never) r = record { run = []; after = b ∷ bytes; split = refl; all = tt; ends = never }

-- ---- words and signs

module _ {A : Type 0} (spelling : A → List ℕ) (d : A) (all : List A) (again : (w : A) → spelled_so spelling d all (spelling w) ≡ w) where
  -- whether something is spelled so
  spelled : (xs : List ℕ) → ((w : A) × (xs ≡ spelling w)) ⊎ ((w : A) → xs ≡ spelling w → ⊥)
  spelled xs = by_test (bytes_eq (spelling found) xs) (bytes_eq-Decides (spelling found) xs).0 (bytes_eq-Decides (spelling found) xs).1
    where
      found : A
      found = spelled_so spelling d all xs

      by_test : (b : Bool) → (b ≡ true → spelling found ≡ xs) → (spelling found ≡ xs → b ≡ true) → ((w : A) × (xs ≡ spelling w)) ⊎ ((w : A) → xs ≡ spelling w → ⊥)
      by_test true h k = inl (found, sym (h refl))
      by_test false h k = inr (λ w e. let is : false ≡ true = k (ap spelling (ap (spelled_so spelling d all) e ∙ again w) ∙ sym e) in absurd (cc))

-- a spelling of one byte or two
abbrev short : List ℕ → Bool
short (a ∷ []) = true
short (a ∷ b ∷ []) = true
short xs = false

sign-short : (s : Sign) → short (sign_spelling s) ≡ true
sign-short sign.Plus = refl
sign-short _ = refl

short_length : (xs : List ℕ) → short xs ≡ true → length xs ≤ 2
short_length [] e = absurd (cc)
short_length (a ∷ []) e = omega arith
short_length (a ∷ b ∷ []) e = omega arith
short_length (a ∷ b ∷ c ∷ xs) e = absurd (cc)

-- a spelling at the start of two bytes or more has two, or one
two_at_most : (xs : List ℕ) (a b : ℕ) (r rest : List ℕ) → short xs ≡ true → a ∷ b ∷ r ≡ xs ++ rest → (xs ≡ a ∷ b ∷ [] → ⊥) → length xs ≤ 1
two_at_most [] a b r rest e same never = absurd (cc)
two_at_most (c ∷ []) a b r rest e same never = omega arith
two_at_most (c ∷ d ∷ []) a b r rest e same never = absurd (never (cc))
two_at_most (c ∷ d ∷ f ∷ xs) a b r rest e same never = absurd (cc)

-- a spelling at the start of one byte is that byte
one_alone : (xs : List ℕ) (a : ℕ) (rest : List ℕ) → short xs ≡ true → a ∷ [] ≡ xs ++ rest → xs ≡ a ∷ []
one_alone [] a rest e same = absurd (cc)
one_alone (c ∷ []) a rest e same = cc
one_alone (c ∷ d ∷ xs) a rest e same = absurd (cc)

-- a spelling of one byte at the front
first_alone : (xs : List ℕ) (a b : ℕ) (r rest : List ℕ) → short xs ≡ true → a ∷ b ∷ r ≡ xs ++ rest → (xs ≡ a ∷ b ∷ [] → ⊥) → xs ≡ a ∷ []
first_alone [] a b r rest e same never = absurd (cc)
first_alone (c ∷ []) a b r rest e same never = cc
first_alone (c ∷ d ∷ []) a b r rest e same never = absurd (never (cc))
first_alone (c ∷ d ∷ f ∷ xs) a b r rest e same never = absurd (cc)

-- the longest sign at the start of bytes
pub record LongestSign (bytes : List ℕ) : Type 0 where
  pub sign : Sign
  pub after : List ℕ
  pub split : bytes ≡ sign_spelling sign ++ after
  pub longest : (other : Sign) → BeginsWith (sign_spelling other) bytes → length (sign_spelling other) ≤ length (sign_spelling sign)

sign_so : (xs : List ℕ) → ((s : Sign) × (xs ≡ sign_spelling s)) ⊎ ((s : Sign) → xs ≡ sign_spelling s → ⊥)
sign_so xs = spelled sign_spelling sign.Plus signs sign_again xs

word_so : (xs : List ℕ) → ((w : Keyword) × (xs ≡ word_spelling w)) ⊎ ((w : Keyword) → xs ≡ word_spelling w → ⊥)
word_so xs = spelled word_spelling word.Array words word_again xs

no_sign : (s : Sign) (rest : List ℕ) → [] ≡ sign_spelling s ++ rest → ⊥
no_sign s rest e =
    let f = sign-first s in
    let begins : [] ≡ f.0 ∷ (f.1 ++ rest) = e ∙ ap (λ l. l ++ rest) f.2 in
    absurd (cc)

longest_sign : (bytes : List ℕ) → LongestSign bytes ⊎ ((s : Sign) → BeginsWith (sign_spelling s) bytes → ⊥)
longest_sign [] = inr (λ s h. no_sign s h.0 h.1)
longest_sign (a ∷ []) = by_one (sign_so (a ∷ []))
  where
    by_one : ((s : Sign) × (a ∷ [] ≡ sign_spelling s)) ⊎ ((s : Sign) → a ∷ [] ≡ sign_spelling s → ⊥) → LongestSign (a ∷ []) ⊎ ((s : Sign) → BeginsWith (sign_spelling s) (a ∷ []) → ⊥)
    by_one (inl s) = inl (record {
      sign = s.0;
      after = [];
      split = ap (λ l. l ++ []) s.1;
      longest = λ other h. (let e = one_alone (sign_spelling other) a h.0 (sign-short other) h.1 in omega (arith, ap length e, ap length s.1));
    })
    by_one (inr none) = inr (λ s h. none s (sym (one_alone (sign_spelling s) a h.0 (sign-short s) h.1)))
longest_sign (a ∷ b ∷ r) = by_two (sign_so (a ∷ b ∷ [])) (sign_so (a ∷ []))
  where
    by_two : ((s : Sign) × (a ∷ b ∷ [] ≡ sign_spelling s)) ⊎ ((s : Sign) → a ∷ b ∷ [] ≡ sign_spelling s → ⊥) → ((s : Sign) × (a ∷ [] ≡ sign_spelling s)) ⊎ ((s : Sign) → a ∷ [] ≡ sign_spelling s → ⊥) → LongestSign (a ∷ b ∷ r) ⊎ ((s : Sign) → BeginsWith (sign_spelling s) (a ∷ b ∷ r) → ⊥)
    by_two (inl s) one = inl (record {
      sign = s.0;
      after = r;
      split = ap (λ l. l ++ r) s.1;
      longest = λ other h. omega (arith, short_length (sign_spelling other) (sign-short other), ap length s.1);
    })
    by_two (inr never) (inl s) = inl (record {
      sign = s.0;
      after = b ∷ r;
      split = ap (λ l. l ++ b ∷ r) s.1;
      longest = λ other h. omega (arith, two_at_most (sign_spelling other) a b r h.0 (sign-short other) h.1 (λ e. never other (sym e)), ap length s.1);
    })
    by_two (inr never) (inr none) = inr (λ s h. none s (sym (first_alone (sign_spelling s) a b r h.0 (sign-short s) h.1 (λ e. never s (sym e)))))

-- ---- what begins at the start of bytes

pub data Begun (bytes : List ℕ) : Type 0 where
  piece : (p : Piece) (after : List ℕ) → bytes ≡ bytes_of p ++ after → IsPiece p after → Begun bytes
  nothing : BeginsNothing bytes → Begun bytes
  too_large : BeginsTooLarge bytes → Begun bytes

module _ (b : ℕ) (rest : List ℕ) where
  comment_begins : b ≡ 35 → Begun (b ∷ rest)
  comment_begins h =
      let r = longest (λ c. c ≡ 10 → ⊥) not_line_feed rest in
      piece (Comment (b ∷ r.run)) r.after (ap (λ l. b ∷ l) r.split) ((h, All-from_recursion (λ c. c ≡ 10 → ⊥) r.run r.all), line_ends r.after r.ends)

  word_begins : IsLetter b → Begun (b ∷ rest)
  word_begins h = by_word (longest IsWordByte word_byte rest)
    where
      by_word : Run IsWordByte rest → Begun (b ∷ rest)
      by_word r = elim (word_so (b ∷ r.run)) [
        | inl w ↦ piece (Lexeme (kind.Keyword w.0) (b ∷ r.run)) r.after (ap (λ l. b ∷ l) r.split) (w.1, r.ends)
        | inr none ↦ piece (Lexeme kind.Name (b ∷ r.run)) r.after (ap (λ l. b ∷ l) r.split) ((h, All-from_recursion IsWordByte r.run r.all), r.ends, none)
      ]

  number_begins : IsDigit b → Begun (b ∷ rest)
  number_begins h = by_size (longest IsDigit digit rest)
    where
      by_size : Run IsDigit rest → Begun (b ∷ rest)
      by_size r = elim (order (number_from 0 (b ∷ r.run)) max_number) [
        | inl small ↦ piece (Lexeme (kind.Number (pos (number_from 0 (b ∷ r.run)))) (b ∷ r.run)) r.after (ap (λ l. b ∷ l) r.split) ((h, All-from_recursion IsDigit r.run r.all), r.ends, refl, small)
        | inr large ↦ too_large (b ∷ r.run, r.after, ap (λ l. b ∷ l) r.split, (h, All-from_recursion IsDigit r.run r.all), r.ends, large)
      ]

  sign_begins : (IsBlank b → ⊥) → (b ≡ 35 → ⊥) → (IsLetter b → ⊥) → (IsDigit b → ⊥) → Begun (b ∷ rest)
  sign_begins no_blank no_hash no_letter no_digit = elim (longest_sign (b ∷ rest)) [
    | inl s ↦ piece (Lexeme (kind.Sign s.sign) (sign_spelling s.sign)) s.after s.split (refl, λ other h. s.longest other (subst (BeginsWith (sign_spelling other)) (sym s.split) h))
    | inr none ↦ nothing (no_blank, no_hash, (λ w. elim w [ inl l ↦ no_letter l | inr d ↦ no_digit d ]), none)
  ]

  pub begun : Begun (b ∷ rest)
  begun = elim (blank b) [
    | inl h ↦ piece (Blank b) rest refl h
    | inr no_blank ↦ elim (same b 35) [
      | inl h ↦ comment_begins h
      | inr no_hash ↦ elim (letter b) [
        | inl h ↦ word_begins h
        | inr no_letter ↦ elim (digit b) [ inl h ↦ number_begins h | inr no_digit ↦ sign_begins no_blank no_hash no_letter no_digit ]
      ]
    ]
  ]

-- ---- whole texts

-- a text that is cut up to its end, or up to a fault
pub record CutSomewhere (text : List ℕ) : Type 0 where
  pub pieces : List Piece
  pub rest : List ℕ
  pub cut : IsCut text pieces rest
  pub why : (rest ≡ []) ⊎ BeginsNothing rest ⊎ BeginsTooLarge rest

cut_within : (n : ℕ) (text : List ℕ) → length text ≤ n → CutSomewhere text
cut_within n [] h = record { pieces = []; rest = []; cut = refl; why = inl refl }
cut_within zero (b ∷ text) h = absurd (omega (arith, h))
cut_within (suc n) (b ∷ text) h = by_front (cut_within n) (begun b text)
  where
    by_front : ((after : List ℕ) → length after ≤ n → CutSomewhere after) → Begun (b ∷ text) → CutSomewhere (b ∷ text)
    by_front further (piece p after e w) =
        let f = first_byte p after w in
        let r = further after (omega (arith, h, ap length e, length-append (bytes_of p) after, ap length f.2)) in
        record { pieces = p ∷ r.pieces; rest = r.rest; cut = (after, e, w, r.cut); why = r.why }
    by_front further (nothing x) = record { pieces = []; rest = b ∷ text; cut = refl; why = inr (inl x) }
    by_front further (too_large x) = record { pieces = []; rest = b ∷ text; cut = refl; why = inr (inr x) }

rest_fits : (text : List ℕ) (ps : List Piece) (rest : List ℕ) → IsCut text ps rest → length rest ≤ length text
rest_fits text [] rest cut = omega (arith, ap length cut)
rest_fits text (p ∷ ps) rest cut = omega (arith, rest_fits cut.0 ps rest cut.3, ap length cut.1, length-append (bytes_of p) cut.0)

fault_at : (F : List ℕ → Type 0) (text : List ℕ) (c : CutSomewhere text) → F c.rest → (at : ℕ) × IsFaultyAt F text at
fault_at F text c h =
    let fits = rest_fits text c.pieces c.rest c.cut in
    (length text - length c.rest, record { pieces = c.pieces; rest = c.rest; cut = c.cut; offset = omega (arith, fits); fault = h })

pub tokens_or_fault : (text : List ℕ) → ((tokens : List Token) × AreTokensOf text tokens) ⊎ ((at : ℕ) × IsFaultyAt BeginsNothing text at) ⊎ ((at : ℕ) × IsFaultyAt BeginsTooLarge text at)
tokens_or_fault text = by_cut (cut_within (length text) text (omega arith))
  where
    by_cut : CutSomewhere text → ((tokens : List Token) × AreTokensOf text tokens) ⊎ ((at : ℕ) × IsFaultyAt BeginsNothing text at) ⊎ ((at : ℕ) × IsFaultyAt BeginsTooLarge text at)
    by_cut c = elim c.why [
      | inl e ↦ inl (tokens_at 0 c.pieces, record { pieces = c.pieces; cut = subst (IsCut text c.pieces) e c.cut; are = refl })
      | inr faulty ↦ elim faulty [ inl x ↦ inr (inl (fault_at BeginsNothing text c x)) | inr x ↦ inr (inr (fault_at BeginsTooLarge text c x)) ]
    ]
