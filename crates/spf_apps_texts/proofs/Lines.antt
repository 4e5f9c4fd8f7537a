-- Texts as lines, and lines as pieces.
use Rattle.std.proofs.Common.{◌≡◌, ◌++◌, ◌∷◌, [], codes, ℕ, List, zero, suc, ◌+◌, ◌-◌, ◌≤◌, refl, sym, ap, ◌∙◌, append_assoc, append-nil, take, drop, pos, arith}
use Rattle.std.specs.List.{concat}
use Rattle.std.specs.Fmt.{decimal, digits}
use Rattle.spf_ast.specs.Syntax.{Expression, Condition}
use Rattle.spf_ast.specs.Spelling.{Vocabulary, name_at, spelled_expression, spelled_condition}
use Rattle.spf_print_forms.specs.Canonical.{joined, line, expression_text, size_text}
use Rattle.spf_apps_texts.specs.Texts.{lines}

infixl 60 ◌and◌
infixr 60 ◌then◌
-- ---- lines

-- a text has these lines
pub record HasLines (text : List ℕ) (ls : List (List ℕ)) : Type 0 where
  pub are : text ≡ lines ls

-- lines, from the one of a number to that of another
abbrev pub part : (from to : ℕ) → List (List ℕ) → List (List ℕ)
part from to ls = take (to + 1 - from) (drop (from - 1) ls)

lines-append : (a b : List (List ℕ)) → lines a ++ lines b ≡ lines (a ++ b)
lines-append [] b = refl
lines-append (line ∷ a) b = append_assoc line (10 ∷ lines a) (lines b) ∙ ap (λ t. line ++ 10 ∷ t) (lines-append a b)

-- a text, and then more
pub ◌and◌ : {text more : List ℕ} {a b : List (List ℕ)} → HasLines text a → HasLines more b → HasLines (text ++ more) (a ++ b)
◌and◌ {text} {more} {a} {b} h k = record { are = ap (λ t. t ++ more) h.are ∙ ap (λ t. lines a ++ t) k.are ∙ lines-append a b }

-- no text
pub none : HasLines [] []
none = record { are = refl }

-- lines in which no number has to be written
pub same : (from to : ℕ) (ls : List (List ℕ)) → HasLines (lines (part from to ls)) (part from to ls)
same from to ls = record { are = refl }

-- the line that begins an `if`, and the one that begins a `for`
abbrev pub if_line : Vocabulary → List ℕ → Condition → List ℕ
if_line v indent test = line indent (codes "if " ∷ expression_text (spelled_condition v test) ∷ codes " {" ∷ [])

abbrev pub for_line : Vocabulary → List ℕ → (slot : ℕ) (low high : Expression) → List ℕ
for_line v indent slot low high =
    line indent (codes "for " ∷ name_at v.slots slot ∷ codes " in " ∷ expression_text (spelled_expression v low) ∷ codes ".."
    ∷ expression_text (spelled_expression v high) ∷ codes " {" ∷ [])

-- ---- pieces

-- a text is these pieces, one after another
pub record HasPieces (text : List ℕ) (pieces : List (List ℕ)) : Type 0 where
  pub are : text ≡ concat pieces

concat-append : (a b : List (List ℕ)) → concat a ++ concat b ≡ concat (a ++ b)
concat-append [] b = refl
concat-append (piece ∷ a) b = append_assoc piece (concat a) (concat b) ∙ ap (λ t. piece ++ t) (concat-append a b)

-- pieces, and then more
pub ◌then◌ : {text more : List ℕ} {a b : List (List ℕ)} → HasPieces text a → HasPieces more b → HasPieces (text ++ more) (a ++ b)
◌then◌ {text} {more} {a} {b} h k = record { are = ap (λ t. t ++ more) h.are ∙ ap (λ t. concat a ++ t) k.are ∙ concat-append a b }

-- a piece
pub piece : (text : List ℕ) → HasPieces text (text ∷ [])
piece text = record { are = sym (append-nil text) }

-- the last pieces that are joined
pub last : {text : List ℕ} {a : List (List ℕ)} → HasPieces text a → HasPieces (text ++ []) (a ++ [])
last h = h then (record { are = refl })

-- an operator between two operands
pub operands : {a b : List ℕ} {p q : List (List ℕ)} → HasPieces a p → (sign : List ℕ) → HasPieces b q → HasPieces (joined (a ∷ sign ∷ b ∷ [])) (p ++ (sign ∷ [] ++ (q ++ [])))
operands h sign k = h then piece sign then last k

-- text between two brackets
pub between : {t : List ℕ} {p : List (List ℕ)} (opening : List ℕ) → HasPieces t p → (closing : List ℕ) → HasPieces (joined (opening ∷ t ∷ closing ∷ [])) (opening ∷ [] ++ (p ++ (closing ∷ [])))
between opening h closing = piece opening then h then last (piece closing)

-- a byte of the input
pub input_at : {t : List ℕ} {p : List (List ℕ)} → HasPieces t p → HasPieces (joined (codes "input" ∷ codes "[" ∷ t ∷ codes "]" ∷ [])) (codes "input" ∷ [] ++ (codes "[" ∷ [] ++ (p ++ (codes "]" ∷ []))))
input_at h = piece (codes "input") then between (codes "[") h (codes "]")

-- the line of a text, where both are the same pieces
pub ended : {text whole line : List ℕ} → text ≡ whole → line ≡ whole → HasLines (text ++ 10 ∷ []) (line ∷ [])
ended h k = record { are = ap (λ t. t ++ 10 ∷ []) (h ∙ sym k) }

-- ---- numbers

pub zero_written : HasPieces (decimal 0) (codes "0" ∷ [])
unfolding digits
zero_written = record { are = refl }

pub one_written : HasPieces (decimal 1) (codes "1" ∷ [])
unfolding digits
one_written = record { are = refl }

pub two_written : HasPieces (decimal 2) (codes "2" ∷ [])
unfolding digits
two_written = record { are = refl }

pub six_written : HasPieces (decimal 6) (codes "6" ∷ [])
unfolding digits
six_written = record { are = refl }

pub eight_written : HasPieces (decimal 8) (codes "8" ∷ [])
unfolding digits
eight_written = record { are = refl }

-- where the table of a machine stands
pub table_written : HasPieces (decimal 262) (codes "262" ∷ [])
unfolding digits
table_written = record { are = refl }

-- where the code words stand
pub words_written : HasPieces (decimal 264) (codes "264" ∷ [])
unfolding digits
words_written = record { are = refl }

-- the size of an array that has an offset
sized : (factor n : ℕ) → 1 ≤ n → size_text (pos (suc factor)) (pos n) ≡ joined (decimal (suc factor) ∷ codes "*len + " ∷ decimal n ∷ [])
sized factor zero h = absurd (omega (arith, h))
sized factor (suc n) h = refl

-- an array with a factor of one digit
pub array_pieces : (name digit : List ℕ) (factor n : ℕ) → HasPieces (decimal (suc factor)) (digit ∷ []) → 1 ≤ n → HasPieces (joined (codes "array " ∷ name ∷ codes "[" ∷ size_text (pos (suc factor)) (pos n) ∷ codes "];" ∷ [])) (codes "array " ∷ name ∷ codes "[" ∷ digit ∷ codes "*len + " ∷ decimal n ∷ codes "];" ∷ [])
array_pieces name digit factor n h k =
    let size : HasPieces (size_text (pos (suc factor)) (pos n)) (digit ∷ codes "*len + " ∷ decimal n ∷ []) = record { are = sized factor n k ∙ (operands h (codes "*len + ") (piece (decimal n))).are } in
    piece (codes "array ") then piece name then between (codes "[") size (codes "];")
