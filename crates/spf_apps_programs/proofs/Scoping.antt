-- Tests for lawful programs, which compute on programs that are written out: all but their numbers.
use Rattle.std.proofs.Common.{◌≡◌, ◌⊎◌, inl, inr, ℕ, zero, suc, ◌<◌, ◌≤◌, ◌^◌, Bool, true, false, List, [], ◌∷◌, ◌++◌, Some, None, Option, ℤ, pos, negsuc, refl, sym, subst, arith, Contains}
use Rattle.std.specs.Prelude.{◌&&◌, ◌||◌, not, ◌==◌, nat_lt, nat_le, IfSome, slice_get, All, length}
use Rattle.std.specs.List.{AllByRecursion}
use Rattle.std.proofs.lemmas.Bool.{ltb-true}
use Rattle.std.proofs.lemmas.Bool.Decides.{nat_tests}
use Rattle.std.proofs.lemmas.List.Elements.{All-nil, All-cons}
use Rattle.spf_ast_lemmas.proofs.Members.{first-in, later-in, none-in, first-or-later, cases, some_is}
use Rattle.spf_ast.specs.Syntax.{Expression, Number, Local, Len, Input, Load, Call, Neg, Binary, Arguments, no_more, argument, Condition, Compare, Both, Either, Not, Predictor, By, Host}
use Rattle.spf_ast.specs.Syntax.{Statement, Let, Assign, Store, Fill, Emit, Fail, If, For, While, Do, Fold, Pair, Break, Block, end, on_line, FoldHead, Function}
use Rattle.spf_ast.specs.Meaning.{count_of}
use Rattle.spf_ast.specs.Lawful.{IsLetter, IsWordByte, IsWord, IsName, IsNumber, AreDifferent, reserved_words, Names, Scope, behind, showing, showing_fixed, showing_each, in_turn, IsNew, Declares, DeclaresEach, IsCallable, IsLawfulExpression, AreLawfulArguments, IsLawfulCondition, IsLawfulPredictor, AreLawfulPredictors, FoldHasOneWidth, IsLawfulStatement, IsLawfulBlock, declared_in, scope_after, scope_at_end, in_predictor, in_body, parameters}

-- ---- tests in general

pub both : (a b : Bool) → (a && b) ≡ true → (a ≡ true) × (b ≡ true)
both true b e = (refl, e)
both false b e = cc

not-so : (b : Bool) → not b ≡ true → b ≡ true → ⊥
not-so true e h = cc
not-so false e h = cc

same_number : (a b : ℕ) → (a == b) ≡ true → a ≡ b
same_number a b e = grind (arith, nat_tests, e)

abbrev has : List ℕ → ℕ → Bool
has [] x = false
has (y ∷ ys) x = (y == x) || has ys x

either_way : (a b : Bool) → (a || b) ≡ true → (a ≡ true) ⊎ (b ≡ true)
either_way true b e = inl refl
either_way false b e = inr e

has-contains : (xs : List ℕ) (x : ℕ) → has xs x ≡ true → Contains xs x
has-contains [] x e = cc
has-contains (y ∷ ys) x e =
    cases (either_way (y == x) (has ys x) e) (λ here. subst (λ z. Contains (y ∷ ys) z) (same_number y x here) (first-in y ys)) (λ there. later-in y x ys (has-contains ys x there))

contains-has : (xs : List ℕ) (x : ℕ) → Contains xs x → has xs x ≡ true
contains-has [] x c = absurd (none-in x c)
contains-has (y ∷ ys) x c = cases (first-or-later y x ys c) (λ e. subst (λ z. ((y == z) || has ys z) ≡ true) e (here y (has ys y))) (λ i. later (y == x) (has ys x) (contains-has ys x i))
  where
    here : (n : ℕ) (b : Bool) → ((n == n) || b) ≡ true
    here n b = grind (arith, nat_tests)

    later : (a b : Bool) → b ≡ true → (a || b) ≡ true
    later true b e = refl
    later false b e = e

-- ---- names

abbrev same_text : List ℕ → List ℕ → Bool
same_text [] [] = true
same_text [] (b ∷ bs) = false
same_text (a ∷ more) [] = false
same_text (a ∷ more) (b ∷ bs) = (a == b) && same_text more bs

text_itself : (a : List ℕ) → same_text a a ≡ true
text_itself [] = refl
text_itself (a ∷ more) = here a (same_text more more) (text_itself more)
  where
    here : (n : ℕ) (b : Bool) → b ≡ true → ((n == n) && b) ≡ true
    here n b e = grind (arith, nat_tests, e)

differ : (a b : List ℕ) → not (same_text a b) ≡ true → a ≡ b → ⊥
differ a b n e = not-so (same_text a b) n (subst (λ z. same_text a z ≡ true) e (text_itself a))

-- none of these texts is this one
abbrev apart : List (List ℕ) → List ℕ → Bool
apart [] x = true
apart (y ∷ ys) x = not (same_text y x) && apart ys x

pub apart-sound : (ys : List (List ℕ)) (x : List ℕ) → apart ys x ≡ true → Contains ys x → ⊥
apart-sound [] x e c = none-in x c
apart-sound (y ∷ ys) x e c =
    let parts = both (not (same_text y x)) (apart ys x) e in
    cases (first-or-later y x ys c) (λ same. differ y x parts.0 same) (λ i. apart-sound ys x parts.1 i)

abbrev pub all_differ : List (List ℕ) → Bool
all_differ [] = true
all_differ (x ∷ xs) = apart xs x && all_differ xs

pub differ-sound : (xs : List (List ℕ)) → all_differ xs ≡ true → AreDifferent xs
differ-sound [] e = tt
differ-sound (x ∷ xs) e = let parts = both (apart xs x) (all_differ xs) e in (apart-sound xs x parts.0, differ-sound xs parts.1)

abbrev is_letter : ℕ → Bool
is_letter b = (nat_le 65 b && nat_le b 90) || ((nat_le 97 b && nat_le b 122) || (b == 95))

abbrev is_word_byte : ℕ → Bool
is_word_byte b = is_letter b || (nat_le 48 b && nat_le b 57)

within : (low high b : ℕ) → (nat_le low b && nat_le b high) ≡ true → (low ≤ b) × (b ≤ high)
within low high b e = let parts = both (nat_le low b) (nat_le b high) e in (grind (arith, nat_tests, parts.0), grind (arith, nat_tests, parts.1))

letter-sound : (b : ℕ) → is_letter b ≡ true → IsLetter b
letter-sound b e =
    cases (either_way (nat_le 65 b && nat_le b 90) ((nat_le 97 b && nat_le b 122) || (b == 95)) e)
    (λ upper. inl (within 65 90 b upper))
    (λ rest. cases (either_way (nat_le 97 b && nat_le b 122) (b == 95) rest) (λ lower. inr (inl (within 97 122 b lower))) (λ line. inr (inr (same_number b 95 line))))

word_byte-sound : (b : ℕ) → is_word_byte b ≡ true → IsWordByte b
word_byte-sound b e = cases (either_way (is_letter b) (nat_le 48 b && nat_le b 57) e) (λ l. inl (letter-sound b l)) (λ d. inr (within 48 57 b d))

abbrev are_word_bytes : List ℕ → Bool
are_word_bytes [] = true
are_word_bytes (b ∷ bytes) = is_word_byte b && are_word_bytes bytes

word_bytes-sound : (bytes : List ℕ) → are_word_bytes bytes ≡ true → All IsWordByte bytes
word_bytes-sound [] e = All-nil IsWordByte
word_bytes-sound (b ∷ bytes) e =
    let parts = both (is_word_byte b) (are_word_bytes bytes) e in
    All-cons IsWordByte b bytes (word_byte-sound b parts.0) (word_bytes-sound bytes parts.1)

abbrev is_word : List ℕ → Bool
is_word [] = false
is_word (b ∷ bytes) = is_letter b && are_word_bytes bytes

word-sound : (bytes : List ℕ) → is_word bytes ≡ true → IsWord bytes
word-sound [] e = cc
word-sound (b ∷ bytes) e = let parts = both (is_letter b) (are_word_bytes bytes) e in (letter-sound b parts.0, word_bytes-sound bytes parts.1)

abbrev pub are_names : List (List ℕ) → Bool
are_names [] = true
are_names (x ∷ xs) = (is_word x && apart reserved_words x) && are_names xs

pub names-sound : (xs : List (List ℕ)) → are_names xs ≡ true → All IsName xs
names-sound [] e = All-nil IsName
names-sound (x ∷ xs) e =
    let parts = both (is_word x && apart reserved_words x) (are_names xs) e in
    let here = both (is_word x) (apart reserved_words x) parts.0 in
    All-cons IsName x xs (word-sound x here.0, apart-sound reserved_words x here.1) (names-sound xs parts.1)

-- ---- declarations

-- a slot doesn't have this name
abbrev is_other : Option (List ℕ) → List ℕ → Bool
is_other None x = true
is_other (Some y) x = not (same_text y x)

other-sound : (slot : Option (List ℕ)) (x : List ℕ) → is_other slot x ≡ true → slot ≡ Some x → ⊥
other-sound None x e h = cc
other-sound (Some y) x e h = differ y x e (some_is y x h)

abbrev unseen : List (List ℕ) → List ℕ → List ℕ → Bool
unseen slots [] x = true
unseen slots (other ∷ visible) x = is_other (slice_get slots other) x && unseen slots visible x

unseen-sound : (slots : List (List ℕ)) (visible x : List ℕ) → unseen slots visible x ≡ true → All (λ other. slice_get slots other ≡ Some x → ⊥) visible
unseen-sound slots [] x e = All-nil (λ other. slice_get slots other ≡ Some x → ⊥)
unseen-sound slots (other ∷ visible) x e =
    let parts = both (is_other (slice_get slots other) x) (unseen slots visible x) e in
    All-cons (λ o. slice_get slots o ≡ Some x → ⊥) other visible (other-sound (slice_get slots other) x parts.0) (unseen-sound slots visible x parts.1)

abbrev new_name : Names → Scope → Option (List ℕ) → Bool
new_name names scope None = true
new_name names scope (Some x) = apart names.taken x && unseen names.slots scope.visible x

new_name-sound : (names : Names) (scope : Scope) (slot : Option (List ℕ)) → new_name names scope slot ≡ true → IfSome slot (λ x. (Contains names.taken x → ⊥) × All (λ other. slice_get names.slots other ≡ Some x → ⊥) scope.visible)
new_name-sound names scope None e = tt
new_name-sound names scope (Some x) e =
    let parts = both (apart names.taken x) (unseen names.slots scope.visible x) e in
    (apart-sound names.taken x parts.0, unseen-sound names.slots scope.visible x parts.1)

abbrev is_new : Names → Scope → ℕ → Bool
is_new names scope slot = new_name names scope (slice_get names.slots slot)

new-sound : (names : Names) (scope : Scope) (slot : ℕ) → is_new names scope slot ≡ true → IsNew names scope slot
new-sound names scope slot e = new_name-sound names scope (slice_get names.slots slot) e

abbrev declares : Names → Scope → ℕ → Bool
declares names scope slot = (slot == scope.next) && is_new names scope slot

declares-sound : (names : Names) (scope : Scope) (slot : ℕ) → declares names scope slot ≡ true → Declares names scope slot
declares-sound names scope slot e =
    let parts = both (slot == scope.next) (is_new names scope slot) e in
    (same_number slot scope.next parts.0, new-sound names scope slot parts.1)

-- slots that are declared one after another
abbrev declares_each : Names → Scope → List ℕ → Bool
declares_each names scope [] = true
declares_each names scope (slot ∷ slots) = declares names scope slot && declares_each names (behind 1 (showing slot scope)) slots

declares_each-sound : (names : Names) (scope : Scope) (slots : List ℕ) → declares_each names scope slots ≡ true → DeclaresEach names scope slots
declares_each-sound names scope [] e = tt
declares_each-sound names scope (slot ∷ slots) e =
    let parts = both (declares names scope slot) (declares_each names (behind 1 (showing slot scope)) slots) e in
    (declares-sound names scope slot parts.0, declares_each-sound names (behind 1 (showing slot scope)) slots parts.1)

-- the first slots of a function, as many as `count`, are new where they are declared
abbrev pub new_parameters : Names → ℕ → Bool
new_parameters names zero = true
new_parameters names (suc count) = is_new names (parameters count) count && new_parameters names count

pub parameters-sound : (names : Names) (count : ℕ) → new_parameters names count ≡ true → (slot : ℕ) → slot < count → IsNew names (parameters slot) slot
parameters-sound names zero e slot h = absurd (omega (arith, h))
parameters-sound names (suc count) e slot h =
    let parts = both (is_new names (parameters count) count) (new_parameters names count) e in
    cases (last slot count h) (λ same. subst (λ n. IsNew names (parameters n) n) (sym same) (new-sound names (parameters count) count parts.0)) (λ before. parameters-sound names count parts.1 slot before)
  where
    last : (k n : ℕ) → k < suc n → (k ≡ n) ⊎ (k < n)
    last k n l = grind (arith, l)

-- ---- forms

-- the numbers of a form fit a text; a negative one doesn't
abbrev mutual
  pub numbers_in : Expression → List ℕ
  numbers_in (Number (pos n)) = n ∷ []
  numbers_in (Number (negsuc n)) = 2 ^ 63 ∷ []
  numbers_in (Local slot) = []
  numbers_in Len = []
  numbers_in (Input index) = numbers_in index
  numbers_in (Load array index) = numbers_in index
  numbers_in (Call f given) = numbers_in_arguments given
  numbers_in (Neg inner) = numbers_in inner
  numbers_in (Binary op a b) = numbers_in a ++ numbers_in b

  pub numbers_in_arguments : Arguments → List ℕ
  numbers_in_arguments no_more = []
  numbers_in_arguments (argument first rest) = numbers_in first ++ numbers_in_arguments rest

abbrev pub numbers_in_condition : Condition → List ℕ
numbers_in_condition (Compare test a b) = numbers_in a ++ numbers_in b
numbers_in_condition _ = 2 ^ 63 ∷ []

abbrev pub numbers_in_guess : Predictor → List ℕ
numbers_in_guess (By guess) = numbers_in guess
numbers_in_guess (Host number) = 2 ^ 63 ∷ []

abbrev pub numbers_in_guesses : List Predictor → List ℕ
numbers_in_guesses [] = []
numbers_in_guesses (first ∷ rest) = numbers_in_guess first ++ numbers_in_guesses rest

abbrev mutual
  pub numbers_in_statement : Statement → List ℕ
  numbers_in_statement (Let slot value) = numbers_in value
  numbers_in_statement (Assign slot value) = numbers_in value
  numbers_in_statement (Store array index value) = numbers_in index ++ numbers_in value
  numbers_in_statement (Fill array low high value) = numbers_in low ++ (numbers_in high ++ numbers_in value)
  numbers_in_statement (Emit value) = numbers_in value
  numbers_in_statement (Fail number) = []
  numbers_in_statement (If test a b) = numbers_in_condition test ++ (numbers_in_block a ++ numbers_in_block b)
  numbers_in_statement (For slot low high body) = numbers_in low ++ (numbers_in high ++ numbers_in_block body)
  numbers_in_statement (Fold head body) =
      numbers_in_arguments head.start
      ++ (numbers_in head.low ++ (numbers_in head.high ++ (numbers_in_guesses head.predict ++ (numbers_in_block body ++ numbers_in_arguments head.next))))
  numbers_in_statement _ = 2 ^ 63 ∷ []

  pub numbers_in_block : Block → List ℕ
  numbers_in_block end = []
  numbers_in_block (on_line line first rest) = numbers_in_statement first ++ numbers_in_block rest

abbrev pub Fit : List ℕ → Type 0
Fit list = AllByRecursion (λ n. n < 2 ^ 63) list

in_parts : (a b : List ℕ) → Fit (a ++ b) → Fit a × Fit b
in_parts [] b h = (tt, h)
in_parts (n ∷ a) b h = let rest = in_parts a b h.1 in ((h.0, rest.0), rest.1)

fits : (n : ℕ) → n < 2 ^ 63 → IsNumber (pos n)
fits n h = (grind arith, grind arith)

too_great : (n : ℤ) → Fit (2 ^ 63 ∷ []) → IsNumber n
too_great n h = absurd (omega (arith, h.0))

abbrev has_params : Option Function → ℕ → Bool
has_params None count = true
has_params (Some g) count = g.params == count

params-sound : (f : Option Function) (count : ℕ) → has_params f count ≡ true → IfSome f (λ g. g.params ≡ count)
params-sound None count e = tt
params-sound (Some g) count e = same_number g.params count e

abbrev callable : Names → ℕ → ℕ → Bool
callable names f count = nat_lt f names.index && has_params (slice_get names.functions f) count

callable-sound : (names : Names) (f count : ℕ) → callable names f count ≡ true → IsCallable names f count
callable-sound names f count e =
    let parts = both (nat_lt f names.index) (has_params (slice_get names.functions f) count) e in
    (ltb-true f names.index parts.0, params-sound (slice_get names.functions f) count parts.1)

abbrev mutual
  pub sees : Names → Scope → Expression → Bool
  sees names scope (Number n) = true
  sees names scope (Local slot) = has scope.visible slot
  sees names scope Len = true
  sees names scope (Input index) = sees names scope index
  sees names scope (Load array index) = nat_lt array names.arrays && sees names scope index
  sees names scope (Call f given) = callable names f (count_of given) && sees_arguments names scope given
  sees names scope (Neg inner) = sees names scope inner
  sees names scope (Binary op a b) = sees names scope a && sees names scope b

  sees_arguments : Names → Scope → Arguments → Bool
  sees_arguments names scope no_more = true
  sees_arguments names scope (argument first rest) = sees names scope first && sees_arguments names scope rest

mutual
  pub sees-sound : (names : Names) (scope : Scope) (e : Expression) → sees names scope e ≡ true → Fit (numbers_in e) → IsLawfulExpression names scope e
  sees-sound names scope (Number (pos n)) t h = fits n h.0
  sees-sound names scope (Number (negsuc n)) t h = too_great (negsuc n) h
  sees-sound names scope (Local slot) t h = has-contains scope.visible slot t
  sees-sound names scope Len t h = tt
  sees-sound names scope (Input index) t h = sees-sound names scope index t h
  sees-sound names scope (Load array index) t h =
      let parts = both (nat_lt array names.arrays) (sees names scope index) t in
      (ltb-true array names.arrays parts.0, sees-sound names scope index parts.1 h)
  sees-sound names scope (Call f given) t h =
      let parts = both (callable names f (count_of given)) (sees_arguments names scope given) t in
      (callable-sound names f (count_of given) parts.0, arguments-sound names scope given parts.1 h)
  sees-sound names scope (Neg inner) t h = sees-sound names scope inner t h
  sees-sound names scope (Binary op a b) t h =
      let parts = both (sees names scope a) (sees names scope b) t in
      let numbers = in_parts (numbers_in a) (numbers_in b) h in
      (sees-sound names scope a parts.0 numbers.0, sees-sound names scope b parts.1 numbers.1)

  arguments-sound : (names : Names) (scope : Scope) (given : Arguments) → sees_arguments names scope given ≡ true → Fit (numbers_in_arguments given) → AreLawfulArguments names scope given
  arguments-sound names scope no_more t h = tt
  arguments-sound names scope (argument first rest) t h =
      let parts = both (sees names scope first) (sees_arguments names scope rest) t in
      let numbers = in_parts (numbers_in first) (numbers_in_arguments rest) h in
      (sees-sound names scope first parts.0 numbers.0, arguments-sound names scope rest parts.1 numbers.1)

abbrev sees_condition : Names → Scope → Condition → Bool
sees_condition names scope (Compare test a b) = sees names scope a && sees names scope b
sees_condition names scope _ = false

condition-sound : (names : Names) (scope : Scope) (c : Condition) → sees_condition names scope c ≡ true → Fit (numbers_in_condition c) → IsLawfulCondition names scope c
condition-sound names scope (Compare test a b) t h =
    let parts = both (sees names scope a) (sees names scope b) t in
    let numbers = in_parts (numbers_in a) (numbers_in b) h in
    (sees-sound names scope a parts.0 numbers.0, sees-sound names scope b parts.1 numbers.1)
condition-sound names scope (Both c d) t h = absurd (omega (arith, h.0))
condition-sound names scope (Either c d) t h = absurd (omega (arith, h.0))
condition-sound names scope (Not c) t h = absurd (omega (arith, h.0))

abbrev sees_guess : Names → Scope → Predictor → Bool
sees_guess names scope (By guess) = sees names scope guess
sees_guess names scope (Host number) = false

guess-sound : (names : Names) (scope : Scope) (p : Predictor) → sees_guess names scope p ≡ true → Fit (numbers_in_guess p) → IsLawfulPredictor names scope p
guess-sound names scope (By guess) t h = sees-sound names scope guess t h
guess-sound names scope (Host number) t h = absurd (omega (arith, h.0))

abbrev sees_guesses : Names → Scope → List Predictor → Bool
sees_guesses names scope [] = true
sees_guesses names scope (first ∷ rest) = sees_guess names scope first && sees_guesses names scope rest

guesses-sound : (names : Names) (scope : Scope) (guesses : List Predictor) → sees_guesses names scope guesses ≡ true → Fit (numbers_in_guesses guesses) → AreLawfulPredictors names scope guesses
guesses-sound names scope [] t h = tt
guesses-sound names scope (first ∷ rest) t h =
    let parts = both (sees_guess names scope first) (sees_guesses names scope rest) t in
    let numbers = in_parts (numbers_in_guess first) (numbers_in_guesses rest) h in
    (guess-sound names scope first parts.0 numbers.0, guesses-sound names scope rest parts.1 numbers.1)

-- the lists of a fold are as long as its names, which are one to four
abbrev has_one_width : FoldHead → Bool
has_one_width head =
    nat_le 1 (length head.carried)
    && (nat_le (length head.carried) 4
    && ((count_of head.start == length head.carried) && ((length head.predict == length head.carried) && (count_of head.next == length head.carried))))

width-sound : (head : FoldHead) → has_one_width head ≡ true → FoldHasOneWidth head
width-sound head t =
    let t1 = both (nat_le 1 (length head.carried)) _ t in
    let t2 = both (nat_le (length head.carried) 4) _ t1.1 in
    let t3 = both (count_of head.start == length head.carried) _ t2.1 in
    let t4 = both (length head.predict == length head.carried) (count_of head.next == length head.carried) t3.1 in
    record {
      width = (grind (arith, nat_tests, t1.0), grind (arith, nat_tests, t2.0));
      start = same_number _ _ t3.0;
      predict = same_number _ _ t4.0;
      next = same_number _ _ t4.1;
    }

abbrev mutual
  admits : Names → Bool → Scope → Statement → Bool
  admits names in_main scope (Let slot value) = sees names scope value && declares names scope slot
  admits names in_main scope (Assign slot value) = has scope.visible slot && (not (has scope.fixed slot) && sees names scope value)
  admits names in_main scope (Store array index value) = nat_lt array names.arrays && (sees names scope index && sees names scope value)
  admits names in_main scope (Fill array low high value) =
      nat_lt array names.arrays && (sees names scope low && (sees names scope high && sees names scope value))
  admits names in_main scope (Emit value) = in_main && sees names scope value
  admits names in_main scope (Fail number) = nat_lt number (2 ^ 8)
  admits names in_main scope (If test a b) =
      sees_condition names scope test && (admits_block names in_main scope a && admits_block names in_main (behind (declared_in a) scope) b)
  admits names in_main scope (For slot low high body) =
      sees names scope low && (sees names scope high && (declares names scope slot && admits_block names in_main (in_turn (behind 1 (showing_fixed slot scope))) body))
  admits names in_main scope (Fold head body) =
      sees_arguments names scope head.start
      && (sees names scope head.low
      && (sees names scope head.high
      && (declares_each names scope head.carried
      && (declares names (showing_each head.carried scope) head.block
      && (sees_guesses names (in_predictor scope head.block) head.predict
      && (admits_block names in_main (in_body scope head.carried head.block) body
      && (sees_arguments names (scope_at_end (in_body scope head.carried head.block) body) head.next
      && has_one_width head)))))))
  admits names in_main scope _ = false

  pub admits_block : Names → Bool → Scope → Block → Bool
  admits_block names in_main scope end = true
  admits_block names in_main scope (on_line line first rest) =
      admits names in_main scope first && admits_block names in_main (scope_after scope first) rest

mutual
  statement-sound : (names : Names) (in_main : Bool) (scope : Scope) (s : Statement) → admits names in_main scope s ≡ true → Fit (numbers_in_statement s) → IsLawfulStatement names in_main scope s
  statement-sound names in_main scope (Let slot value) t h =
      let parts = both (sees names scope value) (declares names scope slot) t in
      (sees-sound names scope value parts.0 h, declares-sound names scope slot parts.1)
  statement-sound names in_main scope (Assign slot value) t h =
      let parts = both (has scope.visible slot) (not (has scope.fixed slot) && sees names scope value) t in
      let more = both (not (has scope.fixed slot)) (sees names scope value) parts.1 in
      (has-contains scope.visible slot parts.0, (λ c. not-so (has scope.fixed slot) more.0 (contains-has scope.fixed slot c)), sees-sound names scope value more.1 h)
  statement-sound names in_main scope (Store array index value) t h =
      let parts = both (nat_lt array names.arrays) (sees names scope index && sees names scope value) t in
      let more = both (sees names scope index) (sees names scope value) parts.1 in
      let numbers = in_parts (numbers_in index) (numbers_in value) h in
      (ltb-true array names.arrays parts.0, sees-sound names scope index more.0 numbers.0, sees-sound names scope value more.1 numbers.1)
  statement-sound names in_main scope (Fill array low high value) t h =
      let parts = both (nat_lt array names.arrays) (sees names scope low && (sees names scope high && sees names scope value)) t in
      let ends = both (sees names scope low) (sees names scope high && sees names scope value) parts.1 in
      let rest = both (sees names scope high) (sees names scope value) ends.1 in
      let first = in_parts (numbers_in low) (numbers_in high ++ numbers_in value) h in
      let later = in_parts (numbers_in high) (numbers_in value) first.1 in
      (ltb-true array names.arrays parts.0, sees-sound names scope low ends.0 first.0, sees-sound names scope high rest.0 later.0, sees-sound names scope value rest.1 later.1)
  statement-sound names in_main scope (Emit value) t h =
      let parts = both in_main (sees names scope value) t in
      (parts.0, sees-sound names scope value parts.1 h)
  statement-sound names in_main scope (Fail number) t h = ltb-true number (2 ^ 8) t
  statement-sound names in_main scope (If test a b) t h =
      let parts = both (sees_condition names scope test) (admits_block names in_main scope a && admits_block names in_main (behind (declared_in a) scope) b) t in
      let branches = both (admits_block names in_main scope a) (admits_block names in_main (behind (declared_in a) scope) b) parts.1 in
      let first = in_parts (numbers_in_condition test) (numbers_in_block a ++ numbers_in_block b) h in
      let later = in_parts (numbers_in_block a) (numbers_in_block b) first.1 in
      (condition-sound names scope test parts.0 first.0, block-sound names in_main scope a branches.0 later.0, block-sound names in_main (behind (declared_in a) scope) b branches.1 later.1)
  statement-sound names in_main scope (For slot low high body) t h =
      let inner = in_turn (behind 1 (showing_fixed slot scope)) in
      let parts = both (sees names scope low) (sees names scope high && (declares names scope slot && admits_block names in_main inner body)) t in
      let ends = both (sees names scope high) (declares names scope slot && admits_block names in_main inner body) parts.1 in
      let rest = both (declares names scope slot) (admits_block names in_main inner body) ends.1 in
      let first = in_parts (numbers_in low) (numbers_in high ++ numbers_in_block body) h in
      let later = in_parts (numbers_in high) (numbers_in_block body) first.1 in
      (sees-sound names scope low parts.0 first.0, sees-sound names scope high ends.0 later.0, declares-sound names scope slot rest.0, block-sound names in_main inner body rest.1 later.1)
  statement-sound names in_main scope (Fold head body) t h =
      let inner = in_body scope head.carried head.block in
      let t1 = both (sees_arguments names scope head.start) _ t in
      let t2 = both (sees names scope head.low) _ t1.1 in
      let t3 = both (sees names scope head.high) _ t2.1 in
      let t4 = both (declares_each names scope head.carried) _ t3.1 in
      let t5 = both (declares names (showing_each head.carried scope) head.block) _ t4.1 in
      let t6 = both (sees_guesses names (in_predictor scope head.block) head.predict) _ t5.1 in
      let t7 = both (admits_block names in_main inner body) _ t6.1 in
      let t8 = both (sees_arguments names (scope_at_end inner body) head.next) (has_one_width head) t7.1 in
      let h1 = in_parts (numbers_in_arguments head.start) _ h in
      let h2 = in_parts (numbers_in head.low) _ h1.1 in
      let h3 = in_parts (numbers_in head.high) _ h2.1 in
      let h4 = in_parts (numbers_in_guesses head.predict) _ h3.1 in
      let h5 = in_parts (numbers_in_block body) (numbers_in_arguments head.next) h4.1 in (
        arguments-sound names scope head.start t1.0 h1.0,
        sees-sound names scope head.low t2.0 h2.0,
        sees-sound names scope head.high t3.0 h3.0,
        declares_each-sound names scope head.carried t4.0,
        declares-sound names (showing_each head.carried scope) head.block t5.0,
        guesses-sound names (in_predictor scope head.block) head.predict t6.0 h4.0,
        block-sound names in_main inner body t7.0 h5.0,
        arguments-sound names (scope_at_end inner body) head.next t8.0 h5.1,
        width-sound head t8.1,
      )
  statement-sound names in_main scope (While test most body) t h = absurd (omega (arith, h.0))
  statement-sound names in_main scope Break t h = absurd (omega (arith, h.0))
  statement-sound names in_main scope (Do f given) t h = absurd (omega (arith, h.0))
  statement-sound names in_main scope (Pair head producer consumer) t h = absurd (omega (arith, h.0))

  pub block-sound : (names : Names) (in_main : Bool) (scope : Scope) (b : Block) → admits_block names in_main scope b ≡ true → Fit (numbers_in_block b) → IsLawfulBlock names in_main scope b
  block-sound names in_main scope end t h = tt
  block-sound names in_main scope (on_line line first rest) t h =
      let parts = both (admits names in_main scope first) (admits_block names in_main (scope_after scope first) rest) t in
      let numbers = in_parts (numbers_in_statement first) (numbers_in_block rest) h in
      (statement-sound names in_main scope first parts.0 numbers.0, block-sound names in_main (scope_after scope first) rest parts.1 numbers.1)
