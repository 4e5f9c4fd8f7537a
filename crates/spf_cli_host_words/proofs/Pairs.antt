-- Pairs of words, read one after another.
use Rattle.std.proofs.Common.{◌≡◌, inl, inr, ℕ, zero, suc, ◌+◌, ◌*◌, ◌≤◌, List, [], ◌∷◌, ◌++◌, length, drop, map, codes, ℤ, pos, refl, sym, ap, subst, ◌∙◌, arith, length-append}
use Rattle.std.specs.Prelude.{neg_ℤ}
use Rattle.std.specs.Str.Parse.{IsNumeral, digits_value}
use Rattle.spf_cli_host_words.specs.HostWords.{Kind, Fixed, Last, Most, Table, Vote, IsNumber, Names, AskFor, EndPairs, IsBroken, SayOnly, SayNothing, NextPair}

-- ---- one more pair

-- after pairs comes one more
pub ask-more : (words : List (List ℕ)) (kinds : List Kind) (left : List (List ℕ)) (kind : Kind) (next : NextPair left kind) → AskFor words kinds left → AskFor words (kinds ++ kind ∷ []) next.others
ask-more words [] left kind next asked = (next.text, next.others, asked ∙ next.words_are, next.names, refl)
ask-more words (k ∷ ks) left kind next (text, others, is, names, asked) = (text, others, is, names, ask-more others ks left kind next asked)

-- ---- what pairs say is one thing

-- a minus is no digit
no_digit : (digits : List ℕ) → IsNumeral 10 (codes "-" ++ digits) → ⊥
no_digit digits numeral = let first = numeral.1.0 in omega (arith, first)

-- a text is one number
number-one : (text : List ℕ) (n m : ℤ) → IsNumber text n → IsNumber text m → n ≡ m
number-one text n m (inl a) (inl b) = a.1 ∙ sym b.1
number-one text n m (inl a) (inr (digits, is, numeral, value)) = absurd (no_digit digits (subst (λ t. IsNumeral 10 t) is a.0))
number-one text n m (inr (digits, is, numeral, value)) (inl b) = absurd (no_digit digits (subst (λ t. IsNumeral 10 t) is b.0))
number-one text n m (inr (digits, is, numeral, value)) (inr (others, same, also, worth)) =
    let alike : digits ≡ others = cc in
    value ∙ ap (λ ds. neg_ℤ (pos (digits_value 10 ds))) alike ∙ sym worth

-- texts that begin with different bytes differ
apart : (x y : ℕ) (s t : List ℕ) → x ∷ s ≡ y ∷ t → (x ≡ y → ⊥) → ⊥
apart x y s t same differ = differ (cc)

-- a text names one kind
names-one : (text : List ℕ) (one other : Kind) → Names text one → Names text other → one ≡ other
names-one text (Fixed n) (Fixed m) (number, is, a, fits) (others, same, b, also) =
    let alike : number ≡ others = cc in
    ap Fixed (number-one others n m (subst (λ t. IsNumber t n) alike a) b)
names-one text (Fixed n) Last (number, is, a, fits) b = absurd (apart 102 108 _ _ (sym is ∙ b) (omega arith))
names-one text (Fixed n) Most (number, is, a, fits) b = absurd (apart 102 109 _ _ (sym is ∙ b) (omega arith))
names-one text (Fixed n) Table (number, is, a, fits) b = absurd (apart 102 116 _ _ (sym is ∙ b) (omega arith))
names-one text (Fixed n) Vote (number, is, a, fits) b = absurd (apart 102 118 _ _ (sym is ∙ b) (omega arith))
names-one text Last (Fixed m) a (number, is, b, fits) = absurd (apart 108 102 _ _ (sym a ∙ is) (omega arith))
names-one text Last Last a b = refl
names-one text Last Most a b = absurd (apart 108 109 _ _ (sym a ∙ b) (omega arith))
names-one text Last Table a b = absurd (apart 108 116 _ _ (sym a ∙ b) (omega arith))
names-one text Last Vote a b = absurd (apart 108 118 _ _ (sym a ∙ b) (omega arith))
names-one text Most (Fixed m) a (number, is, b, fits) = absurd (apart 109 102 _ _ (sym a ∙ is) (omega arith))
names-one text Most Last a b = absurd (apart 109 108 _ _ (sym a ∙ b) (omega arith))
names-one text Most Most a b = refl
names-one text Most Table a b = absurd (apart 109 116 _ _ (sym a ∙ b) (omega arith))
names-one text Most Vote a b = absurd (apart 109 118 _ _ (sym a ∙ b) (omega arith))
names-one text Table (Fixed m) a (number, is, b, fits) = absurd (apart 116 102 _ _ (sym a ∙ is) (omega arith))
names-one text Table Last a b = absurd (apart 116 108 _ _ (sym a ∙ b) (omega arith))
names-one text Table Most a b = absurd (apart 116 109 _ _ (sym a ∙ b) (omega arith))
names-one text Table Table a b = refl
names-one text Table Vote a b = absurd (apart 116 118 _ _ (sym a ∙ b) (omega arith))
names-one text Vote (Fixed m) a (number, is, b, fits) = absurd (apart 118 102 _ _ (sym a ∙ is) (omega arith))
names-one text Vote Last a b = absurd (apart 118 108 _ _ (sym a ∙ b) (omega arith))
names-one text Vote Most a b = absurd (apart 118 109 _ _ (sym a ∙ b) (omega arith))
names-one text Vote Table a b = absurd (apart 118 116 _ _ (sym a ∙ b) (omega arith))
names-one text Vote Vote a b = refl

-- words that begin with a pair don't end the pairs
goes_on : (words : List (List ℕ)) (text : List ℕ) (others : List (List ℕ)) → words ≡ codes "--host" ∷ text ∷ others → EndPairs words → ⊥
goes_on words text others is ends = (subst EndPairs is ends) refl

-- pairs ask for one list of kinds, and leave the same words
asked-one : (words : List (List ℕ)) (kinds : List Kind) (left : List (List ℕ)) (others : List Kind) (rest : List (List ℕ))
    → AskFor words kinds left → EndPairs left → AskFor words others rest → EndPairs rest → others ≡ kinds
asked-one words [] left [] rest a ends b end = refl
asked-one words [] left (k ∷ ks) rest a ends (text, more, is, names, b) end = absurd (goes_on words text more is (subst EndPairs (sym a) ends))
asked-one words (k ∷ ks) left [] rest (text, more, is, names, a) ends b end = absurd (goes_on words text more is (subst EndPairs (sym b) end))
asked-one words (k ∷ ks) left (l ∷ ls) rest (text, more, is, names, a) ends (text', more', is', names', b) end =
    let same_text : text' ≡ text = cc in
    let same_more : more' ≡ more = cc in
    let one : l ≡ k = names-one text l k (subst (λ t. Names t l) same_text names') names in
    let all : ls ≡ ks = asked-one more ks left ls rest a ends (subst (λ ws. AskFor ws ls rest) same_more b) end in
    λ i. one i ∷ all i

-- where a pair is broken, nothing is said
broken-ends : (words : List (List ℕ)) → IsBroken words → EndPairs words → ⊥
broken-ends [] broken ends = broken
broken-ends (word ∷ []) broken ends = ends broken
broken-ends (word ∷ text ∷ others) broken ends = ends broken.0

broken-names : (words : List (List ℕ)) (text : List ℕ) (others : List (List ℕ)) (kind : Kind) → IsBroken words → words ≡ codes "--host" ∷ text ∷ others → Names text kind → ⊥
broken-names words text others kind broken is names = (subst IsBroken is broken).1 kind names

broken-asks : (words : List (List ℕ)) (kinds : List Kind) (left : List (List ℕ)) (others : List Kind) (rest : List (List ℕ))
    → AskFor words kinds left → IsBroken left → AskFor words others rest → EndPairs rest → ⊥
broken-asks words [] left [] rest a broken b end = broken-ends words (subst IsBroken (sym a) broken) (subst EndPairs (sym b) end)
broken-asks words [] left (k ∷ ks) rest a broken (text, more, is, names, b) end = broken-names words text more k (subst IsBroken (sym a) broken) is names
broken-asks words (k ∷ ks) left [] rest (text, more, is, names, a) broken b end = goes_on words text more is (subst EndPairs (sym b) end)
broken-asks words (k ∷ ks) left (l ∷ ls) rest (text, more, is, names, a) broken (text', more', is', names', b) end =
    let same_more : more' ≡ more = cc in
    broken-asks more ks left ls rest a broken (subst (λ ws. AskFor ws ls rest) same_more b) end

-- ---- whole answers

-- pairs that were read, and words that begin otherwise after them
pub says-only : (words : List (List ℕ)) (kinds : List Kind) (rest : ℕ) → AskFor words kinds (drop rest words) → rest ≡ 2 * length kinds → EndPairs (drop rest words)
    → SayOnly words (record { kinds = kinds; rest = rest })
says-only words kinds rest asked count ends = record {
  says = record { pairs = asked; count = count; ends = ends };
  only = λ other say.
      let same : other.kinds ≡ kinds = asked-one words kinds (drop rest words) other.kinds (drop other.rest words) asked ends say.pairs say.ends in
      let far : other.rest ≡ rest = say.count ∙ ap (λ ks. 2 * length ks) same ∙ sym count in
      λ i. record { kinds = same i; rest = far i };
}

-- pairs that were read, and a broken one after them
pub says-nothing : (words : List (List ℕ)) (kinds : List Kind) (left : List (List ℕ)) → AskFor words kinds left → IsBroken left → SayNothing words
says-nothing words kinds left asked broken = record {
  broken = record { kinds = kinds; left = left; pairs = asked; broken = broken };
  nothing = λ other say. broken-asks words kinds left other.kinds (drop other.rest words) asked broken say.pairs say.ends;
}

-- ---- the words of a pair

-- where a pair stands at an index, the words after it are those two further on
pub two-more : {A B : Type 0} (f : A → B) (words : List A) (rest : ℕ) (x y : B) (others : List B) → map f (drop rest words) ≡ x ∷ y ∷ others
    → (rest + 2 ≤ length words) × (others ≡ map f (drop (rest + 2) words))
two-more f [] zero x y others e = absurd (cc)
two-more f (a ∷ []) zero x y others e = absurd (cc)
two-more f (a ∷ b ∷ ws) zero x y others e = (omega arith, cc)
two-more f [] (suc n) x y others e = absurd (cc)
two-more f (a ∷ ws) (suc n) x y others e =
    let more = two-more f ws n x y others e in
    let within = more.0 in
    let far : suc n + 2 ≡ suc (n + 2) = omega arith in
    (omega (arith, within), more.1 ∙ ap (λ k. map f (drop k (a ∷ ws))) (sym far))

-- a list without a length is empty
pub none-left : {A : Type 0} (xs : List A) → length xs ≡ 0 → xs ≡ []
none-left [] e = refl
none-left (x ∷ xs) e = absurd (omega (arith, e))

-- one more kind takes two more words
pub one-longer : {A : Type 0} (xs more : List A) (x : A) (rest : ℕ) → more ≡ xs ++ x ∷ [] → rest ≡ 2 * length xs → rest + 2 ≡ 2 * length more
one-longer xs more x rest is count =
    let longer : length more ≡ length xs + 1 = ap length is ∙ length-append xs (x ∷ []) in
    omega (arith, longer, count)
