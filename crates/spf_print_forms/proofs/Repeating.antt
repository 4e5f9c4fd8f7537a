-- A loop that adds one text for each element: what was added, with what is left to add.
use Rattle.std.proofs.Common.{◌≡◌, ◌++◌, ◌∷◌, [], ◌+◌, ◌<◌, ◌≤◌, ℕ, List, length, drop, get_or, sym, ap, ◌∙◌, append_assoc, append-nil, add-one, drop-cons}
use Rattle.std.proofs.lemmas.List.{drop_all}

-- one more element
pub one_more : {A : Type 0} (all : List A → List ℕ) (one : A → List ℕ) → ((x : A) (xs : List A) → all (x ∷ xs) ≡ one x ++ all xs) → (before after whole : List ℕ) (xs : List A) (i : ℕ) (x : A) → x ≡ get_or xs i x → i < length xs → after ≡ before ++ one x → before ++ all (drop i xs) ≡ whole → after ++ all (drop (i + 1) xs) ≡ whole
one_more all one cons before after whole xs i x item below added left =
    let cut : drop i xs ≡ get_or xs i x ∷ drop (i + 1) xs = rw add-one (drop-cons xs i x below) in
    rw added (append_assoc before (one x) (all (drop (i + 1) xs)) ∙ ap (λ t. before ++ t) (sym (ap all cut ∙ ap (λ y. all (y ∷ drop (i + 1) xs)) (sym item) ∙ cons x (drop (i + 1) xs))) ∙ left)

-- no element left
pub none_left : {A : Type 0} (all : List A → List ℕ) → all [] ≡ [] → (now whole : List ℕ) (xs : List A) (i : ℕ) → length xs ≤ i → now ++ all (drop i xs) ≡ whole → now ≡ whole
none_left all nothing now whole xs i over left = sym (append-nil now) ∙ ap (λ t. now ++ t) (sym (ap all (drop_all i xs over) ∙ nothing)) ∙ left
