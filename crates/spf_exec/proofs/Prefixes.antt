-- The statements before the first construct among them.
use Rattle.std.proofs.Common.{◌≡◌, ℕ, zero, suc, ◌+◌, ◌-◌, ◌<◌, true, false, List, [], ◌∷◌, length, get_or, take, drop, refl, sym, ap, ◌∙◌, arith, length-drop, take_all, replicate}
use Rattle.std.specs.Prelude.{MatchOption, Option, None, Some, slice_set, ℤ}
use Rattle.spf_ast.specs.declared.syntax.Stmt.{Stmt}
use Rattle.spf_ast.specs.Syntax.{Statement, end, on_line, Let, Assign, Store, Fill, Emit, Fail, If, For, While, Do, Fold, Pair, Break, Program}
use Rattle.spf_ast.specs.View.{statement, block}
use Rattle.spf_ast.specs.Program.{environment_of}
use Rattle.spf_ast.specs.Construct.{Construct, construct_of, constructs_in, is_construct}
use Rattle.spf_ast.specs.Pieces.{before_construct, from_construct, rest_from, statement_count, construct_first}
use Rattle.spf_ast.specs.declared.construct.TopConstruct as code_top
use Rattle.spf_ast.specs.ConstructView.{construct as seen_construct}
use Rattle.std.proofs.lemmas.List.{length-set}
use Rattle.spf_ast.specs.Carried.{Carried, with_carried}
use Rattle.spf_ast.specs.Meaning.{main_means}
use Rattle.spf_exec.specs.declared.pieces.Pause.{Pause}
use Rattle.spf_exec.specs.declared.pieces.Pause.TheVariants as pause
use Rattle.spf_exec.specs.Pieces.{RunState, RunsTo, Advanced, ahead}
use Rattle.spf_exec.proofs.Constructs.{constructs_from}

-- none of these first statements is a construct
abbrev pub IsPlainPrefix : List Stmt → ℕ → Type 0
IsPlainPrefix xs zero = Unit {0}
IsPlainPrefix [] (suc n) = ⊥
IsPlainPrefix (x ∷ xs) (suc n) = (is_construct (statement x.kind) ≡ false) × IsPlainPrefix xs n

-- one more
pub prefix_grows : (xs : List Stmt) (n : ℕ) (x : Stmt) → n < length xs → x ≡ get_or xs n x → is_construct (statement x.kind) ≡ false → IsPlainPrefix xs n → IsPlainPrefix xs (suc n)
prefix_grows [] n x h e f p = let no : ⊥ = omega arith in absurd no
prefix_grows (y ∷ ys) zero x h e f p = (ap (λ (z : Stmt). is_construct (statement z.kind)) (sym e) ∙ f, tt)
prefix_grows (y ∷ ys) (suc n) x h e f p = (p.0, prefix_grows ys n x (omega arith) e f p.1)

-- whether a statement is a construct
pub none_is : (line : ℕ) (s : Statement) → construct_of line s ≡ None → is_construct s ≡ false
none_is line (Let slot value) e = refl
none_is line (Assign slot value) e = refl
none_is line (Store array index value) e = refl
none_is line (Fill array low high value) e = refl
none_is line (Emit value) e = refl
none_is line (Fail number) e = refl
none_is line (If test a b) e = refl
none_is line (For slot low high body) e = refl
none_is line (While test most body) e = refl
none_is line (Do f given) e = refl
none_is line Break e = refl
none_is line (Fold head body) e = cc
none_is line (Pair head producer consumer) e = cc

pub some_is : (line : ℕ) (s : Statement) (k : Construct) → construct_of line s ≡ Some k → is_construct s ≡ true
some_is line (Let slot value) k e = cc
some_is line (Assign slot value) k e = cc
some_is line (Store array index value) k e = cc
some_is line (Fill array low high value) k e = cc
some_is line (Emit value) k e = cc
some_is line (Fail number) k e = cc
some_is line (If test a b) k e = cc
some_is line (For slot low high body) k e = cc
some_is line (While test most body) k e = cc
some_is line (Do f given) k e = cc
some_is line Break k e = cc
some_is line (Fold head body) k e = refl
some_is line (Pair head producer consumer) k e = refl

-- what the prefix and the rest are, at a construct and at the end
pub record IsSplit (xs : List Stmt) (n : ℕ) : Type 0 where
  pub before : block (take n xs) ≡ before_construct (block xs)
  pub rest : block (drop n xs) ≡ from_construct (block xs)

pub split_at : (xs : List Stmt) (n : ℕ) (x : Stmt) → n < length xs → x ≡ get_or xs n x → is_construct (statement x.kind) ≡ true → IsPlainPrefix xs n → IsSplit xs n
split_at [] n x h e f p = let no : ⊥ = omega arith in absurd no
split_at (y ∷ ys) zero x h e f p =
    let g : is_construct (statement y.kind) ≡ true = ap (λ (z : Stmt). is_construct (statement z.kind)) (sym e) ∙ f in
    record { before = rw g refl; rest = rw g refl }
split_at (y ∷ ys) (suc n) x h e f p =
    let r = split_at ys n x (omega arith) e f p.1 in
    record { before = rw p.0 (ap (on_line y.line (statement y.kind)) r.before); rest = rw p.0 r.rest }

pub split_end : (xs : List Stmt) → IsPlainPrefix xs (length xs) → IsSplit xs (length xs)
split_end [] p = record { before = refl; rest = refl }
split_end (y ∷ ys) p =
    let r = split_end ys p.1 in
    record { before = rw p.0 (ap (on_line y.line (statement y.kind)) r.before); rest = rw p.0 r.rest }

-- after a prefix of all statements there is none
pub end_of : (xs : List Stmt) → IsPlainPrefix xs (length xs) → from_construct (block xs) ≡ end
end_of [] p = refl
end_of (y ∷ ys) p = rw p.0 (end_of ys p.1)

-- and after one that ends at a construct this stands next
pub construct_at : (xs : List Stmt) (n : ℕ) (x : Stmt) (k : Construct) → n < length xs → x ≡ get_or xs n x → construct_of x.line (statement x.kind) ≡ Some k → IsPlainPrefix xs n → construct_first (from_construct (block xs)) ≡ Some k
construct_at [] n x k h e f p = let no : ⊥ = omega arith in absurd no
construct_at (y ∷ ys) zero x k h e f p =
    let g : construct_of y.line (statement y.kind) ≡ Some k = ap (λ (z : Stmt). construct_of z.line (statement z.kind)) (sym e) ∙ f in
    rw (some_is y.line (statement y.kind) k g) g
construct_at (y ∷ ys) (suc n) x k h e f p = rw p.0 (construct_at ys n x k (omega arith) e f p.1)

-- what is seen of the statements from an index on
pub rest_is : (xs : List Stmt) (n : ℕ) → block (drop n xs) ≡ rest_from n (block xs)
rest_is xs zero = refl
rest_is [] (suc n) = refl
rest_is (x ∷ xs) (suc n) = rest_is xs n

pub count_is : (xs : List Stmt) → statement_count (block xs) ≡ length xs
count_is [] = refl
count_is (x ∷ xs) = ap suc (count_is xs)

-- a run that went on is where its pause says
pub advanced_ok : (p : Program) (input : List ℕ) (before after : RunState) (number : ℕ) (o : Option code_top.TopConstruct) (at_ : Pause)
    → RunsTo p (main_means (environment_of p input) (before_construct (ahead p before))) before after tt
    → ahead p after ≡ from_construct (ahead p before)
    → number + length (constructs_in (ahead p before)) ≡ length (constructs_in p.main)
    → MatchOption o (from_construct (ahead p before) ≡ end) (λ c. construct_first (from_construct (ahead p before)) ≡ Some (seen_construct c))
    → MatchOption o (at_ ≡ pause.Finished) (λ c. at_ ≡ pause.AtConstruct number c)
    → Advanced p input before after at_
advanced_ok p input before after number None at_ went at count next e = rw e (record { went = went; at = at; none = at ∙ next })
advanced_ok p input before after number (Some c) at_ went at count next e =
    rw e (record {
      went = went;
      at = at;
      construct = ap construct_first at ∙ next;
      number = ap (λ b. number + length (constructs_in b)) at ∙ ap (λ l. number + length l) (constructs_from (ahead p before)) ∙ count;
    })

-- the part of a list from an index on
pub part_from : {A : Type 0} (xs : List A) (n : ℕ) → take (length xs - n) (drop n xs) ≡ drop n xs
part_from xs n = take_all (length xs - n) (drop n xs) (rw (length-drop n xs) (omega arith))

-- dropping twice
drop_sum : (n m : ℕ) (xs : List Stmt) → drop m (drop n xs) ≡ drop (n + m) xs
drop_sum zero m xs = let e : m ≡ 0 + m = omega arith in ap (λ k. drop k xs) e
drop_sum (suc n) zero [] = let e : suc n + 0 ≡ suc n = omega arith in rw e refl
drop_sum (suc n) (suc m) [] = let e : suc n + suc m ≡ suc (n + suc m) = omega arith in rw e refl
drop_sum (suc n) m (x ∷ xs) = let e : suc (n + m) ≡ suc n + m = omega arith in drop_sum n m xs ∙ ap (λ k. drop k (x ∷ xs)) e

-- where a prefix ends
pub prefix_is : (xs ys : List Stmt) (n count : ℕ) → ys ≡ drop n xs → block (take count ys) ≡ before_construct (block ys) → block (take (n + count - n) (drop n xs)) ≡ before_construct (rest_from n (block xs))
prefix_is xs ys n count e f =
    let m : n + count - n ≡ count = omega arith in
    ap (λ k. block (take k (drop n xs))) m ∙ ap (λ l. block (take count l)) (sym e) ∙ f ∙ ap (λ l. before_construct (block l)) e ∙ ap before_construct (rest_is xs n)

pub back_is : (xs ys : List Stmt) (n count : ℕ) → ys ≡ drop n xs → block (drop count ys) ≡ from_construct (block ys) → rest_from (n + count) (block xs) ≡ from_construct (rest_from n (block xs))
back_is xs ys n count e f =
    sym (rest_is xs (n + count)) ∙ ap block (sym (drop_sum n count xs)) ∙ ap (λ l. block (drop count l)) (sym e) ∙ f ∙ ap (λ l. from_construct (block l)) e ∙ ap from_construct (rest_is xs n)

-- the first of zeros
pub take_zeros : (m n : ℕ) (z : ℤ) → take m (replicate (m + n) z) ≡ replicate m z
take_zeros zero n z = refl
take_zeros (suc m) n z = let e : suc m + n ≡ suc (m + n) = omega arith in rw e (ap (λ l. z ∷ l) (take_zeros m n z))

-- the first slots, with one slot set
pub take_set : (m : ℕ) (xs : List ℤ) (slot : ℕ) (v : ℤ) → take m (slice_set xs slot v) ≡ slice_set (take m xs) slot v
take_set zero xs slot v = refl
take_set (suc m) [] slot v = refl
take_set (suc m) (x ∷ xs) zero v = refl
take_set (suc m) (x ∷ xs) (suc slot) v = ap (λ l. x ∷ l) (take_set m xs slot v)

pub take_carried : (m : ℕ) (slots : List ℕ) (row : Carried) (xs : List ℤ) → take m (with_carried slots row xs) ≡ with_carried slots row (take m xs)
take_carried m [] row xs = refl
take_carried m (slot ∷ slots) row xs = take_carried m slots (drop 1 row) _ ∙ ap (with_carried slots (drop 1 row)) (take_set m xs slot _)

pub carried_length : (slots : List ℕ) (row : Carried) (xs : List ℤ) → length (with_carried slots row xs) ≡ length xs
carried_length [] row xs = refl
carried_length (slot ∷ slots) row xs = carried_length slots (drop 1 row) _ ∙ length-set xs slot _

pub same_length : (slots : List ℕ) (row : Carried) (xs ys : List ℤ) → ys ≡ with_carried slots row xs → length ys ≡ length xs
same_length slots row xs ys e = ap length e ∙ carried_length slots row xs
