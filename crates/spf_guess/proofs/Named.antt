-- Hosts that constructs name.
use Rattle.std.proofs.Common.{◌≡◌, Bool, true, false, ℕ, zero, suc, ◌+◌, ◌<◌, List, [], ◌∷◌, ◌++◌, length, drop, slice_index_or, Option, Some, None, refl, ap, sym, ◌∙◌, arith}
use Rattle.std.proofs.lemmas.List.{drop_more}
use Rattle.std.specs.Prelude.{nat_le}
use Rattle.std.specs.Option.{option_to_list}
use Rattle.spf_ast.specs.declared.syntax.Stmt.{Stmt}
use Rattle.spf_ast.specs.View.{statement, block}
use Rattle.spf_ast.specs.Syntax.{Predictor, Host}
use Rattle.spf_ast.specs.Syntax.{Statement, Let, Assign, Store, Fill, Emit, Fail, If, For, While, Do, Fold, Pair, Break, Block, on_line}
use Rattle.spf_ast.specs.Construct.{Construct, construct_of, constructs_in, predictors_of}
use Rattle.spf_guess.specs.Missing.{host_named_by, hosts_among, hosts_named, missing_among, missing_host, AreAllHandedIn, AreHandedIn}

apart : {A : Type 0} (x : A) → Some x ≡ None → ⊥
apart x same = let never : ◌≡◌ {A = ℕ} 0 1 = cc in omega (arith, never)

-- ---- the first one that is missing

-- one that is missing comes before all later ones
pub first_here : (count host : ℕ) (hosts : List ℕ) → nat_le count host ≡ true → missing_among count (host ∷ hosts) ≡ Some host
first_here count host hosts missing = rw missing refl

-- after one that isn't missing comes a later one
pub first_later : (count host : ℕ) (hosts : List ℕ) → nat_le count host ≡ false → missing_among count (host ∷ hosts) ≡ missing_among count hosts
first_later count host hosts there = rw there refl

-- one that is missing in a list is missing in a longer one
pub missing_before : (count host : ℕ) (first others : List ℕ) → missing_among count first ≡ Some host → missing_among count (first ++ others) ≡ Some host
missing_before count host [] others is = absurd (apart host (sym is))
missing_before count host (x ∷ xs) others is = go (nat_le count x) refl (missing_before count host xs others)
  where
    go : (b : Bool) → nat_le count x ≡ b → (missing_among count xs ≡ Some host → missing_among count (xs ++ others) ≡ Some host)
        → missing_among count (x ∷ xs ++ others) ≡ Some host
    go true d later = first_here count x (xs ++ others) d ∙ sym (first_here count x xs d) ∙ is
    go false d later = first_later count x (xs ++ others) d ∙ later (sym (first_later count x xs d) ∙ is)

-- where none is missing in a list, the first one comes after it
pub missing_after : (count : ℕ) (first others : List ℕ) → missing_among count first ≡ None → missing_among count (first ++ others) ≡ missing_among count others
missing_after count [] others none = refl
missing_after count (x ∷ xs) others none = go (nat_le count x) refl (missing_after count xs others)
  where
    go : (b : Bool) → nat_le count x ≡ b → (missing_among count xs ≡ None → missing_among count (xs ++ others) ≡ missing_among count others)
        → missing_among count (x ∷ xs ++ others) ≡ missing_among count others
    go true d later = absurd (apart x (sym (first_here count x xs d) ∙ none))
    go false d later = first_later count x (xs ++ others) d ∙ later (sym (first_later count x xs d) ∙ none)

-- ---- none is missing

none_in_first : (count : ℕ) (first others : List ℕ) → missing_among count (first ++ others) ≡ None → missing_among count first ≡ None
none_in_first count first others none = go (missing_among count first) refl
  where
    go : (found : Option ℕ) → missing_among count first ≡ found → missing_among count first ≡ None
    go None is = is
    go (Some host) is = absurd (apart host (sym (missing_before count host first others is) ∙ none))

none_later : (count : ℕ) (first others : List ℕ) → missing_among count (first ++ others) ≡ None → missing_among count others ≡ None
none_later count first others none = sym (missing_after count first others (none_in_first count first others none)) ∙ none

one_handed_in : (count host : ℕ) → missing_among count (host ∷ []) ≡ None → host < count
one_handed_in count host none = go (nat_le count host) refl
  where
    go : (b : Bool) → nat_le count host ≡ b → host < count
    go true d = absurd (apart host (sym (first_here count host [] d) ∙ none))
    go false d = grind (arith, d)

-- where no host is missing, each that a predictor names is supplied
handed_in_all : (count : ℕ) (predictors : List Predictor) → missing_among count (hosts_among predictors) ≡ None → AreAllHandedIn count predictors
handed_in_all count [] none index host at = absurd (apart (Host host) (sym at))
handed_in_all count (x ∷ xs) none zero host at =
    let same : x ≡ Host host = cc in
    one_handed_in count host (ap (λ predictor. missing_among count (host_named_by predictor)) (sym same) ∙ none_in_first count (host_named_by x) (hosts_among xs) none)
handed_in_all count (x ∷ xs) none (suc index) host at = handed_in_all count xs (none_later count (host_named_by x) (hosts_among xs) none) index host at

-- where no host is missing, each that a construct names is supplied
pub all_handed_in : (count : ℕ) (constructs : List Construct) → missing_host count constructs ≡ None → AreHandedIn count constructs
all_handed_in count [] none number construct at = absurd (apart construct (sym at))
all_handed_in count (c ∷ cs) none zero construct at =
    let same : c ≡ construct = cc in
    handed_in_all count (predictors_of construct)
    (ap (λ k. missing_among count (hosts_among (predictors_of k))) (sym same) ∙ none_in_first count (hosts_among (predictors_of c)) (hosts_named cs) none)
all_handed_in count (c ∷ cs) none (suc number) construct at = all_handed_in count cs (none_later count (hosts_among (predictors_of c)) (hosts_named cs) none) number construct at

-- ---- statements one after another

-- a statement that is a construct names its hosts before the later ones, and any other statement names none
statement_first : (line : ℕ) (first : Statement) (rest : Block) → constructs_in (on_line line first rest) ≡ option_to_list (construct_of line first) ++ constructs_in rest
statement_first line (Fold head body) rest = refl
statement_first line (Pair head producer consumer) rest = refl
statement_first line (Let slot value) rest = refl
statement_first line (Assign slot value) rest = refl
statement_first line (Store array index value) rest = refl
statement_first line (Fill array low high value) rest = refl
statement_first line (Emit value) rest = refl
statement_first line (Fail number) rest = refl
statement_first line (If test first second) rest = refl
statement_first line (For slot low high body) rest = refl
statement_first line (While test most body) rest = refl
statement_first line (Do f given) rest = refl
statement_first line Break rest = refl

-- the constructs among statements from one on
statement_at : (main : List Stmt) (i : ℕ) (item : Stmt) → i < length main → item ≡ slice_index_or main i item
    → constructs_in (block (drop i main)) ≡ option_to_list (construct_of item.line (statement item.kind)) ++ constructs_in (block (drop (i + 1) main))
statement_at main i item below read =
    ap (λ l. constructs_in (block l)) (drop_more main i item below)
    ∙ ap (λ first. constructs_in (block (first ∷ drop (i + 1) main))) (sym read)
    ∙ statement_first item.line (statement item.kind) (block (drop (i + 1) main))

-- where the construct there names a host that is missing, it is the first one
pub missing_here : (count : ℕ) (main : List Stmt) (i : ℕ) (item : Stmt) → i < length main → item ≡ slice_index_or main i item
    → (c : Construct) → construct_of item.line (statement item.kind) ≡ Some c → (predictors : List Predictor) → predictors ≡ predictors_of c
    → (host : ℕ) → Some host ≡ missing_among count (hosts_among predictors) → Some host ≡ missing_host count (constructs_in (block (drop i main)))
missing_here count main i item below read c is predictors same host found =
    let later = constructs_in (block (drop (i + 1) main)) in
    sym (missing_before count host (hosts_among (predictors_of c)) (hosts_named later) (ap (λ all. missing_among count (hosts_among all)) (sym same) ∙ sym found))
    ∙ ap (λ (one : Option Construct). missing_host count (option_to_list one ++ later)) (sym is)
    ∙ sym (ap (missing_host count) (statement_at main i item below read))

-- where it names none that is missing, the first one is named later
pub missing_later : (count : ℕ) (main : List Stmt) (i : ℕ) (item : Stmt) → i < length main → item ≡ slice_index_or main i item
    → (c : Construct) → construct_of item.line (statement item.kind) ≡ Some c → (predictors : List Predictor) → predictors ≡ predictors_of c
    → missing_among count (hosts_among predictors) ≡ None → missing_host count (constructs_in (block (drop (i + 1) main))) ≡ missing_host count (constructs_in (block (drop i main)))
missing_later count main i item below read c is predictors same none =
    let later = constructs_in (block (drop (i + 1) main)) in
    sym (missing_after count (hosts_among (predictors_of c)) (hosts_named later) (ap (λ all. missing_among count (hosts_among all)) (sym same) ∙ none))
    ∙ ap (λ (one : Option Construct). missing_host count (option_to_list one ++ later)) (sym is)
    ∙ sym (ap (missing_host count) (statement_at main i item below read))

-- where no construct is there, the first one is named later
pub missing_not_here : (count : ℕ) (main : List Stmt) (i : ℕ) (item : Stmt) → i < length main → item ≡ slice_index_or main i item
    → construct_of item.line (statement item.kind) ≡ None → missing_host count (constructs_in (block (drop (i + 1) main))) ≡ missing_host count (constructs_in (block (drop i main)))
missing_not_here count main i item below read is =
    ap (λ (one : Option Construct). missing_host count (option_to_list one ++ constructs_in (block (drop (i + 1) main)))) (sym is)
    ∙ sym (ap (missing_host count) (statement_at main i item below read))
