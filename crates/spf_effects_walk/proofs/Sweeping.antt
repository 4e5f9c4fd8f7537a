-- Sweeps of the statements of a loop's body.
use Rattle.std.proofs.Common.{◌≡◌, ℕ, ◌+◌, ◌<◌, ◌≤◌, Bool, true, false, List, [], length, get_or, drop, refl, sym, ap, subst, ◌∙◌, ℤ, pos}
use Rattle.std.proofs.lemmas.List.{drop_all}
use Rattle.std.specs.Prelude.{Some, None, Option, if◌then◌else◌, ◌&&◌, ◌-ℤ◌, int_lt}
use Rattle.std.specs.Ordering.{int_eq}
use Rattle.spf_region.specs.declared.bound.Bound.{Bound}
use Rattle.spf_region.specs.declared.bound.Bound.TheVariants.{Known, Unknown}
use Rattle.spf_region.specs.Ranges.{Offsets, offsets_of, wholes_of}
use Rattle.std.specs.declared.boxed.Box.{Box}
use Rattle.std.specs.declared.alloc.Global.{Global}
use Rattle.spf_ast.specs.declared.syntax.Stmt.{Stmt}
use Rattle.spf_ast.specs.declared.syntax.StmtKind.{StmtKind}
use Rattle.spf_ast.specs.declared.syntax.StmtKind.TheVariants as s
use Rattle.spf_ast.specs.declared.syntax.Fold as code_fold
use Rattle.spf_ast.specs.declared.syntax.Pair as code_pair
use Rattle.spf_ast.proofs.Views.{statement-fold, statement-pair}
use Rattle.spf_ast.specs.Syntax.{Statement, Let, Assign, Store, Fill, Emit, Fail, If, For, While, Do, Fold, Pair, Break, Block, on_line}
use Rattle.spf_ast.specs.View.{statement, block}
use Rattle.spf_ast.specs.Slots.{breaks}
use Rattle.spf_effects_findings.specs.Extends.{Lists, IsSwept}
use Rattle.spf_effects_findings.specs.Forms.{sweeps, loop_sweeps, sweep, distance}
use Rattle.spf_effects_findings.specs.Found.{Sweep, sweeps_joined, swept}
use Rattle.spf_effects_walk.specs.Sweeping.{sweeps_of}
use Rattle.spf_effects_findings.proofs.Between.{none_there, some_there}
use Rattle.spf_effects_walk.proofs.Walks.{item_at}

-- nothing is added
pub not_swept : (lists : Lists) → IsSwept (λ w. w) lists lists
not_swept lists = record { uncovered = refl; may = refl; offsets = refl; wholes = refl }

-- a statement's own sweep, and then those of the others
sweep_then : (f a b : ℤ) (array : ℕ) (d : Option ℤ) (others : List Sweep) (w : Offsets) → sweeps_joined f a b (sweep array d others) w ≡ sweeps_joined f a b others (sweeps_joined f a b (sweep array d []) w)
sweep_then f a b array (Some d) others w = refl
sweep_then f a b array None others w = refl

pub sweeps_then : (name line : ℕ) (f a b : ℤ) (s : Statement) (rest : Block) (w : Offsets) → sweeps_joined f a b (sweeps name (on_line line s rest)) w ≡ sweeps_joined f a b (sweeps name rest) (sweeps_joined f a b (sweeps_of name s) w)
sweeps_then name line f a b (Let slot value) rest w = refl
sweeps_then name line f a b (Assign slot value) rest w = refl
sweeps_then name line f a b (Store array index value) rest w = sweep_then f a b array (distance name index) (sweeps name rest) w
sweeps_then name line f a b (Fill array low high value) rest w = refl
sweeps_then name line f a b (Emit value) rest w = refl
sweeps_then name line f a b (Fail code) rest w = refl
sweeps_then name line f a b (If c first second) rest w = refl
sweeps_then name line f a b (For slot low high body) rest w = refl
sweeps_then name line f a b (While c most body) rest w = refl
sweeps_then name line f a b (Do g given) rest w = refl
sweeps_then name line f a b (Fold head body) rest w = refl
sweeps_then name line f a b (Pair head producer consumer) rest w = refl
sweeps_then name line f a b Break rest w = refl

-- the sweeps of these statements from an index on are left
pub record SweepsLead (name : ℕ) (f a b : ℤ) (all : List Stmt) (old : Lists) (i : ℕ) (now : Lists) : Type 0 where
  pub uncovered : now.uncovered ≡ old.uncovered
  pub may : now.may ≡ old.may
  pub offsets : sweeps_joined f a b (sweeps name (block (drop i all))) (offsets_of now.written) ≡ sweeps_joined f a b (sweeps name (block all)) (offsets_of old.written)
  pub wholes : wholes_of now.written ≡ wholes_of old.written

pub sweeps_next : (name : ℕ) (f a b : ℤ) (all : List Stmt) (old : Lists) (i : ℕ) (now new : Lists) (x : Stmt) → i < length all → x ≡ get_or all i x → IsSwept (sweeps_joined f a b (sweeps_of name (statement x.kind))) now new → SweepsLead name f a b all old i now → SweepsLead name f a b all old (i + 1) new
sweeps_next name f a b all old i now new x h is s lead = record {
  uncovered = s.uncovered ∙ lead.uncovered;
  may = s.may ∙ lead.may;
  offsets =
      ap (sweeps_joined f a b (sweeps name (block (drop (i + 1) all)))) s.offsets
      ∙ sym (sweeps_then name x.line f a b (statement x.kind) (block (drop (i + 1) all)) (offsets_of now.written))
      ∙ ap (λ l. sweeps_joined f a b (sweeps name (block l)) (offsets_of now.written)) (sym (item_at all i x h is))
      ∙ lead.offsets;
  wholes = s.wholes ∙ lead.wholes;
}

pub sweeps_end : (name : ℕ) (f a b : ℤ) (all : List Stmt) (old : Lists) (i : ℕ) (now : Lists) → length all ≤ i → SweepsLead name f a b all old i now → IsSwept (sweeps_joined f a b (sweeps name (block all))) old now
sweeps_end name f a b all old i now h lead = record {
  uncovered = lead.uncovered;
  may = lead.may;
  offsets = ap (λ l. sweeps_joined f a b (sweeps name (block l)) (offsets_of now.written)) (sym (drop_all i all h)) ∙ lead.offsets;
  wholes = lead.wholes;
}

-- the turns of a loop, where its ends aren't one offset each
pub not_between : (f l h g m i : ℤ) → int_eq f g ≡ true → (if int_eq l h && (int_eq m i && int_lt l m) then Some (m -ℤ pos 1) else None) ≡ None → (s : List Sweep) (w : Offsets) → swept (Known f l h) (Known g m i) s w ≡ w
not_between f l h g m i same e s w = rw (same, none_there (int_eq l h && (int_eq m i && int_lt l m)) (m -ℤ pos 1) e) refl

pub between : (f l h g m i last : ℤ) → int_eq f g ≡ true → (if int_eq l h && (int_eq m i && int_lt l m) then Some (m -ℤ pos 1) else None) ≡ Some last → (s : List Sweep) (w : Offsets) → swept (Known f l h) (Known g m i) s w ≡ sweeps_joined f l last s w
between f l h g m i last same e s w =
    let there = some_there (int_eq l h && (int_eq m i && int_lt l m)) (m -ℤ pos 1) last e in
    rw (same, there.0, there.1) refl

same_either : {A : Type 0} (b : Bool) (x : A) → (if b then x else x) ≡ x
same_either true x = refl
same_either false x = refl

-- no sweeps add nothing
pub swept_by_none : (low high : Bound) (w : Offsets) → swept low high [] w ≡ w
swept_by_none (Known f l h) (Known g m i) w = same_either _ w
swept_by_none (Known f l h) Unknown w = refl
swept_by_none Unknown high w = refl

-- a loop that a `break` may end adds nothing
pub broken_not_swept : (name : ℕ) (low high : Bound) (body : Block) (lists : Lists) → breaks body ≡ true → IsSwept (swept low high (loop_sweeps name body)) lists lists
broken_not_swept name low high body lists e =
    subst (λ (b : Bool). IsSwept (swept low high (if b then [] else sweeps name body)) lists lists) (sym e)
    (subst (λ more. IsSwept more lists lists) (λ i w. sym (swept_by_none low high w) i) (not_swept lists))

-- inner constructs have no sweeps
pub fold_not_swept : (name : ℕ) (f a b : ℤ) (kind : StmtKind) (fold : Box code_fold.Fold Global) → kind ≡ s.Fold fold → (lists : Lists) → IsSwept (sweeps_joined f a b (sweeps_of name (statement kind))) lists lists
fold_not_swept name f a b kind fold is lists =
    subst (λ k. IsSwept (sweeps_joined f a b (sweeps_of name (statement k))) lists lists) (sym is)
    (subst (λ t. IsSwept (sweeps_joined f a b (sweeps_of name t)) lists lists) (sym (statement-fold fold)) (not_swept lists))

pub pair_not_swept : (name : ℕ) (f a b : ℤ) (kind : StmtKind) (pair : Box code_pair.Pair Global) → kind ≡ s.Pair pair → (lists : Lists) → IsSwept (sweeps_joined f a b (sweeps_of name (statement kind))) lists lists
pair_not_swept name f a b kind pair is lists =
    subst (λ k. IsSwept (sweeps_joined f a b (sweeps_of name (statement k))) lists lists) (sym is)
    (subst (λ t. IsSwept (sweeps_joined f a b (sweeps_of name t)) lists lists) (sym (statement-pair pair)) (not_swept lists))
