-- An instance whose functions have other tables.
use Rattle.std.proofs.Common.{◌≡◌, ◌⊎◌, inl, inr, ℕ, zero, suc, ◌<◌, List, [], ◌∷◌, length, Some, refl, sym, ap, ◌∙◌, subst}
use Rattle.std.specs.Prelude.{slice_get, slice_set}
use Rattle.spf_ast.specs.Meaning.{call_before}
use Rattle.spf_ast.specs.Program.{extents_of}
use Rattle.spf_ast.specs.Syntax.{Program, Function}
use Rattle.spf_code.specs.declared.function.FunctionCode.{FunctionCode}
use Rattle.spf_code.specs.declared.program.ProgramCode.{ProgramCode}
use Rattle.spf_code.specs.NodeView.{code}
use Rattle.spf_code_lowering.specs.Lowering.{callees_before, IsCodeOf}
use Rattle.spf_code_lowering.specs.Tables.{HasAnswers}
use Rattle.spf_exec_instance.specs.Instance.{IsInstance}
use Rattle.spf_exec_instance.specs.Layout.{LayoutValue}

-- what is at an index, after one was set
at-set : {A : Type 0} (xs : List A) (f : ℕ) (new : A) (i : ℕ) (k : A) → slice_get (slice_set xs f new) i ≡ Some k → ((i ≡ f) × (k ≡ new)) ⊎ (slice_get xs i ≡ Some k)
at-set [] f new i k h = inr h
at-set (x ∷ xs) zero new zero k h = let same : k ≡ new = cc in inl (refl, same)
at-set (x ∷ xs) zero new (suc i) k h = inr h
at-set (x ∷ xs) (suc f) new zero k h = inr h
at-set (x ∷ xs) (suc f) new (suc i) k h = elim (at-set xs f new i k h) [
  | inl e ↦ inl (ap suc e.0, e.1)
  | inr e ↦ inr e
]

set-count : {A : Type 0} (xs : List A) (f : ℕ) (new : A) → length (slice_set xs f new) ≡ length xs
set-count [] f new = refl
set-count (x ∷ xs) zero new = refl
set-count (x ∷ xs) (suc f) new = ap suc (set-count xs f new)

-- with other tables for one function, which have its answers, an instance keeps what it keeps
pub other-tables : (p : Program) (input : List ℕ) (l : LayoutValue) (old new : ProgramCode) (size f : ℕ) (k changed : FunctionCode)
    → IsInstance p input l old size → slice_get old.functions.items f ≡ Some k → new.functions.items ≡ slice_set old.functions.items f changed
    → new.main ≡ old.main → new.constructs ≡ old.constructs → changed.slots ≡ k.slots → changed.code ≡ k.code → changed.register ≡ k.register
    → ((below : ℕ) → f < below → HasAnswers changed.tables (call_before input (extents_of p (length input)) p.functions below f)) → IsInstance p input l new size
other-tables p input l old new size f k changed i at set main constructs slots code_is register answers = record {
  orderly = i.orderly;
  layout = i.layout;
  code = record {
    count = ap length set ∙ set-count old.functions.items f changed ∙ i.code.count;
    functions = λ calls. record {
      each = λ j c g there seen. elim (at-set old.functions.items f changed j c (subst (λ xs. slice_get xs j ≡ Some c) set there)) [
        | inl e ↦ of-changed calls j c g e.0 e.1 ((i.code.functions calls).each f k g at (subst (λ n. slice_get p.functions n ≡ Some g) e.0 seen))
        | inr e ↦ (i.code.functions calls).each j c g e seen
      ];
    };
    main = λ calls. rw main (i.code.main calls);
    constructs = λ calls. rw constructs (i.code.constructs calls);
  };
  tables = λ j n c there less. elim (at-set old.functions.items f changed j c (subst (λ xs. slice_get xs j ≡ Some c) set there)) [
    | inl e ↦
        subst (λ m. HasAnswers c.tables (call_before input (extents_of p (length input)) p.functions n m)) (sym e.0)
        (subst (λ (x : FunctionCode). HasAnswers x.tables (call_before input (extents_of p (length input)) p.functions n f)) (sym e.1) (answers n (subst (λ m. m < n) e.0 less)))
    | inr e ↦ i.tables j n c e less
  ];
  size = i.size;
  short = i.short;
}
  where
    of-changed : (calls : ℕ → ℕ) (j : ℕ) (c : FunctionCode) (g : Function) → j ≡ f → c ≡ changed
        → (k.slots ≡ length g.slots) × IsCodeOf (callees_before p.functions f) calls g (code k.code.items) k.register
        → (c.slots ≡ length g.slots) × IsCodeOf (callees_before p.functions j) calls g (code c.code.items) c.register
    of-changed calls j c g e d h = (
      ap (λ (x : FunctionCode). x.slots) d ∙ slots ∙ h.0,
      subst (λ n. IsCodeOf (callees_before p.functions n) calls g (code c.code.items) c.register) (sym e)
          (subst (λ (x : FunctionCode). IsCodeOf (callees_before p.functions f) calls g (code x.code.items) x.register) (sym d) (rw (code_is, register) h.1)),
    )
