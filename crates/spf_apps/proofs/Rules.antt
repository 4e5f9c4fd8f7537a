-- A fold keeps the rules whose body surely fills the cells of its block in one array, reads them nowhere, and stores nowhere else.
use Rattle.std.proofs.Common.{◌≡◌, ◌⊎◌, inl, inr, ℕ, Bool, true, false, List, [], ◌∷◌, ℤ, pos, refl, sym, ◌∙◌, subst, arith}
use Rattle.std.specs.Prelude.{◌||◌, ◌≤ℤ◌, ◌<ℤ◌, ◌-ℤ◌}
use Rattle.std.specs.List.{AllByRecursion}
use Rattle.std.proofs.lemmas.Int.{ints}
use Rattle.std.proofs.lemmas.Bool.Decides.{nat_tests}
use Rattle.spf_ast_lemmas.proofs.Members.{cases}
use Rattle.spf_region.specs.declared.range.Range.{Range}
use Rattle.spf_region.specs.declared.range.Range.TheVariants.{Whole, Affine}
use Rattle.spf_region.specs.Ranges.{array_of, has_offset, is_whole, offsets_of, wholes_of}
use Rattle.spf_region.proofs.Covers.{has-parts}
use Rattle.spf_ast.specs.declared.syntax.Part.{Part}
use Rattle.spf_ast.specs.declared.syntax.Part.TheVariants.{Body, Producer, Consumer, Predictor}
use Rattle.spf_ast.specs.Syntax.{Program, FoldHead, Block}
use Rattle.spf_ast.specs.Construct.{Construct, fold}
use Rattle.spf_effects_findings.specs.Found.{nowhere}
use Rattle.spf_effects_findings.specs.Parts.{part_finds, part_effects}
use Rattle.spf_check_rules.specs.Rules.{HasArray, IsBlockPart, IsWritten, KeepsTheRules, may_write, reads_bare}
use Rattle.spf_apps.proofs.Tame.{IsTame, NoWrite}

-- the range is inside the first cells of the blocks in the array, as many as the factor
abbrev pub IsInside : ℕ → ℤ → Range → Type 0
IsInside array factor (Whole a) = ⊥
IsInside array factor (Affine a f l h) = (a ≡ array) × (f ≡ factor) × (pos 0 ≤ℤ l) × (h <ℤ factor)

-- and so is an offset
record IsCell (array : ℕ) (factor : ℤ) (a : ℕ) (f o : ℤ) : Type 0 where
  array_is : a ≡ array
  factor_is : f ≡ factor
  low : pos 0 ≤ℤ o
  high : o <ℤ factor

either_way : (a b : Bool) → (a || b) ≡ true → (a ≡ true) ⊎ (b ≡ true)
either_way true b e = inl refl
either_way false b e = inr e

inside-cell : (array : ℕ) (factor : ℤ) (list : List Range) → AllByRecursion (IsInside array factor) list → (a : ℕ) (f o : ℤ) → offsets_of list a f o ≡ true → IsCell array factor a f o
inside-cell array factor [] h a f o e = absurd cc
inside-cell array factor (Whole b ∷ rest) h a f o e = absurd h.0
inside-cell array factor (Affine b g l i ∷ rest) h a f o e =
    cases (either_way (has_offset (Affine b g l i) a f o) (offsets_of rest a f o) e) here (λ later. inside-cell array factor rest h.1 a f o later)
  where
    here : has_offset (Affine b g l i) a f o ≡ true → IsCell array factor a f o
    here t =
        let parts = has-parts b g l i a f o t in
        record {
          array_is = parts.0 ∙ h.0.0;
          factor_is = parts.1 ∙ h.0.1;
          low = omega (arith, ints, h.0.2, parts.2);
          high = omega (arith, ints, h.0.3, parts.3);
        }

inside-no_whole : (array : ℕ) (factor : ℤ) (list : List Range) → AllByRecursion (IsInside array factor) list → (a : ℕ) → wholes_of list a ≡ false
inside-no_whole array factor [] h a = refl
inside-no_whole array factor (Whole b ∷ rest) h a = absurd h.0
inside-no_whole array factor (Affine b g l i ∷ rest) h a = inside-no_whole array factor rest h.1 a

inside-array : (array : ℕ) (factor : ℤ) (list : List Range) → AllByRecursion (IsInside array factor) list → (a : ℕ) → HasArray list a → a ≡ array
inside-array array factor list h a (inl whole) = let no = inside-no_whole array factor list h a in absurd (let e : false ≡ true = sym no ∙ whole in clash e)
  where
    clash : false ≡ true → ⊥
    clash e = cc
inside-array array factor list h a (inr (f, o, e)) = (inside-cell array factor list h a f o e).array_is

no_entry : (a : ℕ) → HasArray [] a → ⊥
no_entry a (inl whole) = cc
no_entry a (inr (f, o, e)) = cc

bare-other : (array : ℕ) (list : List Range) → AllByRecursion (λ r. array_of r ≡ array → ⊥) list → HasArray list array → ⊥
bare-other array [] h e = no_entry array e
bare-other array (Whole b ∷ rest) h (inl whole) = cases (either_way (is_whole (Whole b) array) (wholes_of rest array) whole) (λ here. h.0 (grind (arith, nat_tests, here))) (λ later. bare-other array rest h.1 (inl later))
bare-other array (Affine b g l i ∷ rest) h (inl whole) = bare-other array rest h.1 (inl whole)
bare-other array (Whole b ∷ rest) h (inr (f, o, e)) = bare-other array rest h.1 (inr (f, o, e))
bare-other array (Affine b g l i ∷ rest) h (inr (f, o, e)) =
    cases (either_way (has_offset (Affine b g l i) array f o) (offsets_of rest array f o) e)
    (λ here. h.0 (sym (has-parts b g l i array f o here).0))
    (λ later. bare-other array rest h.1 (inr (f, o, later)))

none-entry : (list : List Range) → AllByRecursion NoWrite list → (a : ℕ) → HasArray list a → ⊥
none-entry [] h a e = no_entry a e
none-entry (r ∷ rest) h a e = h.0

-- what is asked of a fold
pub record FillsItsBlocks (p : Program) (c : Construct) (array : ℕ) (factor : ℤ) : Type 0 where
  pub body : IsTame array (IsInside array factor) (part_finds p c Body)
  pub fills : (o : ℤ) → pos 0 ≤ℤ o → o <ℤ factor → (part_finds p c Body nowhere).written array factor o ≡ true
  pub guess : IsTame array NoWrite (part_finds p c Predictor)
  pub assigns_no_outer : (part_effects p c Body).assigns_outer ≡ false
  pub emits_nothing : (part_effects p c Body).emits ≡ false

pub fold-keeps : (p : Program) (line : ℕ) (head : FoldHead) (body : Block) (array : ℕ) (factor : ℤ) → FillsItsBlocks p (fold line head body) array factor → KeepsTheRules p (fold line head body)
fold-keeps p line head body array factor d =
    let c = fold line head body in
    let may = d.body.may nowhere in
    record {
      assigns_no_outer = no_outer;
      emits_nothing = no_emit;
      predictor_writes_nothing = none-entry (may_write p c Predictor) (d.guess.may nowhere);
      writes_apart = record { no_whole = inside-no_whole array factor (may_write p c Body) may; near = near };
      predictor_reads_unwritten = λ a h written. bare-other array (reads_bare p c Predictor) (d.guess.bare nowhere) (subst (HasArray (reads_bare p c Predictor)) (written_is a written) h);
      reads_after_writing = λ a h written. bare-other array (reads_bare p c Body) (d.body.bare nowhere) (subst (HasArray (reads_bare p c Body)) (written_is a written) h);
      writes_all = record { no_whole = inside-no_whole array factor (may_write p c Body) may; sure = sure };
    }
  where
    no_outer : (part : Part) → IsBlockPart part → (part_effects p (fold line head body) part).assigns_outer ≡ false
    no_outer Body b = d.assigns_no_outer
    no_outer Producer b = refl
    no_outer Consumer b = refl
    no_outer Predictor b = refl

    no_emit : (part : Part) → IsBlockPart part → (part_effects p (fold line head body) part).emits ≡ false
    no_emit Body b = d.emits_nothing
    no_emit Producer b = refl
    no_emit Consumer b = refl
    no_emit Predictor b = refl

    near : (a : ℕ) (f g o q : ℤ) → offsets_of (may_write p (fold line head body) Body) a f o ≡ true → offsets_of (may_write p (fold line head body) Body) a g q ≡ true → (f ≡ g) × (pos 0 <ℤ f) × ((o -ℤ q) <ℤ f)
    near a f g o q h k =
        let one = inside-cell array factor (may_write p (fold line head body) Body) (d.body.may nowhere) a f o h in
        let other = inside-cell array factor (may_write p (fold line head body) Body) (d.body.may nowhere) a g q k in
        (one.factor_is ∙ sym other.factor_is, omega (arith, ints, one.factor_is, one.low, one.high), omega (arith, ints, one.factor_is, one.high, other.low))

    sure : (a : ℕ) (f o : ℤ) → offsets_of (may_write p (fold line head body) Body) a f o ≡ true → (part_effects p (fold line head body) Body).must a f o ≡ true
    sure a f o h =
        let cell = inside-cell array factor (may_write p (fold line head body) Body) (d.body.may nowhere) a f o h in
        subst (λ (x : ℕ × ℤ). (part_finds p (fold line head body) Body nowhere).written x.0 x.1 o ≡ true) (λ i. (sym cell.array_is i, sym cell.factor_is i)) (d.fills o cell.low cell.high)

    by_part : (a : ℕ) (part : Part) → IsBlockPart part → HasArray (may_write p (fold line head body) part) a → a ≡ array
    by_part a Body b h = inside-array array factor (may_write p (fold line head body) Body) (d.body.may nowhere) a h
    by_part a Producer b h = absurd (no_entry a h)
    by_part a Consumer b h = absurd (no_entry a h)
    by_part a Predictor b h = absurd b

    written_is : (a : ℕ) → IsWritten p (fold line head body) a → a ≡ array
    written_is a w = by_part a w.part w.is_block_part w.entry
