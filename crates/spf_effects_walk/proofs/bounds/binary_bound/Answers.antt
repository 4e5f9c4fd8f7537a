use Rattle.std.proofs.Common.{◌≡◌, inl, inr, refl, sym, ap, ◌∙◌}
use Rattle.spf_region.specs.declared.bound.Bound.{Bound}
use Rattle.spf_ast.specs.declared.syntax.Op.{Op}
use Rattle.spf_effects_findings.specs.Forms.{binary_bound}
use Rattle.spf_effects_walk.proofs.bounds.binary_bound.Goals as goal

-- the bound of one operator, where the operator is this one
where_is : (op one : Op) (left right result : Bound) → op ≡ one → result ≡ binary_bound one left right → result ≡ binary_bound op left right
where_is op one left right result is h = h ∙ ap (λ o. binary_bound o left right) (sym is)

pub returns-in-Add : goal.returns-in-Add
returns-in-Add c = where_is _ _ c.args.left c.args.right _ c.in-Add.is c.plus.ensures.plus

pub returns-in-Sub : goal.returns-in-Sub
returns-in-Sub c = where_is _ _ c.args.left c.args.right _ c.in-Sub.is c.minus.ensures.minus

pub returns-in-Mul : goal.returns-in-Mul
returns-in-Mul c = where_is _ _ c.args.left c.args.right _ c.in-Mul.is c.times.ensures.times

pub returns-in-Rem : goal.returns-in-Rem
returns-in-Rem c = where_is _ _ c.args.left c.args.right _ c.in-Rem.is c.rem.ensures.remainder

pub returns-in-And : goal.returns-in-And
returns-in-And c = where_is _ _ c.args.left c.args.right _ c.in-And.is c.mask.ensures.masked

pub returns-in-Div : goal.returns-in-Div
returns-in-Div c = elim c.in-Div.is [
  | inl div ↦ where_is _ _ c.args.left c.args.right _ div refl
  | inr others ↦ elim others [
    | inl or ↦ where_is _ _ c.args.left c.args.right _ or refl
    | inr others ↦ elim others [
      | inl xor ↦ where_is _ _ c.args.left c.args.right _ xor refl
      | inr shift ↦ elim shift [
        | inl left ↦ where_is _ _ c.args.left c.args.right _ left refl
        | inr right ↦ where_is _ _ c.args.left c.args.right _ right refl
      ]
    ]
  ]
]
