use Rattle.std.proofs.Common.{◌≡◌, ◌++◌, ◌∷◌, [], codes, List, ℕ, ℤ, pos, negsuc, zero, suc, append_assoc, append-nil, refl, sym, ap, ◌∙◌, w64, of_z, to_z}
use Rattle.std.specs.Fmt.{signed_decimal}
use Rattle.std.proofs.lemmas.Int.{to_z-of_z}
use Rattle.std.proofs.lemmas.Result.{IfOk-equal}
use Rattle.spf_print_forms.specs.Canonical.{joined, size_text}
use Rattle.spf_print.proofs.programs.push_size.Goals as goal

-- three pieces, joined
three : (a sign b : List ℕ) → joined (a ∷ sign ∷ b ∷ []) ≡ a ++ (sign ++ b)
three a sign b = ap (λ x. a ++ (sign ++ x)) (append-nil b)

-- the text of a size that has both of its parts
both_parts : (factor offset : ℤ) → (of_z w64 factor ≡ 0 → ⊥) → (of_z w64 offset ≡ 0 → ⊥) → size_text factor offset ≡ signed_decimal factor ++ (codes "*len + " ++ signed_decimal offset)
both_parts (pos zero) offset f o = absurd (f refl)
both_parts (pos (suc n)) (pos zero) f o = absurd (o refl)
both_parts (pos (suc n)) (pos (suc m)) f o = three (signed_decimal (pos (suc n))) (codes "*len + ") (signed_decimal (pos (suc m)))
both_parts (pos (suc n)) (negsuc m) f o = three (signed_decimal (pos (suc n))) (codes "*len + ") (signed_decimal (negsuc m))
both_parts (negsuc n) (pos zero) f o = absurd (o refl)
both_parts (negsuc n) (pos (suc m)) f o = three (signed_decimal (negsuc n)) (codes "*len + ") (signed_decimal (pos (suc m)))
both_parts (negsuc n) (negsuc m) f o = three (signed_decimal (negsuc n)) (codes "*len + ") (signed_decimal (negsuc m))

-- the text of a size that has no offset
factor_alone : (factor : ℤ) → (of_z w64 factor ≡ 0 → ⊥) → size_text factor (pos zero) ≡ signed_decimal factor ++ codes "*len"
factor_alone (pos zero) f = absurd (f refl)
factor_alone (pos (suc n)) f = refl
factor_alone (negsuc n) f = refl

pub returns-then-factor-eq0 : goal.returns-then-factor-eq0
returns-then-factor-eq0 c =
    let none : c.args.factor ≡ pos 0 = sym (to_z-of_z w64 c.args.factor c.ranges.factor) ∙ ap (to_z w64) c.if-factor-eq0.true in
    IfOk-equal c.push_number.result _ _ _ c.push_number.ensures (rw (none, to_z-of_z w64 c.args.offset c.ranges.offset) refl)

pub returns-then-offset-eq0 : goal.returns-then-offset-eq0
returns-then-offset-eq0 c =
    let none : c.args.offset ≡ pos 0 = sym (to_z-of_z w64 c.args.offset c.ranges.offset) ∙ ap (to_z w64) c.if-offset-eq0.true in
    IfOk-equal c.push.result _ _ _ c.push.ensures (rw (c.in_ok-push_number.ensures {u = tt}, none, factor_alone c.args.factor c.if-factor-eq0.false, to_z-of_z w64 c.args.factor c.ranges.factor) (simp append_assoc))

pub returns : goal.returns
returns c =
    IfOk-equal c.push_number-3.result _ _ _ c.push_number-3.ensures (rw (c.in_ok-push.ensures {u = tt}, c.in_ok-push_number.ensures {u = tt}, both_parts c.args.factor c.args.offset c.if-factor-eq0.false c.if-offset-eq0.false, to_z-of_z w64 c.args.factor c.ranges.factor, to_z-of_z w64 c.args.offset c.ranges.offset) (simp append_assoc))
