use Rattle.std.proofs.Common.{arith, ◌≡◌, ◌*◌, ◌%◌, ◌^◌, ◌<◌, ◌≤◌, true, false, w64, ℤ, pos, negsuc, FitsSigned, to_z, of_z, ap, ◌∙◌}
use Rattle.std.proofs.lemmas.Int.{ints, to_z-of_z, to_z_pos}
use Rattle.std.proofs.Math.Pow.{pow_mono}
use Rattle.std.specs.Prelude.{nat_lt}
use lib.Signed.{lt_z}
use lib.IntN.{nat_abs}
use Rattle.spf_ast.specs.Word.{mul_words, shl_words}
use Rattle.spf_ast.proofs.word.shl.Goals as goal

-- a shift by less than 63 is a product
shl_small : (a b : ℤ) → FitsSigned w64 b → (of_z w64 b ≡ 63 → ⊥) → lt_z (pos 63) b ≡ false → lt_z b (pos 0) ≡ false → mul_words a (to_z w64 (1 * 2 ^ nat_abs b % 2 ^ 64)) ≡ shl_words a b
shl_small a (pos n) f ne hi lo =
    let small : n < 63 = grind (arith, ints) in
    let p : 2 ^ n ≤ 2 ^ 62 = pow_mono {i = n} {j = 62} (omega arith) in
    let q : 1 * 2 ^ n % 2 ^ 64 ≡ 2 ^ n = omega arith in
    let e : to_z w64 (1 * 2 ^ n % 2 ^ 64) ≡ pos (2 ^ n) = ap (to_z w64) q ∙ to_z_pos w64 (2 ^ n) (omega arith) in
    let t : nat_lt n 64 ≡ true = grind arith in
    rw (e, t)
shl_small a (negsuc n) f ne hi lo = cc

pub returns : goal.returns
returns c =
    let a' = to_z-of_z w64 c.args.a c.ranges.a in
    let b' = to_z-of_z w64 c.args.b c.ranges.b in
    c.mul.ensures
    ∙ ap (λ x. mul_words x (to_z w64 (1 * 2 ^ nat_abs (to_z w64 (of_z w64 c.args.b)) % 2 ^ 64))) a'
    ∙ ap (λ x. mul_words c.args.a (to_z w64 (1 * 2 ^ nat_abs x % 2 ^ 64))) b'
    ∙ shl_small c.args.a c.args.b c.ranges.b c.if-b-eq63.false (rw b' at c.if-b-gt63.false) (rw b' at c.if-b-lt0.false)
