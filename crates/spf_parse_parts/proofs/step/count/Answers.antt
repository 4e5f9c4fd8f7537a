use Rattle.std.proofs.Common.{rules, ◌≡◌, sym, ◌∙◌, ap, arith}
use Rattle.spf_text.specs.declared.token.TokenKind.TheVariants as kind
use Rattle.std.proofs.Common.{pos, negsuc, ℕ, ℤ, ◌<◌, ◌^◌, FitsSigned, w64, nat_abs}
use Rattle.std.specs.Int.{FitsUnsignedBits}
use Rattle.std.proofs.lemmas.Int.{to_z-of_z}
use Rattle.spf_parse_parts.proofs.Tokens.{count_next, count_other, end_fails, count_end}
use Rattle.spf_parse_parts.proofs.step.count.Goals as goal

pub returns-in_default : goal.returns-in_default
returns-in_default c = end_fails c.args.tokens.now c.in_default.ensures.cases count_end

pub returns-in-Name : goal.returns-in-Name
returns-in-Name c = count_other c.args.tokens.now c.in-Some.token.now c.in-Some.rest.now c.in-Some.ensures.cases.0 (λ n e. let f : kind.Name ≡ kind.Number (pos n) = sym c.in-Name.is ∙ e in absurd cc)

pub returns-in-Keyword : goal.returns-in-Keyword
returns-in-Keyword c = count_other c.args.tokens.now c.in-Some.token.now c.in-Some.rest.now c.in-Some.ensures.cases.0 (λ n e. let f : kind.Keyword _ ≡ kind.Number (pos n) = sym c.in-Keyword.is ∙ e in absurd cc)

pub returns-in-Sign : goal.returns-in-Sign
returns-in-Sign c = count_other c.args.tokens.now c.in-Some.token.now c.in-Some.rest.now c.in-Some.ensures.cases.0 (λ n e. let f : kind.Sign _ ≡ kind.Number (pos n) = sym c.in-Sign.is ∙ e in absurd cc)

counted : (n : ℤ) (m : ℕ) → FitsUnsignedBits 64 n × (m ≡ nat_abs n) → n ≡ pos m
counted (pos n) m h = ap pos (sym h.1)
counted (negsuc n) m h = elim h.0 [ ]

counts : (n : ℕ) → n < 2 ^ 63 → FitsUnsignedBits 64 (pos n)
counts n h = omega (arith, h)

uncounted : (v : ℤ) → FitsSigned w64 v → (FitsUnsignedBits 64 v → ⊥) → (n : ℕ) → v ≡ pos n → ⊥
uncounted (pos m) f h n e = h (counts m (omega (arith, f)))
uncounted (negsuc m) f h n e = cc

number_same : (m n : ℤ) → kind.Number m ≡ kind.Number n → m ≡ n
number_same m n h = cc

pub returns-in-Ok : goal.returns-in-Ok
returns-in-Ok c =
    let f : FitsSigned w64 c.in-Number.value = search rules in
    let h = rw (to_z-of_z w64 c.in-Number.value f) at c.in-Ok.ensures in
    count_next c.args.tokens.now c.in-Some.token.now c.in-Some.rest.now c.in-Some.ensures.cases.0 c.in-Ok.value (c.in-Number.is ∙ ap kind.Number (counted c.in-Number.value c.in-Ok.value h))

pub returns-in-Err : goal.returns-in-Err
returns-in-Err c =
    let f : FitsSigned w64 c.in-Number.value = search rules in
    let h = rw (to_z-of_z w64 c.in-Number.value f) at c.in-Err.ensures in
    count_other c.args.tokens.now c.in-Some.token.now c.in-Some.rest.now c.in-Some.ensures.cases.0 (λ n e. uncounted c.in-Number.value f h n (number_same c.in-Number.value (pos n) (sym c.in-Number.is ∙ e)))
