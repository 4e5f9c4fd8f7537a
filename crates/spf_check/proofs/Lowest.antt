-- The lowest rule that is broken.
use Rattle.std.proofs.Common.{◌≡◌, ◌⊎◌, ℕ, zero, suc, ◌<◌, Option, Some, None, refl, sym, ap, ◌∙◌, subst, arith}
use Rattle.std.specs.Prelude.{MatchOption}
use Rattle.spf_ast.specs.Syntax.{Program}
use Rattle.spf_ast.specs.Construct.{Construct}
use Rattle.spf_region.specs.declared.range.Range.{Range}
use Rattle.spf_check_rules.specs.Rules.{KeepsTheRules}
use Rattle.spf_ast_lemmas.proofs.Members.{cases}
use Rattle.spf_check.specs.declared.breach.Breach.{Breach}
use Rattle.spf_check.specs.declared.construct.ConstructEffects.{ConstructEffects}
use Rattle.spf_check.specs.declared.rule.Rule.{Rule}
use Rattle.spf_check.specs.declared.rule.Rule.TheVariants.{OuterAssign, EmitInside, PredictorWrites, Overlap, PredictorReads, ReadBeforeWrite, NotOverwritten}
use Rattle.spf_check.specs.Accepting.{Keeps, rule_number, IsLowestBroken}
use Rattle.spf_check.specs.Breaches.{breach, this_or, first_broken, all_rules}
use Rattle.spf_check.specs.Parts.{AreEffectsOf, AreNormal}
use Rattle.spf_check.proofs.Breaking.{Said, said}

-- a rule by its number
abbrev rule_of : ℕ → Rule
rule_of zero = OuterAssign
rule_of (suc zero) = OuterAssign
rule_of (suc (suc zero)) = EmitInside
rule_of (suc (suc (suc zero))) = PredictorWrites
rule_of (suc (suc (suc (suc zero)))) = Overlap
rule_of (suc (suc (suc (suc (suc zero))))) = PredictorReads
rule_of (suc (suc (suc (suc (suc (suc zero)))))) = ReadBeforeWrite
rule_of (suc (suc (suc (suc (suc (suc (suc n))))))) = NotOverwritten

rule-is : (rule : Rule) → rule_of (rule_number rule) ≡ rule
rule-is OuterAssign = refl
rule-is EmitInside = refl
rule-is PredictorWrites = refl
rule-is Overlap = refl
rule-is PredictorReads = refl
rule-is ReadBeforeWrite = refl
rule-is NotOverwritten = refl

pub rule-by-number : (rule other : Rule) → rule_number rule ≡ rule_number other → rule ≡ other
rule-by-number rule other e = sym (rule-is rule) ∙ ap rule_of e ∙ rule-is other

-- the rules below a number are kept
abbrev KeptBelow : Program → Construct → ℕ → Type 0
KeptBelow p k n = (other : Rule) → rule_number other < n → Keeps p k other

kept-next : (p : Program) (k : Construct) (rule : Rule) → KeptBelow p k (rule_number rule) → Keeps p k rule → KeptBelow p k (suc (rule_number rule))
kept-next p k rule below kept other h =
    cases (last-or-before (rule_number other) (rule_number rule) h) (λ e. subst (Keeps p k) (rule-by-number rule other (sym e)) kept) (below other)
  where
    last-or-before : (x n : ℕ) → x < suc n → (x ≡ n) ⊎ (x < n)
    last-or-before x n h = grind (arith, h)

none-below : (p : Program) (k : Construct) → KeptBelow p k 1
none-below p k OuterAssign h = absurd (omega (arith, h))
none-below p k EmitInside h = absurd (omega (arith, h))
none-below p k PredictorWrites h = absurd (omega (arith, h))
none-below p k Overlap h = absurd (omega (arith, h))
none-below p k PredictorReads h = absurd (omega (arith, h))
none-below p k ReadBeforeWrite h = absurd (omega (arith, h))
none-below p k NotOverwritten h = absurd (omega (arith, h))

all-kept : (p : Program) (k : Construct) → KeptBelow p k 8 → KeepsTheRules p k
all-kept p k h = record {
  assigns_no_outer = h OuterAssign (omega arith);
  emits_nothing = h EmitInside (omega arith);
  predictor_writes_nothing = h PredictorWrites (omega arith);
  writes_apart = h Overlap (omega arith);
  predictor_reads_unwritten = h PredictorReads (omega arith);
  reads_after_writing = h ReadBeforeWrite (omega arith);
  writes_all = h NotOverwritten (omega arith);
}

-- what a search from the first rule on finds
abbrev pub Lowest : Program → Construct → Option (Rule × Option Range) → Type 0
Lowest p k o = MatchOption o (KeepsTheRules p k) (λ broken. IsLowestBroken p k broken.0 broken.1)

-- one rule, where those below it are kept
this-one : (p : Program) (k : Construct) (rule : Rule) (b : Option Breach) (further : Option (Rule × Option Range)) → Said p k rule b → KeptBelow p k (rule_number rule) → (KeptBelow p k (suc (rule_number rule)) → Lowest p k further) → Lowest p k (this_or rule b further)
this-one p k rule None further s below next = next (kept-next p k rule below s)
this-one p k rule (Some b) further s below next = record { breaks = s.0; lower = below; names = s.1 }

pub lowest : (p : Program) (k : Construct) (c : ConstructEffects) → AreNormal c → AreEffectsOf p k c → Lowest p k (first_broken c all_rules)
lowest p k c n are =
    this-one p k OuterAssign (breach c OuterAssign) _ (said p k c n are OuterAssign) (none-below p k)
    (λ b. this-one p k EmitInside (breach c EmitInside) _ (said p k c n are EmitInside) b
    (λ b. this-one p k PredictorWrites (breach c PredictorWrites) _ (said p k c n are PredictorWrites) b
    (λ b. this-one p k Overlap (breach c Overlap) _ (said p k c n are Overlap) b
    (λ b. this-one p k PredictorReads (breach c PredictorReads) _ (said p k c n are PredictorReads) b
    (λ b. this-one p k ReadBeforeWrite (breach c ReadBeforeWrite) _ (said p k c n are ReadBeforeWrite) b
    (λ b. this-one p k NotOverwritten (breach c NotOverwritten) _ (said p k c n are NotOverwritten) b
    (λ b. all-kept p k b)))))))
