-- Each program is accepted or has a first refusal, and has an explanation.
use Rattle.std.proofs.Common.{◌≡◌, ◌⊎◌, inl, inr, ℕ, zero, suc, ◌+◌, ◌<◌, List, [], ◌∷◌, ◌++◌, length, Option, Some, None, refl, sym, ap, ◌∙◌, subst, arith, codes}
use Rattle.std.specs.Prelude.{slice_get}
use Rattle.spf_ast.specs.declared.syntax.Part.TheVariants.{Body, Producer, Consumer, Predictor}
use Rattle.spf_ast.specs.Syntax.{Program}
use Rattle.spf_ast.specs.Construct.{Construct, fold, pair, constructs_in}
use Rattle.spf_region.specs.declared.range.Range.{Range}
use Rattle.spf_effects.specs.Laws.{EffectsHaveLists}
use Rattle.spf_check_rules.specs.Rules.{KeepsTheRules}
use Rattle.spf_ast_lemmas.proofs.Members.{cases, some_is}
use Rattle.spf_ast_lemmas.proofs.Indices.{at-index, last_or_before}
use Rattle.spf_check.specs.declared.construct.ConstructEffects.{ConstructEffects}
use Rattle.spf_check.specs.declared.rule.Rule.{Rule}
use Rattle.spf_check.specs.Accepting.{IsAccepted, IsLowestBroken, line_of}
use Rattle.spf_check.specs.Breaches.{first_broken, all_rules}
use Rattle.spf_check.specs.Laws.{IsRefused}
use Rattle.spf_check.specs.Parts.{AreEffectsOf, AreNormal}
use Rattle.spf_check.specs.Text.{joined, construct_line, broken_line, IsVerdictText, IsConstructText, AreConstructTexts}
use Rattle.spf_check.specs.Explained.{parts_lines}
use Rattle.spf_check.specs.Explaining.{Explains}
use Rattle.spf_check.proofs.Lowest.{Lowest, lowest}
use Rattle.spf_check.proofs.Examining.{KeptBefore, all-kept, first-refused}
use Rattle.spf_check.proofs.Explained.{construct-text}

-- ---- one construct

-- the effects of the parts of a construct, in lists
pub record Examined (p : Program) (k : Construct) : Type 0 where
  pub effects : ConstructEffects
  pub are : AreEffectsOf p k effects
  pub normal : AreNormal effects

examined : EffectsHaveLists → (p : Program) (k : Construct) → Examined p k
examined lists p (fold line head body) =
    let b = lists p (fold line head body) Body in
    let g = lists p (fold line head body) Predictor in
    record {
      effects = record { guessed = b.effects; predictor = g.effects; producer = None };
      are = record { guessed = b.are; predictor = g.are; producer = tt };
      normal = record { bare = b.uncovered_normal; may = b.may_normal; must = b.must_normal; guess_bare = g.uncovered_normal; guess_may = g.may_normal; guess_must = g.must_normal; producer = tt };
    }
examined lists p (pair line head producer consumer) =
    let b = lists p (pair line head producer consumer) Consumer in
    let g = lists p (pair line head producer consumer) Predictor in
    let m = lists p (pair line head producer consumer) Producer in
    record {
      effects = record { guessed = b.effects; predictor = g.effects; producer = Some m.effects };
      are = record { guessed = b.are; predictor = g.are; producer = m.are };
      normal = record { bare = b.uncovered_normal; may = b.may_normal; must = b.must_normal; guess_bare = g.uncovered_normal; guess_may = g.may_normal; guess_must = g.must_normal; producer = (m.may_normal, m.uncovered_normal, m.must_normal) };
    }

-- a construct keeps the rules, or there is a lowest that it breaks
abbrev Ruled : Program → Construct → Type 0
Ruled p k = KeepsTheRules p k ⊎ ((rule : Rule) × (range : Option Range) × IsLowestBroken p k rule range)

by-lowest : (p : Program) (k : Construct) (o : Option (Rule × Option Range)) → Lowest p k o → Ruled p k
by-lowest p k None h = inl h
by-lowest p k (Some broken) h = inr (broken.0, broken.1, h)

ruled : EffectsHaveLists → (p : Program) (k : Construct) → Ruled p k
ruled lists p k = let x = examined lists p k in by-lowest p k (first_broken x.effects all_rules) (lowest p k x.effects x.normal x.are)

-- ---- all constructs

kept-too : (p : Program) (n : ℕ) (k : Construct) → slice_get (constructs_in p.main) n ≡ Some k → KeptBefore p n → KeepsTheRules p k → KeptBefore p (n + 1)
kept-too p n k is before kept number other h at =
    cases (last_or_before number n h)
    (λ e. subst (KeepsTheRules p) (some_is k other (sym is ∙ ap (slice_get (constructs_in p.main)) (sym e) ∙ at)) kept)
    (λ l. before number other l at)

from-index : EffectsHaveLists → (p : Program) (left n : ℕ) → n + left ≡ length (constructs_in p.main) → KeptBefore p n → IsAccepted p ⊎ IsRefused p
from-index lists p zero n e before = let same : n ≡ length (constructs_in p.main) = omega (arith, e) in inl (all-kept p (subst (KeptBefore p) same before))
from-index lists p (suc left) n e before = go (λ kept. from-index lists p left (n + 1) (omega (arith, e)) (kept-too p n here.0 here.1 before kept)) (ruled lists p here.0)
  where
    within : n < length (constructs_in p.main)
    within = omega (arith, e)

    here : (k : Construct) × (slice_get (constructs_in p.main) n ≡ Some k)
    here = at-index (constructs_in p.main) n within

    go : (KeepsTheRules p here.0 → IsAccepted p ⊎ IsRefused p) → Ruled p here.0 → IsAccepted p ⊎ IsRefused p
    go further (inl kept) = further kept
    go further (inr broken) = inr (
      broken.0,
      line_of here.0,
      broken.1,
      first-refused p n broken.0 (line_of here.0) broken.1 within before
          (λ k is. let same = some_is here.0 k (sym here.1 ∙ is) in (subst (λ c. IsLowestBroken p c broken.0 broken.1) same broken.2, ap line_of same)),
    )

pub accepted-or-refused : EffectsHaveLists → (p : Program) → IsAccepted p ⊎ IsRefused p
accepted-or-refused lists p = from-index lists p (length (constructs_in p.main)) 0 (omega arith) (λ number k h is. absurd (omega (arith, h)))

-- ---- explanations

verdict-text : (p : Program) (k : Construct) → Ruled p k → (text : List ℕ) × IsVerdictText p k text
verdict-text p k (inl kept) = (codes "verdict accepted\n", inl (kept, refl))
verdict-text p k (inr broken) = (broken_line p.arrays broken.0 broken.1, inr (broken.0, broken.1, broken.2, refl))

construct-lines : EffectsHaveLists → (p : Program) (k : Construct) → (text : List ℕ) × IsConstructText p k text
construct-lines lists p k =
    let x = examined lists p k in
    let v = verdict-text p k (ruled lists p k) in
    (joined (construct_line k ∷ parts_lines p.arrays x.effects ∷ v.0 ∷ []), construct-text p k x.effects v.0 x.normal x.are v.1)

texts : EffectsHaveLists → (p : Program) (ks : List Construct) → (text : List ℕ) × AreConstructTexts p ks text
texts lists p [] = ([], refl)
texts lists p (k ∷ ks) =
    let first = construct-lines lists p k in
    let others = texts lists p ks in
    (first.0 ++ others.0, (first.0, others.0, first.1, others.1, refl))

pub explained : EffectsHaveLists → (p : Program) → (text : List ℕ) × Explains p text
explained lists p = texts lists p (constructs_in p.main)
