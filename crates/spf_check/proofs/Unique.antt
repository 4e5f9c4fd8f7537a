-- A program has at most one first refusal.
use Rattle.std.proofs.Common.{◌≡◌, ◌⊎◌, inl, inr, ℕ, ◌<◌, List, [], ◌∷◌, ◌++◌, Option, Some, None, sym, ap, ◌∙◌, subst, arith, Contains}
use Rattle.std.specs.Prelude.{slice_get}
use Rattle.spf_ast.specs.Syntax.{Program}
use Rattle.spf_ast.specs.Construct.{Construct, constructs_in}
use Rattle.spf_region.specs.declared.range.Range.{Range}
use Rattle.spf_region.proofs.Canonical.{one-form}
use Rattle.spf_ast_lemmas.proofs.Members.{first-in, later-in}
use Rattle.spf_check.specs.declared.rule.Rule.{Rule}
use Rattle.spf_check.specs.declared.rule.Rule.TheVariants.{OuterAssign, EmitInside, PredictorWrites, Overlap, PredictorReads, ReadBeforeWrite, NotOverwritten}
use Rattle.spf_check.specs.Accepting.{rule_number, IsFirst, NamesFirst, Names, IsLowestBroken, IsFirstRefusal, line_of}
use Rattle.spf_check.proofs.Examining.{keeps-rule}
use Rattle.spf_check.proofs.Lowest.{rule-by-number}

-- ---- the first range

same-head : (r s : Range) (rs ss : List Range) → r ∷ rs ≡ s ∷ ss → (r ≡ s) × (rs ≡ ss)
same-head r s rs ss e = (cc, cc)

-- in two ways to part a list, each at a range that holds with none before it, the range is the same
same-part : (Holds : Range → Type 0) (bs cs : List Range) (r s : Range) (ls ms : List Range) → bs ++ r ∷ ls ≡ cs ++ s ∷ ms → Holds r → Holds s → ((x : Range) → Contains bs x → Holds x → ⊥) → ((x : Range) → Contains cs x → Holds x → ⊥) → r ≡ s
same-part Holds [] [] r s ls ms e h k p q = (same-head r s ls ms e).0
same-part Holds [] (c ∷ cs) r s ls ms e h k p q = absurd (q c (first-in c cs) (subst Holds (same-head r c ls (cs ++ s ∷ ms) e).0 h))
same-part Holds (b ∷ bs) [] r s ls ms e h k p q = absurd (p b (first-in b bs) (subst Holds (sym (same-head b s (bs ++ r ∷ ls) ms e).0) k))
same-part Holds (b ∷ bs) (c ∷ cs) r s ls ms e h k p q =
    same-part Holds bs cs r s ls ms (same-head b c (bs ++ r ∷ ls) (cs ++ s ∷ ms) e).1 h k (λ x i. p x (later-in b x bs i)) (λ x i. q x (later-in c x cs i))

same-first : (list : List Range) (Holds : Range → Type 0) (r s : Range) → IsFirst list Holds r → IsFirst list Holds s → r ≡ s
same-first list Holds r s f g =
    same-part Holds f.before g.before r s f.later g.later
    (one-form _ _ f.normal.is_normal g.normal.is_normal (f.normal.offsets ∙ sym g.normal.offsets) (f.normal.wholes ∙ sym g.normal.wholes))
    f.holds g.holds f.none_before g.none_before

same-named : (list : List Range) (Holds : Range → Type 0) (r s : Option Range) → NamesFirst list Holds r → NamesFirst list Holds s → r ≡ s
same-named list Holds None s f g = absurd f
same-named list Holds (Some r) None f g = absurd g
same-named list Holds (Some r) (Some s) f g = ap Some (same-first list Holds r s f g)

same-range : (p : Program) (k : Construct) (rule : Rule) (r s : Option Range) → Names p k rule r → Names p k rule s → r ≡ s
same-range p k OuterAssign r s f g = f ∙ sym g
same-range p k EmitInside r s f g = f ∙ sym g
same-range p k PredictorWrites r s f g = same-named _ _ r s f g
same-range p k Overlap r s f g = same-named _ _ r s f g
same-range p k PredictorReads r s f g = same-named _ _ r s f g
same-range p k ReadBeforeWrite r s f g = same-named _ _ r s f g
same-range p k NotOverwritten r s f g = same-named _ _ r s f g

-- ---- the lowest rule

three-ways : (x y : ℕ) → (x ≡ y) ⊎ (x < y) ⊎ (y < x)
three-ways x y = grind arith

same-rule : (p : Program) (k : Construct) (rule other : Rule) (r s : Option Range) → IsLowestBroken p k rule r → IsLowestBroken p k other s → rule ≡ other
same-rule p k rule other r s f g = go (three-ways (rule_number rule) (rule_number other))
  where
    go : (rule_number rule ≡ rule_number other) ⊎ (rule_number rule < rule_number other) ⊎ (rule_number other < rule_number rule) → rule ≡ other
    go (inl e) = rule-by-number rule other e
    go (inr (inl l)) = absurd (f.breaks (g.lower rule l))
    go (inr (inr l)) = absurd (g.breaks (f.lower other l))

pub one-lowest : (p : Program) (k : Construct) (rule other : Rule) (r s : Option Range) → IsLowestBroken p k rule r → IsLowestBroken p k other s → (rule ≡ other) × (r ≡ s)
one-lowest p k rule other r s f g =
    let same = same-rule p k rule other r s f g in
    (same, same-range p k other r s (subst (λ x. Names p k x r) same f.names) g.names)

-- ---- the first construct

the-same : (j k : Construct) → Some j ≡ Some k → j ≡ k
the-same j k e = cc

same-number : (p : Program) (rule rule' : Rule) (line line' : ℕ) (range range' : Option Range) (f : IsFirstRefusal p rule line range) (g : IsFirstRefusal p rule' line' range') → f.number ≡ g.number
same-number p rule rule' line line' range range' f g = go (three-ways f.number g.number)
  where
    go : (f.number ≡ g.number) ⊎ (f.number < g.number) ⊎ (g.number < f.number) → f.number ≡ g.number
    go (inl e) = e
    go (inr (inl l)) = absurd (f.lowest.breaks (keeps-rule p f.construct rule (g.before f.number f.construct l f.stands)))
    go (inr (inr l)) = absurd (g.lowest.breaks (keeps-rule p g.construct rule' (f.before g.number g.construct l g.stands)))

pub one-first-refusal : (p : Program) (rule rule' : Rule) (line line' : ℕ) (range range' : Option Range) → IsFirstRefusal p rule line range → IsFirstRefusal p rule' line' range' → (rule ≡ rule') × (line ≡ line') × (range ≡ range')
one-first-refusal p rule rule' line line' range range' f g =
    let number = same-number p rule rule' line line' range range' f g in
    let construct = the-same f.construct g.construct (sym f.stands ∙ ap (slice_get (constructs_in p.main)) number ∙ g.stands) in
    let lowest = one-lowest p g.construct rule rule' range range' (subst (λ k. IsLowestBroken p k rule range) construct f.lowest) g.lowest in
    (lowest.0, f.line_is ∙ ap line_of construct ∙ sym g.line_is, lowest.1)
