-- What the lines of a construct say, and that a program has one explanation.
use Rattle.std.proofs.Common.{◌≡◌, inl, inr, ℕ, zero, suc, ◌+◌, List, [], ◌∷◌, ◌++◌, take, Option, Some, None, refl, sym, ap, ◌∙◌, subst, append_assoc, add-one}
use Rattle.std.specs.Prelude.{slice_get, MatchOption, Result, Ok, Err, IfOk}
use Rattle.std.proofs.lemmas.List.{append-nil}
use Rattle.spf_ast.specs.declared.syntax.Part.{Part}
use Rattle.spf_ast.specs.declared.syntax.Part.TheVariants.{Body, Producer, Consumer, Predictor}
use Rattle.spf_ast.specs.Syntax.{Program}
use Rattle.spf_ast.specs.Construct.{Construct, fold, pair, constructs_in}
use Rattle.spf_region.specs.declared.range.Range.{Range}
use Rattle.spf_region.specs.Ranges.{IsNormal}
use Rattle.spf_region.proofs.Canonical.{one-form}
use Rattle.spf_effects.specs.declared.effects.Effects.{Effects}
use Rattle.spf_effects.specs.Effects.{AreEffects}
use Rattle.spf_effects_findings.specs.Parts.{part_effects}
use Rattle.spf_check_rules.specs.Rules.{guessed_part}
use Rattle.spf_check.specs.declared.construct.ConstructEffects.{ConstructEffects}
use Rattle.spf_check.specs.Accepting.{IsNormalFormOf}
use Rattle.spf_check.specs.Parts.{AreEffectsOf, IsProducerOf, AreNormal}
use Rattle.spf_check.specs.Text.{joined, part_lines, parts_of, broken_line, construct_line, IsPartText, IsVerdictText, ArePartTexts, IsConstructText, AreConstructTexts}
use Rattle.spf_check.specs.Explained.{effects_lines, lines_with, parts_lines}
use Rattle.spf_check.specs.Explaining.{Explains}
use Rattle.spf_check.proofs.Unique.{one-lowest}
use Rattle.spf_check.proofs.Examining.{keeps-rule}

-- ---- what the lines say

part-text : (p : Program) (k : Construct) (part : Part) (e : Effects) → AreEffects (part_effects p k part) e → IsNormal e.uncovered → IsNormal e.may → IsNormal e.must → IsPartText p k part (effects_lines p.arrays part e)
part-text p k part e h u m s = record {
  uncovered = e.uncovered;
  may = e.may;
  must = e.must;
  uncovered_is = record { is_normal = u; offsets = h.uncovered; wholes = h.uncovered_wholes };
  may_is = record { is_normal = m; offsets = h.may; wholes = h.may_wholes };
  must_normal = s;
  must_offsets = h.must;
  must_wholes = h.must_wholes;
  text_is = refl;
}

pub parts-text : (p : Program) (k : Construct) (c : ConstructEffects) → AreNormal c → AreEffectsOf p k c → ArePartTexts p k (parts_of k) (parts_lines p.arrays c)
parts-text p k c n are = go k c.producer n.producer are.guessed are.predictor are.producer
  where
    go : (k : Construct) (o : Option Effects) → MatchOption o (Unit {0}) (λ e. IsNormal e.may × IsNormal e.uncovered × IsNormal e.must) → AreEffects (part_effects p k (guessed_part k)) c.guessed → AreEffects (part_effects p k Predictor) c.predictor → IsProducerOf p k o → ArePartTexts p k (parts_of k) (lines_with p.arrays c.guessed c.predictor o)
    go (fold line head body) None m g q is = (
      effects_lines p.arrays Predictor c.predictor,
      joined (effects_lines p.arrays Body c.guessed ∷ []),
      part-text p (fold line head body) Predictor c.predictor q n.guess_bare n.guess_may n.guess_must,
      (effects_lines p.arrays Body c.guessed, [], part-text p (fold line head body) Body c.guessed g n.bare n.may n.must, refl, refl),
      refl,
    )
    go (fold line head body) (Some e) m g q is = absurd is
    go (pair line head producer consumer) None m g q is = absurd is
    go (pair line head producer consumer) (Some e) m g q is = (
      effects_lines p.arrays Producer e,
      joined (effects_lines p.arrays Predictor c.predictor ∷ effects_lines p.arrays Consumer c.guessed ∷ []),
      part-text p (pair line head producer consumer) Producer e is m.1 m.0 m.2,
      (
        effects_lines p.arrays Predictor c.predictor,
        joined (effects_lines p.arrays Consumer c.guessed ∷ []),
        part-text p (pair line head producer consumer) Predictor c.predictor q n.guess_bare n.guess_may n.guess_must,
        (effects_lines p.arrays Consumer c.guessed, [], part-text p (pair line head producer consumer) Consumer c.guessed g n.bare n.may n.must, refl, refl),
        refl,
      ),
      refl,
    )

-- the lines of a construct, put together
pub construct-text : (p : Program) (k : Construct) (c : ConstructEffects) (verdict : List ℕ) → AreNormal c → AreEffectsOf p k c → IsVerdictText p k verdict → IsConstructText p k (joined (construct_line k ∷ parts_lines p.arrays c ∷ verdict ∷ []))
construct-text p k c verdict n are v =
    record { parts = parts_lines p.arrays c; verdict = verdict; parts_are = parts-text p k c n are; verdict_is = v; text_is = refl }

-- three pieces after a text
pub three-pieces : (t u v w a b c : List ℕ) → u ≡ t ++ a → v ≡ u ++ b → w ≡ v ++ c → w ≡ t ++ joined (a ∷ b ∷ c ∷ [])
three-pieces t u v w a b c e f g =
    g ∙ ap (λ x. x ++ c) (f ∙ ap (λ x. x ++ b) e)
    ∙ append_assoc (t ++ a) b c ∙ append_assoc t a (b ++ c) ∙ ap (λ x. t ++ (a ++ (b ++ x))) (sym (append-nil c))

-- ---- several constructs

pub one-more-text : (p : Program) (ks : List Construct) (k : Construct) (t l : List ℕ) → AreConstructTexts p ks t → IsConstructText p k l → AreConstructTexts p (ks ++ k ∷ []) (t ++ l)
one-more-text p [] k t l h is = (l, [], is, refl, ap (λ x. x ++ l) h ∙ sym (append-nil l))
one-more-text p (j ∷ ks) k t l (first, others, is-first, are, e) is =
    (first, others ++ l, is-first, one-more-text p ks k others l are is, ap (λ x. x ++ l) e ∙ append_assoc first others l)

take-next : {A : Type 0} (xs : List A) (n : ℕ) (x : A) → slice_get xs n ≡ Some x → take (suc n) xs ≡ take n xs ++ x ∷ []
take-next [] n x e = cc
take-next {A} (y ∷ xs) zero x e = ap (λ z. z ∷ []) (same y x e)
  where
    same : (y x : A) → Some y ≡ Some x → y ≡ x
    same y x e = cc
take-next (y ∷ xs) (suc n) x e = ap (λ l. y ∷ l) (take-next xs n x e)

pub take-more : {A : Type 0} (xs : List A) (n : ℕ) (x : A) → slice_get xs n ≡ Some x → take (n + 1) xs ≡ take n xs ++ x ∷ []
take-more xs n x e = ap (λ m. take m xs) (add-one n) ∙ take-next xs n x e

-- the lines of a construct after a text, where its verdict was added
pub construct-added : {E : Type 0} (result : Result (Unit {0}) E) (p : Program) (k : Construct) (c : ConstructEffects) (t u v w : List ℕ) → AreNormal c → AreEffectsOf p k c → u ≡ t ++ construct_line k → v ≡ u ++ parts_lines p.arrays c → IfOk result (λ _. (verdict : List ℕ) × IsVerdictText p k verdict × (w ≡ v ++ verdict)) → IfOk result (λ _. (lines : List ℕ) × IsConstructText p k lines × (w ≡ t ++ lines))
construct-added (Ok x) p k c t u v w n are e f (verdict, said, g) =
    (joined (construct_line k ∷ parts_lines p.arrays c ∷ verdict ∷ []), construct-text p k c verdict n are said, three-pieces t u v w _ _ verdict e f g)
construct-added (Err x) p k c t u v w n are e f h = tt

-- the texts of one more construct
pub texts-grow : (p : Program) (n : ℕ) (k : Construct) (t w : List ℕ) → slice_get (constructs_in p.main) n ≡ Some k → AreConstructTexts p (take n (constructs_in p.main)) t → (lines : List ℕ) × IsConstructText p k lines × (w ≡ t ++ lines) → AreConstructTexts p (take (n + 1) (constructs_in p.main)) w
texts-grow p n k t w is before (lines, this, e) =
    subst (λ ks. AreConstructTexts p ks w) (sym (take-more (constructs_in p.main) n k is))
    (subst (AreConstructTexts p (take n (constructs_in p.main) ++ k ∷ [])) (sym e) (one-more-text p (take n (constructs_in p.main)) k t lines before this))

-- ---- one explanation

same-form : (list xs ys : List Range) → IsNormalFormOf list xs → IsNormalFormOf list ys → xs ≡ ys
same-form list xs ys a b = one-form xs ys a.is_normal b.is_normal (a.offsets ∙ sym b.offsets) (a.wholes ∙ sym b.wholes)

one-part : (p : Program) (k : Construct) (part : Part) (a b : List ℕ) → IsPartText p k part a → IsPartText p k part b → a ≡ b
one-part p k part a b x y =
    let u = same-form _ x.uncovered y.uncovered x.uncovered_is y.uncovered_is in
    let m = same-form _ x.may y.may x.may_is y.may_is in
    let s = one-form x.must y.must x.must_normal y.must_normal (x.must_offsets ∙ sym y.must_offsets) (λ i array. (x.must_wholes array ∙ sym (y.must_wholes array)) i) in
    x.text_is ∙ (λ i. part_lines p.arrays part (u i) (m i) (s i)) ∙ sym y.text_is

one-parts : (p : Program) (k : Construct) (parts : List Part) (a b : List ℕ) → ArePartTexts p k parts a → ArePartTexts p k parts b → a ≡ b
one-parts p k [] a b x y = x ∙ sym y
one-parts p k (part ∷ rest) a b (f, o, is, are, e) (g, q, is', are', e') =
    e ∙ (λ i. one-part p k part f g is is' i ++ one-parts p k rest o q are are' i) ∙ sym e'

one-verdict : (p : Program) (k : Construct) (a b : List ℕ) → IsVerdictText p k a → IsVerdictText p k b → a ≡ b
one-verdict p k a b (inl (kept, e)) (inl (kept', e')) = e ∙ sym e'
one-verdict p k a b (inl (kept, e)) (inr (rule, range, low, e')) = absurd (low.breaks (keeps-rule p k rule kept))
one-verdict p k a b (inr (rule, range, low, e)) (inl (kept, e')) = absurd (low.breaks (keeps-rule p k rule kept))
one-verdict p k a b (inr (rule, range, low, e)) (inr (rule', range', low', e')) =
    let same = one-lowest p k rule rule' range range' low low' in
    e ∙ (λ i. broken_line p.arrays (same.0 i) (same.1 i)) ∙ sym e'

one-construct : (p : Program) (k : Construct) (a b : List ℕ) → IsConstructText p k a → IsConstructText p k b → a ≡ b
one-construct p k a b x y =
    x.text_is ∙ (λ i. joined (construct_line k ∷ one-parts p k (parts_of k) x.parts y.parts x.parts_are y.parts_are i ∷ one-verdict p k x.verdict y.verdict x.verdict_is y.verdict_is i ∷ [])) ∙ sym y.text_is

one-text : (p : Program) (ks : List Construct) (a b : List ℕ) → AreConstructTexts p ks a → AreConstructTexts p ks b → a ≡ b
one-text p [] a b x y = x ∙ sym y
one-text p (k ∷ ks) a b (f, o, is, are, e) (g, q, is', are', e') =
    e ∙ (λ i. one-construct p k f g is is' i ++ one-text p ks o q are are' i) ∙ sym e'

pub one-explanation : (p : Program) (a b : List ℕ) → Explains p a → Explains p b → a ≡ b
one-explanation p a b x y = one-text p (constructs_in p.main) a b x y
