-- What is known of the constructs that have been examined.
use Rattle.std.proofs.Common.{◌≡◌, ℕ, zero, suc, ◌+◌, ◌<◌, List, [], ◌∷◌, ◌++◌, length, map, get_or, Option, Some, refl, sym, ap, ◌∙◌, subst, arith}
use Rattle.std.specs.Prelude.{slice_get}
use Rattle.spf_ast.specs.Syntax.{Program}
use Rattle.spf_ast.specs.declared.construct.ConstructKind.{ConstructKind}
use Rattle.spf_ast.specs.declared.construct.ConstructKind.TheVariants as code
use Rattle.spf_ast.specs.Construct.{Construct, constructs_in}
use Rattle.spf_ast.specs.declared.construct.TopConstruct.{TopConstruct}
use Rattle.spf_ast.specs.ConstructView.{construct, construct_on}
use Rattle.spf_region.specs.declared.range.Range.{Range}
use Rattle.spf_check_rules.specs.Rules.{KeepsTheRules}
use Rattle.spf_ast_lemmas.proofs.Members.{cases, some_is}
use Rattle.spf_ast_lemmas.proofs.Indices.{at-index, index-within, last-index, earlier-index, last_or_before}
use Rattle.spf_check.specs.declared.checked.Writes.{Writes}
use Rattle.spf_check.specs.declared.check.Examined.TheVariants as examined
use Rattle.spf_check.specs.declared.rule.Rule.{Rule}
use Rattle.spf_check.specs.declared.rule.Rule.TheVariants.{OuterAssign, EmitInside, PredictorWrites, Overlap, PredictorReads, ReadBeforeWrite, NotOverwritten}
use Rattle.spf_check.specs.Accepting.{IsAccepted, IsLowestBroken, IsFirstRefusal, Keeps, line_of}
use Rattle.spf_check.specs.Verdicts.{IsExamined, AreWritesOf, AreWritesBefore}

-- the line of a construct to which the code refers
pub construct-line : (line : ℕ) (kind : ConstructKind) → line ≡ line_of (construct_on line kind)
construct-line line (code.Fold f) = refl
construct-line line (code.Pair f) = refl

-- ---- one more construct

abbrev pub KeptBefore : Program → ℕ → Type 0
KeptBefore p count = (number : ℕ) (k : Construct) → number < count → slice_get (constructs_in p.main) number ≡ Some k → KeepsTheRules p k

pub one-more-kept : (p : Program) (count : ℕ) (w : Writes) → KeptBefore p count → ((k : Construct) → slice_get (constructs_in p.main) count ≡ Some k → IsExamined p k (examined.Accepted w)) → KeptBefore p (count + 1)
one-more-kept p count w kept this number k h is =
    cases (last_or_before number count h) (λ e. (this k (subst (λ n. slice_get (constructs_in p.main) n ≡ Some k) e is)).0) (λ l. kept number k l is)

pub one-more-written : (p : Program) (count : ℕ) (writes : List Writes) (w : Writes) → length writes ≡ count → AreWritesBefore p count writes → ((k : Construct) → slice_get (constructs_in p.main) count ≡ Some k → IsExamined p k (examined.Accepted w)) → AreWritesBefore p (count + 1) (writes ++ w ∷ [])
one-more-written p count writes w long before this number k h is = cases (last_or_before number count h) here earlier
  where
    here : number ≡ count → (v : Writes) × (slice_get (writes ++ w ∷ []) number ≡ Some v) × AreWritesOf p k v
    here e = (
      w,
      ap (slice_get (writes ++ w ∷ [])) (e ∙ sym long) ∙ last-index writes w,
      (this k (subst (λ n. slice_get (constructs_in p.main) n ≡ Some k) e is)).1,
    )

    earlier : number < count → (v : Writes) × (slice_get (writes ++ w ∷ []) number ≡ Some v) × AreWritesOf p k v
    earlier l = let b = before number k l is in (b.0, earlier-index writes (w ∷ []) number (omega (arith, l, long)) ∙ b.1, b.2)

pub all-kept : (p : Program) → KeptBefore p (length (constructs_in p.main)) → IsAccepted p
all-kept p kept number k is = kept number k (index-within (constructs_in p.main) number k is) is

-- the first one that isn't kept
pub first-refused : (p : Program) (number : ℕ) (rule : Rule) (line : ℕ) (range : Option Range) → number < length (constructs_in p.main) → KeptBefore p number → ((k : Construct) → slice_get (constructs_in p.main) number ≡ Some k → IsLowestBroken p k rule range × (line ≡ line_of k)) → IsFirstRefusal p rule line range
first-refused p number rule line range h kept this =
    let k = at-index (constructs_in p.main) number h in
    let said = this k.0 k.1 in
    record { number = number; construct = k.0; stands = k.1; line_is = said.1; lowest = said.0; before = λ other earlier l is. kept other earlier l is }

pub keeps-rule : (p : Program) (k : Construct) (rule : Rule) → KeepsTheRules p k → Keeps p k rule
keeps-rule p k OuterAssign h = h.assigns_no_outer
keeps-rule p k EmitInside h = h.emits_nothing
keeps-rule p k PredictorWrites h = h.predictor_writes_nothing
keeps-rule p k Overlap h = h.writes_apart
keeps-rule p k PredictorReads h = h.predictor_reads_unwritten
keeps-rule p k ReadBeforeWrite h = h.reads_after_writing
keeps-rule p k NotOverwritten h = h.writes_all

-- a program with a refusal isn't accepted
pub refused-not-accepted : (p : Program) (rule : Rule) (line : ℕ) (range : Option Range) → IsFirstRefusal p rule line range → IsAccepted p → ⊥
refused-not-accepted p rule line range r accepted = r.lowest.breaks (keeps-rule p r.construct rule (accepted r.number r.construct r.stands))

-- ---- constructs that were found

get-mapped : (xs : List TopConstruct) (i : ℕ) (x : TopConstruct) → i < length xs → x ≡ get_or xs i x → slice_get (map construct xs) i ≡ Some (construct x)
get-mapped [] i x h e = absurd (omega (arith, h))
get-mapped (y ∷ xs) zero x h e = ap (λ z. Some (construct z)) (sym e)
get-mapped (y ∷ xs) (suc i) x h e = get-mapped xs i x (omega (arith, h)) e

-- what is known of the construct at an index is known of whatever construct has its number
pub of-this : (P : Construct → Type 0) (all : List Construct) (xs : List TopConstruct) (i : ℕ) (x : TopConstruct) → map construct xs ≡ all → i < length xs → x ≡ get_or xs i x → P (construct x) → (k : Construct) → slice_get all i ≡ Some k → P k
of-this P all xs i x same h e holds k is =
    subst P (some_is (construct x) k (sym (get-mapped xs i x h e) ∙ ap (λ l. slice_get l i) same ∙ is)) holds

map-length : (xs : List TopConstruct) → length (map construct xs) ≡ length xs
map-length [] = refl
map-length (x ∷ xs) = ap suc (map-length xs)

-- there are as many as were found
pub as-many : (all : List Construct) (xs : List TopConstruct) → map construct xs ≡ all → length xs ≡ length all
as-many all xs same = sym (map-length xs) ∙ ap length same
