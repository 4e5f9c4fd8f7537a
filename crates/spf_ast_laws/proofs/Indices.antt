-- Where the top constructs of a lawful program stand, and that a part declares its slots anew.
use Rattle.std.proofs.Common.{◌≡◌, ◌<◌, ℕ, zero, suc, true, false, inl, inr, List, [], length, refl, arith}
use Rattle.std.specs.Prelude.{Some, ◌==◌, slice_get}
use Rattle.std.specs.List.{Contains}
use Rattle.std.proofs.lemmas.List.Elements.{Contains-append_cases}
use Rattle.spf_ast.specs.declared.syntax.Part.{Part}
use Rattle.spf_ast.specs.declared.syntax.Part.TheVariants.{Body, Producer, Consumer, Predictor}
use Rattle.spf_ast.specs.Interaction.{Performed, Ended, Stopped, Misfit, Ending, Value, Trapped}
use Rattle.spf_ast.specs.Syntax.{Statement, Let, Assign, Store, Fill, Emit, Fail, If, For, While, Do, Fold, Pair, Break, FoldHead, PairHead, Block, end, on_line}
use Rattle.spf_ast.specs.Construct.{Construct, fold, pair, construct_of, constructs_in}
use Rattle.spf_ast.specs.Program.{extents_of}
use Rattle.spf_ast.specs.Slots.{part_declares, declares, statement_declares, is_among}
use Rattle.spf_ast.specs.Lawful.{Names, names_at, Scope, nothing_declared, IsLawfulStatement, IsLawfulBlock, scope_after}
use Rattle.spf_ast_laws.specs.Agreement.{LookAlike, GoAlike, HaveOneOutput, PartsSeeVisibleSlots, PartsDeclareAnew}
use Rattle.spf_ast_laws.specs.Keeping.{AreDeclared, ConstructsStandInMain}
use Rattle.spf_ast_lemmas.proofs.Bools.{neither, either_fails}
use Rattle.spf_ast_laws.proofs.Slots.{cons_cases}
use Rattle.spf_ast_laws.proofs.Keeping.{each-next}
use Rattle.spf_ast_laws.proofs.Chains.{is-statement}
use Rattle.spf_ast_laws.proofs.SelfContained.{statement-new}

-- what is declared stays declared
next-grows : (scope : Scope) (s : Statement) → AreDeclared scope → (slot : ℕ) → Contains scope.visible slot → slot < (scope_after scope s).next
next-grows scope s d slot c = let below = d slot c in omega (arith, below)

pub declared-after : (names : Names) (scope : Scope) (s : Statement) → IsLawfulStatement names true scope s → AreDeclared scope → AreDeclared (scope_after scope s)
declared-after names scope (Let slot value) l d k c = elim (cons_cases slot scope.visible k c) [ inl e ↦ (let next = l.1.0 in omega (arith, e, next)) | inr h ↦ next-grows scope (Let slot value) d k h ]
declared-after names scope (Fold head body) l d k c = elim (Contains-append_cases head.carried scope.visible k c) [ inl i ↦ (let below = each-next names scope head.carried l.3 k i in omega (arith, below)) | inr h ↦ next-grows scope (Fold head body) d k h ]
declared-after names scope (Pair head producer consumer) l d k c = elim (Contains-append_cases head.carried scope.visible k c) [ inl i ↦ (let below = each-next names scope head.carried l.0 k i in omega (arith, below)) | inr h ↦ next-grows scope (Pair head producer consumer) d k h ]
declared-after names scope (Assign slot value) l d k c = next-grows scope (Assign slot value) d k c
declared-after names scope (Store array index value) l d k c = next-grows scope (Store array index value) d k c
declared-after names scope (Fill array low high value) l d k c = next-grows scope (Fill array low high value) d k c
declared-after names scope (Emit value) l d k c = next-grows scope (Emit value) d k c
declared-after names scope (Fail number) l d k c = next-grows scope (Fail number) d k c
declared-after names scope (If test a b) l d k c = next-grows scope (If test a b) d k c
declared-after names scope (For slot low high body) l d k c = next-grows scope (For slot low high body) d k c
declared-after names scope (While test most body) l d k c = next-grows scope (While test most body) d k c
declared-after names scope (Do f given) l d k c = next-grows scope (Do f given) d k c
declared-after names scope Break l d k c = next-grows scope Break d k c

-- ---- indices

-- the index of a construct of a block that begins in this scope
record Placed (names : Names) (construct : Construct) : Type 0 where
  scope : Scope
  line : ℕ
  statement : Statement
  is : construct_of line statement ≡ Some construct
  lawful : IsLawfulStatement names true scope statement
  declared : AreDeclared scope

placed : (names : Names) (scope : Scope) (b : Block) → IsLawfulBlock names true scope b → AreDeclared scope → (index : ℕ) (c : Construct) → slice_get (constructs_in b) index ≡ Some c → Placed names c
placed names scope end l d index c e = cc
placed names scope (on_line line (Fold head body) rest) l d zero c e =
    record { scope = scope; line = line; statement = Fold head body; is = e; lawful = l.0; declared = d }
placed names scope (on_line line (Pair head producer consumer) rest) l d zero c e =
    record { scope = scope; line = line; statement = Pair head producer consumer; is = e; lawful = l.0; declared = d }
placed names scope (on_line line (Fold head body) rest) l d (suc index) c e = placed names (scope_after scope (Fold head body)) rest l.1 (declared-after names scope (Fold head body) l.0 d) index c e
placed names scope (on_line line (Pair head producer consumer) rest) l d (suc index) c e = placed names (scope_after scope (Pair head producer consumer)) rest l.1 (declared-after names scope (Pair head producer consumer) l.0 d) index c e
placed names scope (on_line line (Let slot value) rest) l d index c e = placed names (scope_after scope (Let slot value)) rest l.1 (declared-after names scope (Let slot value) l.0 d) index c e
placed names scope (on_line line (Assign slot value) rest) l d index c e = placed names (scope_after scope (Assign slot value)) rest l.1 (declared-after names scope (Assign slot value) l.0 d) index c e
placed names scope (on_line line (Store array at value) rest) l d index c e = placed names (scope_after scope (Store array at value)) rest l.1 (declared-after names scope (Store array at value) l.0 d) index c e
placed names scope (on_line line (Fill array low high value) rest) l d index c e = placed names (scope_after scope (Fill array low high value)) rest l.1 (declared-after names scope (Fill array low high value) l.0 d) index c e
placed names scope (on_line line (Emit value) rest) l d index c e = placed names (scope_after scope (Emit value)) rest l.1 (declared-after names scope (Emit value) l.0 d) index c e
placed names scope (on_line line (Fail number) rest) l d index c e = placed names (scope_after scope (Fail number)) rest l.1 (declared-after names scope (Fail number) l.0 d) index c e
placed names scope (on_line line (If test a b) rest) l d index c e = placed names (scope_after scope (If test a b)) rest l.1 (declared-after names scope (If test a b) l.0 d) index c e
placed names scope (on_line line (For slot low high body) rest) l d index c e = placed names (scope_after scope (For slot low high body)) rest l.1 (declared-after names scope (For slot low high body) l.0 d) index c e
placed names scope (on_line line (While test most body) rest) l d index c e = placed names (scope_after scope (While test most body)) rest l.1 (declared-after names scope (While test most body) l.0 d) index c e
placed names scope (on_line line (Do f given) rest) l d index c e = placed names (scope_after scope (Do f given)) rest l.1 (declared-after names scope (Do f given) l.0 d) index c e
placed names scope (on_line line Break rest) l d index c e = placed names (scope_after scope Break) rest l.1 (declared-after names scope Break l.0 d) index c e

nothing-visible : AreDeclared nothing_declared
nothing-visible slot c = let inside = c.1 in omega (arith, inside)

pub stands : ConstructsStandInMain
stands p index c l e =
    let at = placed (names_at p (length p.functions) p.slots) nothing_declared p.main l.scoped.main nothing-visible index c e in
    record { scope = at.scope; line = at.line; statement = at.statement; is = at.is; lawful = at.lawful; declared = at.declared }

-- ---- parts

-- a part declares no slot that was declared before its construct
part-new : (names : Names) (scope : Scope) (line : ℕ) (s : Statement) (c : Construct) → construct_of line s ≡ Some c → IsLawfulStatement names true scope s → (part : Part) (x : ℕ) → x < scope.next → part_declares c part x ≡ false
part-new names scope line s c is l =
    is-statement line s c
    (λ t k. IsLawfulStatement names true scope t → (part : Part) (x : ℕ) → x < scope.next → part_declares k part x ≡ false)
    (λ head body l part x h. of-fold x head body (statement-new names true scope (Fold head body) l x scope.next h refl) part)
    (λ head producer consumer l part x h. of-pair x head producer consumer (statement-new names true scope (Pair head producer consumer) l x scope.next h refl) part)
    is l
  where
    of-fold : (x : ℕ) (head : FoldHead) (body : Block) → statement_declares x (Fold head body) ≡ false → (part : Part) → part_declares (fold line head body) part x ≡ false
    of-fold x head body none Body = none
    of-fold x head body none Predictor = (neither (x == head.block) (declares x body) (neither (is_among x head.carried) _ none).1).0
    of-fold x head body none Producer = refl
    of-fold x head body none Consumer = refl

    of-pair : (x : ℕ) (head : PairHead) (producer consumer : Block) → statement_declares x (Pair head producer consumer) ≡ false → (part : Part) → part_declares (pair line head producer consumer) part x ≡ false
    of-pair x head producer consumer none Producer = (neither (declares x producer) (declares x consumer) (neither (is_among x head.carried) _ none).1).0
    of-pair x head producer consumer none Consumer =
        let first = neither (is_among x head.carried) _ none in
        either_fails (is_among x head.carried) (declares x consumer) first.0 (neither (declares x producer) (declares x consumer) first.1).1
    of-pair x head producer consumer none Body = refl
    of-pair x head producer consumer none Predictor = refl

-- where two performances go alike, their outputs are the same at a value
outputs : {A : Type 0} (visible : List ℕ) (one other : Performed (Ending A)) → GoAlike (LookAlike visible) one other → GoAlike HaveOneOutput one other
outputs visible (Ended (Value a s) r) (Ended (Value b t) q) h = ((h.0.0, h.0.1.agree.output), h.1)
outputs visible (Ended (Trapped x o) r) (Ended (Trapped y q) t) h = h
outputs visible (Ended (Value a s) r) (Ended (Trapped y q) t) h = h
outputs visible (Ended (Trapped x o) r) (Ended (Value b t) q) h = h
outputs visible (Stopped n r) (Stopped k q) h = h
outputs visible Misfit Misfit h = h
outputs visible (Ended a r) (Stopped k q) h = absurd h
outputs visible (Ended a r) Misfit h = absurd h
outputs visible (Stopped n r) (Ended b q) h = absurd h
outputs visible (Stopped n r) Misfit h = absurd h
outputs visible Misfit (Ended b q) h = absurd h
outputs visible Misfit (Stopped k q) h = absurd h

pub anew : PartsSeeVisibleSlots → PartsDeclareAnew
anew see p index c l e part input number carried one other agree shared memory stop events =
    let at = stands p index c l e in
    outputs at.scope.visible _ _
    (see (names_at p (length p.functions) p.slots) at.scope at.line at.statement c at.is at.lawful
    input (extents_of p (length input)) p.functions (length p.functions) part number carried
    (record { slots = one; output = [] }) (record { slots = other; output = [] })
    (record {
      agree = record {
        slots = λ slot shown. agree.slots slot (part-new (names_at p (length p.functions) p.slots) at.scope at.line at.statement c at.is at.lawful part slot (at.declared slot shown));
        output = refl;
      };
      slot_count = agree.slot_count;
    })
    shared memory stop events)
