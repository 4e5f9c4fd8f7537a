-- Forms that were walked.
use Rattle.std.proofs.Common.{◌≡◌, ℕ, ◌<◌, ◌≤◌, Bool, false, List, [], ◌++◌, length, take, drop, refl, sym, ap, subst, ◌∙◌, arith}
use Rattle.std.proofs.lemmas.List.{take_all, drop_all}
use Rattle.std.proofs.Math.ListN.{length-map}
use Rattle.std.proofs.Common.{append-nil}
use Rattle.std.specs.Prelude.{Result, Ok, Err, OnOk, Some, slice_get, if◌then◌else◌}
use Rattle.spf_region.specs.declared.bound.Bound.{Bound}
use Rattle.spf_region.specs.declared.range.Range.{Range}
use Rattle.spf_region.specs.Ranges.{offsets_of, wholes_of, in_both, whole_in_both}
use Rattle.spf_ast.specs.declared.syntax.Function as code_function
use Rattle.spf_ast.specs.Syntax.{Function}
use Rattle.spf_ast.specs.View.{function, name}
use Rattle.spf_effects_walk.specs.declared.slot_sets.Slots as code
use Rattle.spf_effects_findings.specs.Extends.{Joins, Lists, Extends, KeepsCommon, IsSwept}
use Rattle.spf_effects_findings.specs.Forms.{Entered, expression_bound, bounds_at_end, block_then}
use Rattle.spf_effects_findings.specs.Found.{Finds, finds_nothing, ◌then◌, perhaps, either, Sweep, swept, has_no_turn, turns}
use Rattle.spf_effects_findings.specs.Parts.{call_before, entered, own_bounds, setting_in}
use Rattle.spf_effects_walk.specs.SlotSets.{sets_of, has_slot, no_slot, with_block}
use Rattle.spf_effects_walk.proofs.Calls.{call_of}
use Rattle.spf_effects_findings.proofs.Either.{extends_either}
use Rattle.spf_effects_walk.proofs.SlotSets.{assigned_in}
use Rattle.spf_effects_walk.proofs.Sweeping.{swept_by_none}
use Rattle.spf_effects_findings.proofs.Then.{extends_then}

-- one form, and then another that may fail
pub then_on : {A E : Type 0} (result : Result A E) (f g : Finds) (old mid new : Lists) → Extends f old mid → OnOk result (Extends g mid new) → OnOk result (Extends (f then g) old new)
then_on (Ok x) f g old mid new h k = extends_then f g old mid new h k
then_on (Err e) f g old mid new h k = tt

-- a form whose writes aren't sure
pub left_out : (f : Finds) (old walked new : Lists) (copy : List Range) → Extends f old walked → offsets_of copy ≡ offsets_of old.written → wholes_of copy ≡ wholes_of old.written → new ≡ record { uncovered = walked.uncovered; may = walked.may; written = copy } → Extends (perhaps f) old new
left_out f old walked new copy h o w e =
    subst (Extends (perhaps f) old) (sym e) (record { uncovered = h.uncovered; may = h.may; written = o; wholes = w })

-- a condition, and two blocks of which one is performed
pub branched : {E : Type 0} (result : Result (Unit {0}) E) (c f g : Finds) (old tested one between two new : Lists) (copy kept : List Range) → Extends c old tested → offsets_of copy ≡ offsets_of tested.written → wholes_of copy ≡ wholes_of tested.written → Extends f tested one → between ≡ record { uncovered = one.uncovered; may = one.may; written = copy } → kept ≡ one.written → Extends g between two → OnOk result (KeepsCommon kept two new) → OnOk result (Extends (c then either f g) old new)
branched (Ok u) c f g old tested one between two new copy kept h o w a b k d n =
    extends_then c (either f g) old tested new h
    (subst (Extends (either f g) tested) same
    (extends_either f g tested one two copy new.written o w a (subst (λ l. Extends g l two) b d)
    (n.offsets ∙ ap (λ l. in_both (offsets_of l) (offsets_of two.written)) k)
    (n.wholes ∙ ap (λ l. whole_in_both (wholes_of l) (wholes_of two.written)) k)))
  where
    same : record { uncovered = two.uncovered; may = two.may; written = new.written } ≡ new
    same = λ i. record { uncovered = sym n.uncovered i; may = sym n.may i; written = new.written }
branched (Err e) c f g old tested one between two new copy kept h o w a b k d n = tt

turns_are : (low high : Bound) (s : List Sweep) (body : Finds) → has_no_turn low high ≡ false → (λ w. record (body w) { written = swept low high s w }) ≡ turns low high s body
turns_are low high s body e = λ i w. if sym e i then finds_nothing w else record (body w) { written = swept low high s w }

-- the turns of a loop
turned_now : (low high : Bound) (s : List Sweep) (body : Finds) (old walked back new : Lists) (copy : List Range) → has_no_turn low high ≡ false → Extends body old walked → offsets_of copy ≡ offsets_of old.written → wholes_of copy ≡ wholes_of old.written → back ≡ record { uncovered = walked.uncovered; may = walked.may; written = copy } → IsSwept (swept low high s) back new → Extends (turns low high s body) old new
turned_now low high s body old walked back new copy e h o w b n =
    subst (λ finds. Extends finds old new) (turns_are low high s body e)
    (record {
      uncovered = subst (λ l. Joins (body (offsets_of old.written)).uncovered old.uncovered l) (sym (n.uncovered ∙ ap (λ (l : Lists). l.uncovered) b)) h.uncovered;
      may = subst (λ l. Joins (body (offsets_of old.written)).may old.may l) (sym (n.may ∙ ap (λ (l : Lists). l.may) b)) h.may;
      written = n.offsets ∙ ap (λ (l : Lists). swept low high s (offsets_of l.written)) b ∙ ap (swept low high s) o;
      wholes = n.wholes ∙ ap (λ (l : Lists). wholes_of l.written) b ∙ w;
    })

pub turned : {E : Type 0} (result : Result (Unit {0}) E) (low high : Bound) (s : List Sweep) (body : Finds) (old walked back new : Lists) (copy : List Range) → has_no_turn low high ≡ false → Extends body old walked → offsets_of copy ≡ offsets_of old.written → wholes_of copy ≡ wholes_of old.written → back ≡ record { uncovered = walked.uncovered; may = walked.may; written = copy } → OnOk result (IsSwept (swept low high s) back new) → OnOk result (Extends (turns low high s body) old new)
turned (Ok u) low high s body old walked back new copy e h o w b n = turned_now low high s body old walked back new copy e h o w b n
turned (Err x) low high s body old walked back new copy e h o w b n = tt

-- the turns of a loop without sweeps
pub turned_plainly : (low high : Bound) (body : Finds) (old walked new : Lists) (copy : List Range) → has_no_turn low high ≡ false → Extends body old walked → offsets_of copy ≡ offsets_of old.written → wholes_of copy ≡ wholes_of old.written → new ≡ record { uncovered = walked.uncovered; may = walked.may; written = copy } → Extends (turns low high [] body) old new
turned_plainly low high body old walked new copy e h o w b =
    turned_now low high [] body old walked new new copy e h o w b
    (record { uncovered = refl; may = refl; offsets = sym (swept_by_none low high (offsets_of new.written)); wholes = refl })

-- a list that was lent as a whole, and written through
pub written_back : (lent new : List Bound) (long : ℕ) → length new ≡ length lent → long ≡ length lent → take long (new ++ drop (length new) lent) ≡ new
written_back lent new long e k =
    let none : length lent ≤ length new = omega (arith, e) in
    let all : length new ≤ long = omega (arith, e, k) in
    ap (λ z. take long (new ++ z)) (drop_all (length new) lent none) ∙ ap (take long) (append-nil new) ∙ take_all long new all

-- a call of a function that stands there
pub called : (fs : List Function) (f below : ℕ) (callee : Function) (given known : List Bound) → f < below → slice_get fs f ≡ Some callee → given ≡ known → entered (call_before fs f) (Some callee) given ≡ call_before fs below f known
called fs f below callee given known h is e =
    ap (entered (call_before fs f) (Some callee)) e ∙ ap (λ o. entered (call_before fs f) o known) (sym is) ∙ sym (call_of fs f below known h)

-- a function that is entered, with its slots in tables
pub entered_is : (call : ℕ → List Bound → Entered) (tables : code.Slots) (f : code_function.Function) (given own : List Bound) (count : ℕ) → sets_of tables ≡ with_block (function f).body (record { assigned = no_slot; declared = no_slot }) → count ≡ length f.slots.items → own ≡ own_bounds (has_slot tables.assigned) count given → record {
  bound = expression_bound (record { is_assigned = has_slot tables.assigned; call = call }) (bounds_at_end (record { is_assigned = has_slot tables.assigned; call = call }) own (function f).body) (function f).answer;
  finds = block_then (record { is_assigned = has_slot tables.assigned; call = call }) own (function f).body (function f).answer;
} ≡ entered call (Some (function f)) given
entered_is call tables f given own count e n k =
    (λ i. record {
      bound = expression_bound (record { is_assigned = has_slot tables.assigned; call = call }) (bounds_at_end (record { is_assigned = has_slot tables.assigned; call = call }) (k i) (function f).body) (function f).answer;
      finds = block_then (record { is_assigned = has_slot tables.assigned; call = call }) (k i) (function f).body (function f).answer;
    })
    ∙ ap (λ (assigned : ℕ → Bool). record {
      bound = expression_bound (record { is_assigned = assigned; call = call }) (bounds_at_end (record { is_assigned = assigned; call = call }) (own_bounds assigned count given) (function f).body) (function f).answer;
      finds = block_then (record { is_assigned = assigned; call = call }) (own_bounds assigned count given) (function f).body (function f).answer;
    }) (assigned_in tables (function f).body e)
    ∙ ap (λ m. record {
      bound = expression_bound (setting_in call (function f).body) (bounds_at_end (setting_in call (function f).body) (own_bounds (setting_in call (function f).body).is_assigned m given) (function f).body) (function f).answer;
      finds = block_then (setting_in call (function f).body) (own_bounds (setting_in call (function f).body).is_assigned m given) (function f).body (function f).answer;
    }) (n ∙ sym (length-map f.slots.items name))
