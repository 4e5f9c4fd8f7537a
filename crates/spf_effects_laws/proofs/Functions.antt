-- Calls of functions do no more than is found in them.
use Rattle.std.proofs.Common.{◌≡◌, ℕ, zero, suc, ◌+◌, ◌<◌, ◌≤◌, Bool, true, false, List, [], ◌∷◌, ◌++◌, length, replicate, Option, Some, None, ℤ, refl, sym, ap, ◌∙◌, subst, arith}
use Rattle.std.specs.Prelude.{◌-◌, if◌then◌else◌, ◌==◌, nat_lt, IfSome, slice_index, slice_get}
use Rattle.std.proofs.lemmas.List.{length-append, length-replicate}
use Rattle.std.proofs.lemmas.Bool.Decides.{Decides-eqb}
use Rattle.spf_ast.specs.Syntax.{Block, Function, Program}
use Rattle.spf_ast.specs.Interaction.{Interaction, Answer, State, Ending, Value, Trapped, bind}
use Rattle.spf_ast.specs.Meaning.{Environment, Extent, with_slots, own_slots, function_means, holds_arguments, callable_before, environment_before}
use Rattle.spf_ast.specs.Meaning as means
use Rattle.spf_ast.specs.Lawful.{parameters, scope_at_end, declared_in, IsLawfulFunction, IsScoped, names_at}
use Rattle.spf_region.specs.declared.bound.Bound.{Bound}
use Rattle.spf_region.specs.declared.bound.Bound.TheVariants.{Unknown}
use Rattle.spf_region.specs.Ranges.{Offsets}
use Rattle.spf_region.proofs.Bools.{both-true}
use Rattle.spf_effects_findings.specs.Found.{Finds}
use Rattle.spf_effects_findings.specs.Forms.{Entered, Setting, bounds_at_end}
use Rattle.spf_effects_findings.specs.Parts.{parameter_bounds, own_bounds, setting_in, entered}
use Rattle.spf_effects_findings.specs.Parts as parts
use Rattle.spf_effects_laws.proofs.Ways.{keeps-bind}
use Rattle.spf_effects_laws.proofs.Meeting.{IsWithin, bound_at, IsAmong, EndsWith, Meets, AreWithin, EachWithin, IsKnown}
use Rattle.spf_effects_laws.proofs.Meets.{meets-then, meets-post, meets-value}
use Rattle.spf_effects_laws.proofs.Leaves.{meets-onward}
use Rattle.spf_ast.proofs.GoingOn.{block-goes, lawful-keeps}
use Rattle.spf_effects_laws.proofs.Expressions.{expression-meets}
use Rattle.spf_effects_laws.proofs.Slots.{IsScope}
use Rattle.spf_effects_laws.proofs.Statements.{block-meets}

-- ---- a function's slots

pub unknown-all : (m y : ℕ) → bound_at (replicate m Unknown) y ≡ Unknown
unknown-all zero y = refl
unknown-all (suc m) zero = refl
unknown-all (suc m) (suc y) = unknown-all m y

parameters-within : (k : ℤ) (is_assigned : ℕ → Bool) (x m : ℕ) (bounds : List Bound) (values zeros : List ℤ) → EachWithin k bounds values → AreWithin k (parameter_bounds is_assigned x bounds ++ replicate m Unknown) (values ++ zeros)
parameters-within k is_assigned x m [] values zeros p y = rw (unknown-all m y) tt
parameters-within k is_assigned x m (b ∷ bounds) [] zeros p y = absurd p
parameters-within k is_assigned x m (b ∷ bounds) (z ∷ values) zeros p zero = go (is_assigned x)
  where
    go : (t : Bool) → IsWithin k (if t then Unknown else b) z
    go true = tt
    go false = p.0
parameters-within k is_assigned x m (b ∷ bounds) (z ∷ values) zeros p (suc y) = parameters-within k is_assigned (suc x) m bounds values zeros p.1 y

parameters-fresh : (is_assigned : ℕ → Bool) (x m : ℕ) (bounds : List Bound) (y : ℕ) → length bounds ≤ y → bound_at (parameter_bounds is_assigned x bounds ++ replicate m Unknown) y ≡ Unknown
parameters-fresh is_assigned x m [] y le = unknown-all m y
parameters-fresh is_assigned x m (b ∷ bounds) zero le = absurd (omega (arith, le))
parameters-fresh is_assigned x m (b ∷ bounds) (suc y) le = parameters-fresh is_assigned (suc x) m bounds y (omega (arith, le))

parameters-assigned : (is_assigned : ℕ → Bool) (x m : ℕ) (bounds : List Bound) (y : ℕ) → is_assigned (x + y) ≡ true → bound_at (parameter_bounds is_assigned x bounds ++ replicate m Unknown) y ≡ Unknown
parameters-assigned is_assigned x m [] y set = unknown-all m y
parameters-assigned is_assigned x m (b ∷ bounds) zero set =
    let same : x + 0 ≡ x = omega arith in
    let set' : is_assigned x ≡ true = ap is_assigned (sym same) ∙ set in
    ap (λ t. if t then Unknown else b) set'
parameters-assigned is_assigned x m (b ∷ bounds) (suc y) set =
    let same : suc x + y ≡ x + suc y = omega arith in parameters-assigned is_assigned (suc x) m bounds y (ap is_assigned same ∙ set)

-- ---- a function

own-meets : (g : List Extent) (k : ℤ) (f : Finds) (b : Bound) (slots : List ℤ) (t : Interaction (Ending ℤ)) → Meets g k f (λ z e d. IsWithin k b z) t → Meets g k f (λ z e d. (e.slots ≡ slots) × IsWithin k b z) (bind t (λ e. Answer (with_slots slots e)))
own-meets g k f b slots t m = record {
  holds = λ w done stored. keeps-bind (IsAmong g k (f w).may) (IsAmong g k (f w).uncovered) (EndsWith g k (f w).written (λ z e d. IsWithin k b z)) (EndsWith g k (f w).written (λ z e d. (e.slots ≡ slots) × IsWithin k b z)) (λ e. Answer (with_slots slots e)) (ending w) t done (m.holds w done stored);
}
  where
    ending : (w : Offsets) (e : Ending ℤ) (d : List ℕ) → EndsWith g k (f w).written (λ z e d. IsWithin k b z) e d → EndsWith g k (f w).written (λ z e d. (e.slots ≡ slots) × IsWithin k b z) (with_slots slots e) d
    ending w (Value z e) d h = (h.0, (refl, h.1))
    ending w (Trapped t' out) d h = tt

zero-plus : (x : ℕ) → 0 + x ≡ x
zero-plus x = omega arith

room : (count given : ℕ) → count ≤ given + (count - given)
room count given = omega arith

function-meets : (p : Program) (index : ℕ) (g : Environment) (k : ℤ) (calls : ℕ → List Bound → Entered) (f : Function) → IsLawfulFunction p index f → IsKnown g (setting_in calls f.body) k (names_at p index f.slots) → (bounds : List Bound) (values : List ℤ) (s : State) → f.params ≡ length bounds → EachWithin k bounds values → Meets g.extents k (entered calls (Some f) bounds).finds (λ z e d. (e.slots ≡ s.slots) × IsWithin k (entered calls (Some f) bounds).bound z) (function_means g (Some f) values s)
function-meets p index g k calls f lawful known bounds values s count within =
    let v : Setting = setting_in calls f.body in
    let size : ℕ = length f.slots in
    let env : List Bound = own_bounds v.is_assigned size bounds in
    let own : List ℤ = own_slots size values in
    let scope : IsScope v f.params env = record {
      fresh = λ x le. parameters-fresh v.is_assigned 0 (size - length bounds) bounds x (omega (arith, count, le));
      assigned = λ x set. parameters-assigned v.is_assigned 0 (size - length bounds) bounds x (ap v.is_assigned (zero-plus x) ∙ set);
    } in
    let len : size ≤ length own = simp (length-append, length-replicate) (room size (length values)) in
    let fits : f.params + declared_in f.body ≤ size = omega (arith, lawful.slots) in
    own-meets g.extents k _ _ s.slots _
    (meets-then (meets-onward (block-goes g f.body (lawful-keeps (names_at p index f.slots) false (parameters f.params) f.body lawful.body refl) (record { slots = own; output = s.output })) (block-meets g v k (names_at p index f.slots) false size known f.body (parameters f.params) env lawful.body (λ x e. e) scope fits (record { slots = own; output = s.output }) len (parameters-within k v.is_assigned 0 (size - length bounds) bounds values _ within)))
    (λ u e d h. meets-post (λ z e' d' r. r.1) (expression-meets g v k (names_at p index f.slots) (scope_at_end (parameters f.params) f.body) (bounds_at_end v env f.body) f.answer_line known f.answer lawful.answer e h.0)))

-- ---- all functions

some-inside : {X : Type 0} (xs : List X) (i : ℕ) (x : X) → slice_get xs i ≡ Some x → i < length xs
some-inside [] i x e = cc
some-inside (y ∷ xs) zero x e = omega arith
some-inside (y ∷ xs) (suc i) x e = let h = some-inside xs i x e in omega (arith, h)

none-outside : {X : Type 0} (xs : List X) (i : ℕ) → slice_get xs i ≡ None → i < length xs → ⊥
none-outside [] i e below = omega (arith, below)
none-outside (y ∷ xs) zero e below = cc
none-outside (y ∷ xs) (suc i) e below = none-outside xs i e (omega (arith, below))

-- a call that may be named is made
callable-made : (p : Program) → IsScoped p → (index f count : ℕ) → index ≤ length p.functions → f < index → IfSome (slice_get p.functions f) (λ h. h.params ≡ count) → callable_before p.functions index f count ≡ true
callable-made p scoped index f count le below params = both-true _ _ before (go (slice_get p.functions f) refl params (scoped.functions f))
  where
    before : nat_lt f index ≡ true
    before = grind (arith, below)

    go : (o : Option Function) → slice_get p.functions f ≡ o → IfSome o (λ h. h.params ≡ count) → IfSome o (IsLawfulFunction p f) → holds_arguments o count ≡ true
    go None e i l = absurd (none-outside p.functions f e (omega (arith, below, le)))
    go (Some h) e i l = let fits : count ≤ length h.slots = omega (arith, i, l.slots) in grind (arith, fits)

-- calls of the functions before an index do no more than is found in them
abbrev pub CallsMeet : Program → List ℕ → List Extent → ℤ → ℕ → Type 0
CallsMeet p input extents k index =
    (f : ℕ) (bounds : List Bound) (values : List ℤ) (s : State) → f < index → IfSome (slice_get p.functions f) (λ h. h.params ≡ length bounds) → EachWithin k bounds values → Meets extents k (parts.call_before p.functions index f bounds).finds (λ z e d. (e.slots ≡ s.slots) × IsWithin k (parts.call_before p.functions index f bounds).bound z) (means.call_before input extents p.functions index f values s)

-- so a block knows of its calls
known-where : (p : Program) (input : List ℕ) (extents : List Extent) (k : ℤ) → ((i : ℕ) → i < length input → slice_index input i < 256) → IsScoped p → (index : ℕ) → index ≤ length p.functions → CallsMeet p input extents k index → (slots : List (List ℕ)) (block : Block) → IsKnown (environment_before input extents p.functions index) (setting_in (parts.call_before p.functions index) block) k (names_at p index slots)
known-where p input extents k bytes scoped index le calls slots block = record {
  bytes = bytes;
  called = λ f b v s c q. calls f b v s c.0 c.1 q;
  callable = λ f count c. callable-made p scoped index f count le c.0 c.1;
}

-- and so do calls of one more function
next-meet : (p : Program) (input : List ℕ) (extents : List Extent) (k : ℤ) → ((i : ℕ) → i < length input → slice_index input i < 256) → IsScoped p → (index : ℕ) → CallsMeet p input extents k index → CallsMeet p input extents k (suc index)
next-meet p input extents k bytes scoped index calls f bounds values s below params within = choose (f == index) refl
  where
    g : Environment
    g = environment_before input extents p.functions index

    here : (o : Option Function) → slice_get p.functions index ≡ o → IfSome o (λ h. h.params ≡ length bounds) → IfSome o (IsLawfulFunction p index) → Meets extents k (entered (parts.call_before p.functions index) o bounds).finds (λ z e d. (e.slots ≡ s.slots) × IsWithin k (entered (parts.call_before p.functions index) o bounds).bound z) (function_means g o values s)
    here None e i l = meets-value (λ d. (refl, tt))
    here (Some h) e i l =
        let inside = some-inside p.functions index h e in
        function-meets p index g k (parts.call_before p.functions index) h l (known-where p input extents k bytes scoped index (omega (arith, inside)) calls h.slots h.body) bounds values s i within

    choose : (b : Bool) → (f == index) ≡ b → Meets extents k (if◌then◌else◌ {A = Entered} b (entered (parts.call_before p.functions index) (slice_get p.functions index) bounds) (parts.call_before p.functions index f bounds)).finds (λ z e d. (e.slots ≡ s.slots) × IsWithin k (if◌then◌else◌ {A = Entered} b (entered (parts.call_before p.functions index) (slice_get p.functions index) bounds) (parts.call_before p.functions index f bounds)).bound z) ((if b then function_means g (slice_get p.functions index) values else means.call_before input extents p.functions index f values) s)
    choose true e =
        let same : f ≡ index = (Decides-eqb f index).0 e in
        here (slice_get p.functions index) refl (subst (λ i. IfSome (slice_get p.functions i) (λ h. h.params ≡ length bounds)) same params) (scoped.functions index)
    choose false e =
        let less : f < index = grind (arith, e, below) in
        calls f bounds values s less params within

calls-meet : (p : Program) (input : List ℕ) (extents : List Extent) (k : ℤ) → ((i : ℕ) → i < length input → slice_index input i < 256) → IsScoped p → (index : ℕ) → CallsMeet p input extents k index
calls-meet p input extents k bytes scoped zero f bounds values s below params within = absurd (omega (arith, below))
calls-meet p input extents k bytes scoped (suc index) f bounds values s below params within =
    next-meet p input extents k bytes scoped index (calls-meet p input extents k bytes scoped index) f bounds values s below params within

-- the forms of a block from which the functions before an index may be called
pub known-before : (p : Program) (input : List ℕ) (extents : List Extent) (k : ℤ) → ((i : ℕ) → i < length input → slice_index input i < 256) → IsScoped p → (index : ℕ) → index ≤ length p.functions → (slots : List (List ℕ)) (block : Block) → IsKnown (environment_before input extents p.functions index) (setting_in (parts.call_before p.functions index) block) k (names_at p index slots)
known-before p input extents k bytes scoped index le slots block =
    known-where p input extents k bytes scoped index le (calls-meet p input extents k bytes scoped index) slots block
