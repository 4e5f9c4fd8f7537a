-- Expressions, arguments and conditions do no more than is found in them, and give values within their bounds.
use Rattle.std.proofs.Common.{◌≡◌, inl, inr, ℕ, suc, ◌+◌, ◌<◌, Bool, true, false, List, [], ◌∷◌, length, ℤ, pos, negsuc, refl, sym, ap, ◌∙◌, subst, arith}
use Rattle.std.specs.Prelude.{◌-ℤ◌, ◌*ℤ◌, Result, Ok, Err, if◌then◌else◌, nat_lt, slice_index}
use Rattle.std.proofs.lemmas.Int.{ints}
use Rattle.spf_ast.specs.declared.outcome.TrapKind.{TrapKind}
use Rattle.spf_ast.specs.Syntax.{Expression, Number, Local, Len, Input, Load, Call, Neg, Binary, Arguments, no_more, argument}
use Rattle.spf_ast.specs.Syntax.{Condition, Compare, Both, Either, Not}
use Rattle.spf_ast.specs.Interaction.{Answer, AskLoad, bind, State, Value, after_ending, Meaning, ◌>>=◌}
use Rattle.spf_ast.specs.Meaning.{Environment, Extent, extent_in, cell_of, byte_of, checked, loads, gives, count_of, expression_means, arguments_mean, condition_means}
use Rattle.spf_ast.specs.Lawful.{Names, Scope, IsCallable, IsLawfulExpression, AreLawfulArguments, IsLawfulCondition}
use Rattle.spf_ast.specs.Word.{sub_words, binary_words}
use Rattle.spf_region.specs.declared.bound.Bound.{Bound}
use Rattle.spf_region.specs.declared.bound.Bound.TheVariants.{Known, Unknown}
use Rattle.spf_region.specs.declared.range.Range.TheVariants.{Affine}
use Rattle.spf_region.specs.Ranges.{Offsets, covers}
use Rattle.spf_region.proofs.Covers.{covers-each}
use Rattle.spf_effects_findings.specs.Found.{Finds, ◌then◌, perhaps, reads_element}
use Rattle.spf_effects_findings.specs.Forms.{Setting, expression_bound, argument_bounds, expression_finds, arguments_find, condition_finds}
use Rattle.spf_effects_laws.specs.Ways.{Keeps}
use Rattle.spf_effects_laws.proofs.Meeting.{IsWithin, IsElement, IsAmong, AreStored, EndsWith, Meets, AreWithin, EachWithin, IsKnown}
use Rattle.spf_effects_laws.proofs.Meets.{meets-then, meets-post, meets-perhaps, meets-perhaps-nothing, meets-after, meets-value, meets-trap, meets-checked}
use Rattle.spf_effects_laws.proofs.Products.{zero-mul}
use Rattle.spf_effects_laws.proofs.Within.{kept-within, negated-within, binary-within}

-- ---- a cell of an array

if-cell : (b : Bool) (base i cell : ℕ) (why : TrapKind) → (if b then Ok (base + i) else Err why) ≡ Ok cell → (b ≡ true) × (cell ≡ base + i)
if-cell true base i cell why e = (refl, cc)
if-cell false base i cell why e = cc

pub cell_of-is : (extent : Extent) (z : ℤ) (cell : ℕ) → cell_of extent z ≡ Ok cell → (index : ℕ) × IsElement extent cell index × (z ≡ pos index)
cell_of-is extent (pos i) cell e =
    let h = if-cell (nat_lt i extent.1) extent.0 i cell _ e in
    let t : nat_lt i extent.1 ≡ true = h.0 in
    (i, record { inside = grind (arith, t); is = h.1 }, refl)
cell_of-is extent (negsuc i) cell e = cc

-- ---- a load

load-known : (g : Environment) (k : ℤ) (a : ℕ) (f l h z : ℤ) (cell index : ℕ) (s : State) (w : Offsets) (done : List ℕ) → IsWithin k (Known f l h) z → IsElement (extent_in g.extents a) cell index → z ≡ pos index → AreStored g.extents k w done → (b : Bool) → covers w (Affine a f l h) ≡ b → Keeps (IsAmong g.extents k []) (IsAmong g.extents k (if b then [] else Affine a f l h ∷ [])) (EndsWith g.extents k w (λ x e d. e.slots ≡ s.slots)) done (AskLoad cell (λ x. Answer (Value x s)))
load-known g k a f l h z cell index s w done within el is stored true e =
    let o = z -ℤ (f *ℤ k) in
    let c : w a f o ≡ true = covers-each w a f l h e o (omega (arith, ints, within.0)) (omega (arith, ints, within.1)) in
    (inr (stored a f o cell index c el (omega (arith, ints))), λ x. (stored, refl))
load-known g k a f l h z cell index s w done within el is stored false e =
    (inl (inl (index, el, (rw is at within.0), (rw is at within.1))), λ x. (stored, refl))

load-found : (g : Environment) (k : ℤ) (a : ℕ) (b : Bound) (z : ℤ) (cell index : ℕ) (s : State) → IsWithin k b z → IsElement (extent_in g.extents a) cell index → z ≡ pos index → Meets g.extents k (reads_element a b) (λ x e d. e.slots ≡ s.slots) (AskLoad cell (λ x. Answer (Value x s)))
load-found g k a Unknown z cell index s within el is = record { holds = λ w done stored. (inl (inl (index, el)), λ x. (stored, refl)) }
load-found g k a (Known f l h) z cell index s within el is = record { holds = λ w done stored. load-known g k a f l h z cell index s w done within el is stored (covers w (Affine a f l h)) refl }

load-meets : (g : Environment) (k : ℤ) (a : ℕ) (b : Bound) (z : ℤ) (line : ℕ) (s : State) → IsWithin k b z → Meets g.extents k (reads_element a b) (λ x e d. e.slots ≡ s.slots) (bind (checked line (cell_of (extent_in g.extents a) z) s) (after_ending loads))
load-meets g k a b z line s within = go (cell_of (extent_in g.extents a) z) refl
  where
    go : (r : Result ℕ TrapKind) → cell_of (extent_in g.extents a) z ≡ r → Meets g.extents k (reads_element a b) (λ x e d. e.slots ≡ s.slots) (bind (checked line r s) (after_ending loads))
    go (Ok cell) e = let h = cell_of-is (extent_in g.extents a) z cell e in load-found g k a b z cell h.0 s within h.1 h.2
    go (Err why) e = meets-trap _ _

-- a byte
if-byte : (b : Bool) (n : ℕ) (z : ℤ) (why : TrapKind) → (if b then Ok (pos n) else Err why) ≡ Ok z → (b ≡ true) × (z ≡ pos n)
if-byte true n z why e = (refl, cc)
if-byte false n z why e = cc

byte-within : (input : List ℕ) (k : ℤ) → ((i : ℕ) → i < length input → slice_index input i < 256) → (i z : ℤ) → byte_of input i ≡ Ok z → IsWithin k (Known (pos 0) (pos 0) (pos 255)) z
byte-within input k bytes (pos i) z e =
    let h = if-byte (nat_lt i (length input)) (slice_index input i) z _ e in
    let t : nat_lt i (length input) ≡ true = h.0 in
    let below : slice_index input i < 256 = bytes i (grind (arith, t)) in
    (omega (arith, ints, zero-mul k, h.1), omega (arith, ints, zero-mul k, h.1))
byte-within input k bytes (negsuc i) z e = cc

-- ---- expressions

-- as many bounds as arguments
count-bounds : (v : Setting) (env : List Bound) (given : Arguments) → length (argument_bounds v env given) ≡ count_of given
count-bounds v env no_more = refl
count-bounds v env (argument first rest) = ap suc (count-bounds v env rest)

-- one of two forms by a test that holds
when-true : {A : Type 0} (g : List Extent) (k : ℤ) (finds : Finds) (b : Bool) (first second : Meaning A) (s : State) (post : A → State → List ℕ → Type 0) → b ≡ true → Meets g k finds post (first s) → Meets g k finds post ((if b then first else second) s)
when-true g k finds true first second s post e m = m
when-true g k finds false first second s post e m = cc

mutual
  pub expression-meets : (g : Environment) (v : Setting) (k : ℤ) (names : Names) (scope : Scope) (env : List Bound) (line : ℕ) → IsKnown g v k names → (e : Expression) → IsLawfulExpression names scope e → (s : State) → AreWithin k env s.slots → Meets g.extents k (expression_finds v env e) (λ z f d. (f.slots ≡ s.slots) × IsWithin k (expression_bound v env e) z) (expression_means g line e s)
  expression-meets g v k names scope env line known (Number n) l s p = meets-value (λ d. (refl, kept-within k (pos 0) n n n (omega (arith, ints, zero-mul k), omega (arith, ints, zero-mul k))))
  expression-meets g v k names scope env line known (Local x) l s p = meets-value (λ d. (refl, p x))
  expression-meets g v k names scope env line known Len l s p = meets-value (λ d. (refl, tt))
  expression-meets g v k names scope env line known (Input e) l s p =
      meets-after (expression-meets g v k names scope env line known e l s p) (λ i f d h. meets-checked line (byte_of g.input i) f (λ z d' is. (h.0, byte-within g.input k known.bytes i z is)))
  expression-meets g v k names scope env line known (Load a e) l s p =
      meets-then (expression-meets g v k names scope env line known e l.1 s p)
      (λ i f d h. meets-post (λ x f' d' e'. (e' ∙ h.0, tt)) (load-meets g k a (expression_bound v env e) i line f h.1))
  expression-meets g v k names scope env line known (Call f given) l s p =
      when-true g.extents k _ (g.callable f (count_of given)) (arguments_mean g line given >>= g.call f) (gives (pos 0)) s (λ z f' d. (f'.slots ≡ s.slots) × IsWithin k (expression_bound v env (Call f given)) z) (known.callable f (count_of given) l.0)
      (meets-then (arguments-meet g v k names scope env line known given l.1 s p)
      (λ zs s' d h. meets-post (λ z f' d' e'. (e'.0 ∙ h.0, e'.1)) (known.called f (argument_bounds v env given) zs s' (subst (IsCallable names f) (sym (count-bounds v env given)) l.0) h.1)))
  expression-meets g v k names scope env line known (Neg e) l s p =
      meets-after (expression-meets g v k names scope env line known e l s p) (λ x f d h. meets-checked line (sub_words (pos 0) x) f (λ z d' is. (h.0, negated-within k (expression_bound v env e) x z h.1 is)))
  expression-meets g v k names scope env line known (Binary op a b) l s p =
      meets-then (expression-meets g v k names scope env line known a l.0 s p)
      (λ x f d h. meets-after (expression-meets g v k names scope env line known b l.1 f (rw h.0 p))
      (λ y f' d' i. meets-checked line (binary_words op x y) f' (λ z d'' is. (i.0 ∙ h.0, binary-within k op (expression_bound v env a) (expression_bound v env b) x y z h.1 i.1 is))))

  pub arguments-meet : (g : Environment) (v : Setting) (k : ℤ) (names : Names) (scope : Scope) (env : List Bound) (line : ℕ) → IsKnown g v k names → (given : Arguments) → AreLawfulArguments names scope given → (s : State) → AreWithin k env s.slots → Meets g.extents k (arguments_find v env given) (λ zs f d. (f.slots ≡ s.slots) × EachWithin k (argument_bounds v env given) zs) (arguments_mean g line given s)
  arguments-meet g v k names scope env line known no_more l s p = meets-value (λ d. (refl, tt))
  arguments-meet g v k names scope env line known (argument e rest) l s p =
      meets-then (expression-meets g v k names scope env line known e l.0 s p)
      (λ z f d h. meets-after (arguments-meet g v k names scope env line known rest l.1 f (rw h.0 p))
      (λ zs f' d' i. meets-value (λ d''. (i.0 ∙ h.0, (h.1, i.1)))))

-- ---- conditions

pub when : {A : Type 0} (g : List Extent) (k : ℤ) (finds : Finds) (b : Bool) (first second : Meaning A) (s : State) (post : A → State → List ℕ → Type 0) → Meets g k finds post (first s) → Meets g k finds post (second s) → Meets g k finds post ((if b then first else second) s)
when g k finds true first second s post m n = m
when g k finds false first second s post m n = n

pub condition-meets : (g : Environment) (v : Setting) (k : ℤ) (names : Names) (scope : Scope) (env : List Bound) (line : ℕ) → IsKnown g v k names → (c : Condition) → IsLawfulCondition names scope c → (s : State) → AreWithin k env s.slots → Meets g.extents k (condition_finds v env c) (λ b f d. f.slots ≡ s.slots) (condition_means g line c s)
condition-meets g v k names scope env line known (Compare test a b) l s p =
    meets-then (expression-meets g v k names scope env line known a l.0 s p)
    (λ x f d h. meets-after (expression-meets g v k names scope env line known b l.1 f (rw h.0 p)) (λ y f' d' i. meets-value (λ d''. i.0 ∙ h.0)))
condition-meets g v k names scope env line known (Both c d) l s p =
    meets-then (condition-meets g v k names scope env line known c l.0 s p) (λ b f d' h. when g.extents k (perhaps (condition_finds v env d)) b (condition_means g line d) (gives false) f (λ b f d. f.slots ≡ s.slots)
    (meets-perhaps (meets-post (λ b f' d' i. i ∙ h) (condition-meets g v k names scope env line known d l.1 f (rw h p))))
    (meets-perhaps-nothing (condition_finds v env d) (meets-value (λ d'. h))))
condition-meets g v k names scope env line known (Either c d) l s p =
    meets-then (condition-meets g v k names scope env line known c l.0 s p) (λ b f d' h. when g.extents k (perhaps (condition_finds v env d)) b (gives true) (condition_means g line d) f (λ b f d. f.slots ≡ s.slots)
    (meets-perhaps-nothing (condition_finds v env d) (meets-value (λ d'. h)))
    (meets-perhaps (meets-post (λ b f' d' i. i ∙ h) (condition-meets g v k names scope env line known d l.1 f (rw h p)))))
condition-meets g v k names scope env line known (Not c) l s p =
    meets-after (condition-meets g v k names scope env line known c l s p) (λ b f d h. meets-value (λ d'. h))
